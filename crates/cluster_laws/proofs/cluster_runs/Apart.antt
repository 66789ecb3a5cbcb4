-- With locks, and within a step of colours, scopes exclude one another in each world that a run comes through.
use Rattle.std.proofs.Common.{◌≡◌, ℕ, List, [], ◌∷◌}
use Rattle.gl_base.specs.declared.scopes.ScopeId.{ScopeId}
use Rattle.cluster_laws.specs.cluster_core.Actions.{Action, after}
use Rattle.cluster_laws.specs.cluster_core.Places.{ArePlaces}
use Rattle.cluster_laws.specs.cluster_core.Runs.{IsActionRun, IsApartRun}
use Rattle.cluster_laws.specs.cluster_core.Settings.{Locking, Chromatic, Setting, IsSetting}
use Rattle.cluster_laws.specs.cluster_core.Stages.{Stage}
use Rattle.cluster_laws.specs.cluster_core.Worlds.{World}
use Rattle.cluster_laws.specs.cluster_places.Steps.{AreApart, IsInStep}
use Rattle.cluster_laws.proofs.cluster_places.Excluding.{exclusive}
use Rattle.cluster_laws.proofs.cluster_places.PlacesKept.{action_keeps}
use Rattle.cluster_laws.proofs.cluster_places.StepsKept.{step_excludes, action_stays}

pub locked_run : (st : Setting) → IsSetting st → st.engine ≡ Locking → (actions : List Action) (old new : World) (stage : ScopeId → Stage) → ArePlaces st old stage → IsActionRun st old actions new → IsApartRun st old actions new
locked_run st is locks [] old new stage places run = run
locked_run st is locks (action ∷ actions) old new stage places run =
    let next = action_keeps st is locks old stage places action run.0 in
    (exclusive st is old stage places, run.0, locked_run st is locks actions (after st old action) new next.0 next.1 run.1)

pub step_run : (st : Setting) (colour : ℕ → ℕ) (colours step : ℕ) → st.engine ≡ Chromatic colour colours → AreApart st colour → (actions : List Action) (old new : World) → IsInStep st colour step old → IsActionRun st old actions new → IsApartRun st old actions new
step_run st colour colours step coloured apart [] old new in_step run = run
step_run st colour colours step coloured apart (action ∷ actions) old new in_step run = (
  step_excludes st colour step apart old in_step,
  run.0,
  step_run st colour colours step coloured apart actions (after st old action) new (action_stays st colour step colours coloured old in_step action run.0) run.1,
)
