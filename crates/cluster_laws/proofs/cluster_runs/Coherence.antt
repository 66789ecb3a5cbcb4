-- With locks a cluster starts coherent and stays so.
use Rattle.std.proofs.Common.{◌≡◌, ℕ, List, [], ◌∷◌, ◌++◌, sym, subst}
use Rattle.gl_base.specs.declared.scopes.ScopeId.{ScopeId}
use Rattle.cluster_laws.specs.cluster_core.Actions.{Action, MayUpdate, MayHappen, after}
use Rattle.cluster_laws.specs.cluster_core.Coherent.{IsCoherent}
use Rattle.cluster_laws.specs.cluster_core.Messages.{Message}
use Rattle.cluster_laws.specs.cluster_core.Places.{IsExclusive}
use Rattle.cluster_laws.specs.cluster_core.Receiving.{MayReceive}
use Rattle.cluster_laws.specs.cluster_core.Replays.{replay_of, IsFresh}
use Rattle.cluster_laws.specs.cluster_core.Runs.{IsStart, IsActionRun}
use Rattle.cluster_laws.specs.cluster_core.Settings.{Locking, Setting, IsSetting}
use Rattle.cluster_laws.specs.cluster_core.Stages.{Idle}
use Rattle.cluster_laws.specs.cluster_core.Worlds.{World}
use Rattle.cluster_laws.proofs.cluster_places.Excluding.{exclusive}
use Rattle.cluster_laws.proofs.cluster_places.Fronts.{front}
use Rattle.cluster_laws.proofs.cluster_places.PlacesKept.{action_keeps, start_placed}
use Rattle.cluster_laws.proofs.cluster_places.WorkedLocks.{start}
use Rattle.cluster_laws.proofs.cluster_numbers.Keeping.{action_goes_on, update_fresh}
use Rattle.cluster_laws.proofs.cluster_numbers.Starting.{copies_start, replay_start}

pub start_coherent : (st : Setting) → IsSetting st → (w : World) → IsStart st w → IsCoherent st w
start_coherent st is w start =
    record { stage = λ s. Idle; order = []; places = start_placed st w start; copies = copies_start st is w start; replay = replay_start st is w start }

module _ (st : Setting) (is : IsSetting st) (locks : st.engine ≡ Locking) (w : World) (coherent : IsCoherent st w) where
  apart_now : IsExclusive st w
  apart_now = exclusive st is w coherent.stage coherent.places

  pub coherent_next : (action : Action) → MayHappen st w action → IsCoherent st (after st w action)
  coherent_next action may =
      let placed = action_keeps st is locks w coherent.stage coherent.places action may in
      let gone = action_goes_on st is w coherent.order coherent.copies coherent.replay apart_now action may in
      record { stage = placed.0; order = coherent.order ++ gone.rest; places = placed.1; copies = gone.copies; replay = gone.replay }

  pub coherent_fresh : (s : ScopeId) (may : MayUpdate s (w.part s.home.0) w.left) → IsFresh st (replay_of st coherent.order) (w.part s.home.0) may.vertex
  coherent_fresh s may = update_fresh st is w coherent.order coherent.copies coherent.replay apart_now s may

  pub coherent_front : (p q : ℕ) (m : Message) (behind : List Message) → w.link p q ≡ m ∷ behind → MayReceive st p q (w.part q) m
  coherent_front p q m behind first = front st is w coherent.stage coherent.places p q (coherent.copies.told p q) m behind first

pub coherent_run : (st : Setting) → IsSetting st → st.engine ≡ Locking → (actions : List Action) (old new : World) → IsCoherent st old → IsActionRun st old actions new → IsCoherent st new
coherent_run st is locks [] old new coherent run = subst (IsCoherent st) (sym run) coherent
coherent_run st is locks (action ∷ actions) old new coherent run =
    coherent_run st is locks actions (after st old action) new (coherent_next st is locks old coherent action run.0) run.1
