-- While a ticket is left, something may be done or all is over.
use Rattle.std.proofs.Common.{◌≡◌, ◌⊎◌, ℕ, ◌<◌, true, false, List, [], ◌∷◌, refl, sym, ◌∙◌, ap, subst, ⊎_elim, inl, inr}
use Rattle.std.proofs.lemmas.Bool.{cases_Bool, both_ways, false_from_ne_true}
use Rattle.gl_base.specs.declared.entries.Entry.{Entry}
use Rattle.gl_base.specs.declared.scopes.ScopeId.{ScopeId}
use Rattle.graph_core.specs.DataGraph.{size}
use Rattle.cluster_laws.specs.cluster_core.Settings.{Setting, IsSetting, Engine, Locking}
use Rattle.cluster_laws.specs.cluster_core.Replays.{IsReplay, IsTask, tasks_of}
use Rattle.cluster_laws.specs.cluster_core.Ways.{vertex_woken}
use Rattle.cluster_laws.specs.cluster_core.Worlds.{World, way}
use Rattle.cluster_laws.specs.cluster_core.Actions.{Action, Admit, IsItsTurn, after}
use Rattle.cluster_laws.specs.cluster_core.Runs.{IsStart, IsActionRun}
use Rattle.cluster_laws.specs.cluster_core.Stages.{Stage}
use Rattle.cluster_laws.specs.cluster_core.Places.{ArePlaces}
use Rattle.cluster_laws.proofs.cluster_places.PlacesKept.{action_keeps}
use Rattle.cluster_laws.specs.cluster_moves.Due.{AreDue, AreFlightsCounted, IsStill, IsOver, CanWork}
use Rattle.cluster_laws.proofs.cluster_moves.SomethingMoves.{search_below, moves}
use Rattle.cluster_laws.proofs.cluster_moves.DueKept.{action_due, none_some}
use Rattle.cluster_laws.proofs.cluster_moves.CountedKept.{numbered, flights-none, action_counted}

module _ (st : Setting) (is : IsSetting st) (locks : st.engine ≡ Locking) (room : 0 < st.pipeline) (w : World) (counted : AreFlightsCounted st w) where
  -- where nothing is in flight a vertex that is due may be admitted
  admit_due : IsStill w → (v : ℕ) → v < size st.graph → ((w.part (st.owner v)).pending v ≡ true) ⊎ ((w.part (st.owner v)).task v ≡ true) → CanWork st w
  admit_due still v within due =
      let a : ℕ = st.owner v in
      let none : (w.part a).flying ≡ 0 = counted.number a ∙ flights-none a (w.part a).flight (w.part a).serial (λ k. still.flights (numbered a k)) in
      let free : IsItsTurn Locking st.pipeline v (w.part a) = subst (λ (n : ℕ). n < st.pipeline) (sym none) room in (
        Admit a v,
        tt,
        record {
          vertex = within;
          owned = refl;
          due = due;
          fresh = λ s flies. none_some v (sym (still.flights s) ∙ ap (λ (b : ℕ). (w.part b).flight s) (counted.home a s v flies) ∙ flies);
          turn = subst (λ (engine : Engine). IsItsTurn engine st.pipeline v (w.part a)) (sym locks) free;
        },
      )

  over_or_due : IsStill w → CanWork st w ⊎ IsOver st w
  over_or_due still =
      ⊎_elim
      (λ (found : (v : ℕ) × (v < size st.graph) × CanWork st w). inl found.2)
      (λ (none : (v : ℕ) → v < size st.graph → ((w.part (st.owner v)).task v ≡ false) × ((w.part (st.owner v)).pending v ≡ false)).
      inr (record { still = still; no_task = λ v within. (none v within).0; none_pending = λ v within. (none v within).1 }))
      (search_below (size st.graph) (λ v. CanWork st w) (λ v. ((w.part (st.owner v)).task v ≡ false) × ((w.part (st.owner v)).pending v ≡ false)) (λ v within. ⊎_elim
      (λ (task : (w.part (st.owner v)).task v ≡ true). inl (admit_due still v within (inr task)))
      (λ (no_task : (w.part (st.owner v)).task v ≡ false). ⊎_elim
      (λ (pending : (w.part (st.owner v)).pending v ≡ true). inl (admit_due still v within (inl pending)))
      (λ (not_pending : (w.part (st.owner v)).pending v ≡ false). inr (no_task, not_pending))
      (cases_Bool ((w.part (st.owner v)).pending v)))
      (cases_Bool ((w.part (st.owner v)).task v))))

  pub works_or_over : (stage : ScopeId → Stage) → ArePlaces st w stage → AreDue w → 0 < w.left → CanWork st w ⊎ IsOver st w
  works_or_over stage places due ticket =
      ⊎_elim
      (λ (can : CanWork st w). inl can)
      (λ (still : IsStill w). over_or_due still)
      (moves st is w stage places due ticket)

pub run_works : (st : Setting) → IsSetting st → st.engine ≡ Locking → 0 < st.pipeline → (actions : List Action) (old new : World) (stage : ScopeId → Stage) → ArePlaces st old stage → AreDue old → AreFlightsCounted st old → IsActionRun st old actions new → 0 < new.left → CanWork st new ⊎ IsOver st new
run_works st is locks room [] old new stage places due counted run ticket =
    subst (λ (w : World). 0 < w.left → CanWork st w ⊎ IsOver st w) (sym run) (works_or_over st is locks room old counted stage places due) ticket
run_works st is locks room (action ∷ actions) old new stage places due counted run ticket =
    let next = action_keeps st is locks old stage places action run.0 in
    run_works st is locks room actions (after st old action) new next.0 next.1 (action_due old due st stage places action run.0) (action_counted st old counted stage places action run.0) run.1 ticket

pub start_due : (st : Setting) (w : World) → IsStart st w → AreDue w
start_due st w start s v flies = absurd (none_some v (sym (start.flights s.home.0 s) ∙ flies))

-- who is a task of the order is one of its owner's, or will be woken by what is on the way
pub no_task_left : (st : Setting) (w : World) (order : List Entry) → IsReplay st w order → IsOver st w → (u : ℕ) → u < size st.graph → tasks_of st order u ≡ false
no_task_left st w order replay over u within =
    false_from_ne_true (tasks_of st order u) (λ is_task.
    let where_ : IsTask st w u = (replay.tasks u within).0 is_task in
    ⊎_elim
    (λ (task : (w.part (st.owner u)).task u ≡ true). both_ways ((w.part (st.owner u)).task u) (over.no_task u within) task)
    (λ (woken : (p : ℕ) × (vertex_woken u (way w p (st.owner u)) ≡ true)). both_ways (vertex_woken u (way w woken.0 (st.owner u))) (ap (vertex_woken u) (over.still.ways woken.0 (st.owner u))) woken.1)
    where_)
