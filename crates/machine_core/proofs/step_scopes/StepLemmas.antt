-- A machine that takes no locks and has admitted a scope.
use Rattle.std.proofs.Common.{◌≡◌, ℕ, true, false, None, Some, List, length, slice_get, refl, sym, ap, ◌∙◌, subst, ⊎_elim, inl, inr, true≢false}
use Rattle.std.proofs.lemmas.List.{length-set}
use Rattle.gl_base.specs.declared.numbers.Vertex.{Vertex}
use Rattle.gl_base.proofs.scope_lists.SameScope.{set_for-here}
use Rattle.cluster_laws.specs.cluster_core.Effects.{admitted, admitted_by, next_scope}
use Rattle.cluster_laws.specs.cluster_core.Scopes.{set_for}
use Rattle.cluster_laws.specs.cluster_core.Settings.{Chromatic, Engine, Setting}
use Rattle.task_sets.specs.task_sched.Tasks.{TasksView, is_flagged}
use Rattle.task_sets.specs.declared.task_sched.task_sets.Pick.{Pick}
use Rattle.scope_locks.specs.scope_pipe.Pipes.{PipeView, HasAdmitted, HasReadied, flight_at, next_id}
use Rattle.partition.specs.machine_numbers.Views.{flag_there}
use Rattle.machine_core.specs.declared.machine_parts.cores.Core.{Core}
use Rattle.machine_core.specs.machine_parts.Order.{IsOrderly, KnowsPlaces}
use Rattle.machine_core.specs.machine_parts.Parts.{part_of}
use Rattle.machine_core.specs.machine_parts.Settings.{SameSettings}
use Rattle.machine_core.specs.machine_scopes.Admitting.{CanTake, with_pick}
use Rattle.machine_core.proofs.machine_scopes.AdmitLemmas.{places_keep}
use Rattle.machine_core.proofs.machine_scopes.ComeLemmas.{orderly_readied}
use Rattle.machine_core.proofs.machine_scopes.EffectLemmas.{readied_part}
use Rattle.machine_core.proofs.machine_scopes.FlownLemmas.{admitted_is, numbers_picked, orderly_flown, part_flown, scope_is_new, task_stays, window_stays}
use Rattle.machine_core.proofs.machine_scopes.LawLemmas.{some_number}
use Rattle.machine_core.proofs.machine_scopes.PickLemmas.{pick_free, pick_kind, pick_own, pick_place}
use Rattle.machine_core.specs.step_scopes.Admitting.{IsDueThere, in_flight_ready}

-- a machine in order has nothing to do with the line in which pending vertices stand
orderly_asked : (m : Core) (asked : List Vertex) → IsOrderly m → IsOrderly (record m { numbers = record m.numbers { tasks = record m.numbers.tasks { asked = asked } } })
orderly_asked m asked is = record {
  graph = is.graph;
  numbers = numbers_picked m.numbers (record m.numbers.tasks { asked = asked }) m.terms.base refl refl is.numbers;
  entered = is.entered;
  locks = is.locks;
  flights = record {
    home = is.flights.home;
    given = is.flights.given;
    own = is.flights.own;
    single = is.flights.single;
    admitted = is.flights.admitted;
    flies = is.flights.flies;
    rows = is.flights.rows;
  };
  width = is.width;
}

module _ (m : Core) (pick : Pick) (v : Vertex) (is : IsOrderly m) (knows : KnowsPlaces m) (can : CanTake m.numbers.tasks pick) (at : slice_get m.by_place.items pick.vertex.0 ≡ Some v) where
  pub due_there : IsDueThere m pick.vertex pick.snapshot v
  due_there = record {
    at = at;
    own = pick_own m pick v is knows can at;
    kind = pick_kind m pick v is knows can at;
    due = ⊎_elim
        (λ (set : is_flagged m.numbers.tasks.pending pick.vertex.0 ≡ true). inl (ap (flag_there m.numbers.tasks.pending) (pick_place m pick v is knows can at) ∙ set))
        (λ (set : is_flagged m.numbers.tasks.task pick.vertex.0 ≡ true). inr (ap (flag_there m.numbers.tasks.task) (pick_place m pick v is knows can at) ∙ set))
        can.due;
    fresh = λ s flies. true≢false (sym (is.flights.admitted s v (some_number (flight_at m.pipe s) v.0 flies)) ∙ pick_free m pick v is knows can at);
  }

  -- `first` is the pipe once the scope is admitted, and `last` once it is ready
  module _ (first last : PipeView) (tasks : TasksView) (is_new : flight_at m.pipe (next_id m.pipe) ≡ None) (has : HasAdmitted m.pipe first v) (rest : first ≡ record m.pipe { serial = first.serial; waiting = first.waiting })
      (readied : HasReadied first last (next_id m.pipe)) (kept : last ≡ record first { waiting = last.waiting; ready = last.ready }) (taken : tasks ≡ record (with_pick m.numbers.tasks pick) { asked = tasks.asked }) where
    abbrev flown : Core
    flown = record m { numbers = record m.numbers { tasks = with_pick m.numbers.tasks pick }; pipe = first }

    abbrev new : Core
    new = record m { numbers = record m.numbers { tasks = tasks }; pipe = last }

    pub step_orderly : m.terms.locks ≡ false → IsOrderly new
    step_orderly none =
        let s = next_id m.pipe in
        let in_order = orderly_readied flown last s v (orderly_flown m pick v first is knows can at is_new has rest) (scope_is_new m pick v first is knows can at is_new has rest).come_not
        (has.flight s ∙ set_for-here (flight_at m.pipe) s (Some v)) (λ takes. absurd (true≢false (sym takes ∙ none))) readied kept in
        subst (λ (ts : TasksView). IsOrderly (record m { numbers = record m.numbers { tasks = ts }; pipe = last })) (sym taken) (orderly_asked (record flown { pipe = last }) tasks.asked in_order)

    pub step_places : KnowsPlaces new
    step_places = places_keep m new knows refl refl
        (ap (λ (ts : TasksView). length ts.task) taken ∙ ap length (task_stays m.numbers.tasks pick))
        (ap (λ (ts : TasksView). length ts.admitted) taken ∙ ap length (admitted_is m.numbers.tasks pick) ∙ length-set m.numbers.tasks.admitted pick.vertex.0 true)

    pub step_settings : SameSettings m new
    step_settings st part = record {
      local = part.local;
      machines = part.machines;
      engine = part.engine;
      pipeline = part.pipeline;
      base = part.base;
      window = ap (λ (ts : TasksView). ts.window) taken ∙ window_stays m.numbers.tasks pick ∙ part.window;
    }

    -- as the cluster sees it
    pub step_part : part_of new ≡ in_flight_ready m.numbers.local.me.0 v.0 (part_of m)
    step_part =
        let a = m.numbers.local.me.0 in
        let scope : next_id m.pipe ≡ next_scope a (part_of m) = λ i. record { home = is.flights.home i; serial = m.pipe.serial } in
        let flew = part_flown m pick v first is knows can at is_new has rest in
        ap (λ (ts : TasksView). part_of (record m { numbers = record m.numbers { tasks = ts }; pipe = last })) taken
        ∙ readied_part flown last (next_id m.pipe) readied kept
        ∙ (λ i. record (flew i) { ready = set_for (flew i).ready (scope i) true })

    pub step_admitted : (st : Setting) (colour : ℕ → ℕ) (colours : ℕ) → st.engine ≡ Chromatic colour colours → part_of new ≡ admitted st m.numbers.local.me.0 v.0 (part_of m)
    step_admitted st colour colours engine = step_part ∙ sym (ap (λ (e : Engine). admitted_by e st m.numbers.local.me.0 v.0 (part_of m)) engine)
