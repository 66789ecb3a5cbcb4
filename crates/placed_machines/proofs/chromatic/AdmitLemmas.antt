-- How a scope is admitted in a step, for each machine of the law.
use Rattle.std.proofs.Common.{◌≡◌, ℕ, suc, ◌<◌, ◌==◌, ◌&&◌, ◌||◌, Bool, true, false, Some, List, length, refl, sym, ap, ◌∙◌, subst, ⊎_elim, inl, inr, arith}
use Rattle.std.specs.Prelude.{is_none, is_some}
use Rattle.std.proofs.lemmas.Bool.{cases_Bool, ne_eqb}
use Rattle.gl_base.specs.declared.numbers.MachineNo.{MachineNo}
use Rattle.gl_base.specs.declared.numbers.Vertex.{Vertex}
use Rattle.graph_core.specs.DataGraph.{size}
use Rattle.update_api.specs.Updates.{Update}
use Rattle.cluster_laws.specs.cluster_core.Actions.{IsItsTurn, MayAdmit}
use Rattle.cluster_laws.specs.cluster_core.Effects.{admitted, admitted_by, in_flight}
use Rattle.cluster_laws.specs.cluster_core.Parts.{Part}
use Rattle.cluster_laws.specs.cluster_core.Ranges.{first_passing}
use Rattle.cluster_laws.specs.cluster_core.Settings.{Chromatic, Engine}
use Rattle.whole_laws.proofs.cluster_ending.Growing.{admitted_longer}
use Rattle.cluster_laws.specs.cluster_model.Events.{MayAdmitNow}
use Rattle.cluster_laws.specs.cluster_model.Working.{admits, has_room, is_done, is_offered}
use Rattle.cluster_laws.proofs.cluster_moves.DueKept.{IsKept, admitted_kept}
use Rattle.snapshot_machines.specs.chromatic.Admitting.{CanAdmitByColour, HasAdmittedByColour, MayAdmitNoneByColour}
use Rattle.snapshot_machines.specs.chromatic.Machines.{IsInSameStep, with_locking}
use Rattle.partition.specs.machine_numbers.Views.{TasksView}
use Rattle.partition.specs.declared.machine_numbers.keeping.Numbers.{Numbers}
use Rattle.partition.proofs.machine_numbers.WakeLemmas.{own_inside}
use Rattle.machine_core.specs.declared.machine_parts.cores.Core.{Core}
use Rattle.machine_core.specs.machine_parts.Order.{IsOrderly, KnowsPlaces}
use Rattle.machine_core.specs.machine_parts.Parts.{number_of, part_of, pending_here}
use Rattle.machine_core.specs.machine_scopes.Admitting.{with_pick}
use Rattle.machine_core.proofs.machine_scopes.HeldLemmas.{own_from_setting}
use Rattle.cluster_laws.proofs.known_parts.GuardLemmas.{admit_may, alike_turned}
use Rattle.cluster_laws.proofs.known_parts.SeenLemmas.{admit_alike}
use Rattle.coordinator.specs.machine_api.Going.{IsSnapSetting}
use Rattle.coordinator.specs.machine_api.Promises.{CanAdmit, CanNotAdmit, HasAdmittedSome}
use Rattle.snapshot_machines.specs.marking.Keeping.{saved_in}
use Rattle.snapshot_machines.proofs.locking.ScopeLemmas.{plans_picked}
use Rattle.snapshot_machines.proofs.locking.StandLemmas.{alike_to, kept_from, saved_kept}
use Rattle.snapshot_machines.specs.locking.Machines.{flag_there, place_at}
use Rattle.coordinator.specs.snap_update.Snaps.{outside_of}
use Rattle.snapshot_machines.specs.saving.Machines.{SnapView}
use Rattle.task_sets.specs.task_sched.Tasks.{is_flagged, is_open}
use Rattle.task_sets.specs.declared.task_sched.task_sets.Pick.{Pick}
use Rattle.snapshot_machines.proofs.wave_counts.CountLemmas.{counts_put_out}
use Rattle.placed_machines.specs.chromatic.Machines.{ArePlansOf, ChromaticMachineView, ColorSnapView, IsChromaticMachineOf, IsSavedOnce, LooksAlike, Machine, Setting, part_of_steps}
use Rattle.placed_machines.proofs.chromatic.PromptLemmas.{prompt_none, room_is}

-- ---- no wave is answered

and_false : (b : Bool) → (b && false) ≡ false
and_false true = refl
and_false false = refl

some_flying : (n : ℕ) → suc n ≡ 0 → ⊥
some_flying n is = omega (arith, is)

-- a machine that has just admitted a scope isn't done with its step
pub busy : (e : Engine) (colour : ℕ → ℕ) (colours : ℕ) → e ≡ Chromatic colour colours → (st : Setting) (a v : ℕ) (part : Part) (n : Machine) → n.part ≡ admitted_by e st a v part → IsItsTurn e st.pipeline v part → is_done e st a n ≡ false
busy e colour colours chromatic st a v part n same turn =
    let made : n.part ≡ admitted_by (Chromatic colour colours) st a v part = same ∙ ap (λ (k : Engine). admitted_by k st a v part) chromatic in
    let its : (colour v ≡ part.colour) × (part.closed ≡ false) = subst (λ (k : Engine). IsItsTurn k st.pipeline v part) chromatic turn in
    let closed : n.part.closed ≡ false = ap (λ (p : Part). p.closed) made ∙ its.1 in
    let flying : n.part.flying ≡ suc part.flying = ap (λ (p : Part). p.flying) made in
    ap (λ (k : Engine). is_done k st a n) chromatic
    ∙ (λ i. closed i || (flying i == 0 && is_none (first_passing (is_offered st colour a n) 0 (size st.graph))))
    ∙ ap (λ (b : Bool). b && is_none (first_passing (is_offered st colour a n) 0 (size st.graph))) (ne_eqb (suc part.flying) 0 (some_flying part.flying))

-- ---- the tasks, as both engines pick

pending_in_step : (t : TasksView) (pick : Pick) → (with_pick t pick).pending ≡ t.pending
pending_in_step t pick = by pick.snapshot
  where
    by : (b : Bool) → (with_pick t (record pick { snapshot = b })).pending ≡ t.pending
    by true = refl
    by false = refl

plans_in_step : (n : Numbers) (pick : Pick) (asked : List Vertex) (m : Machine) → ArePlansOf (record n { tasks = with_pick n.tasks pick }) m → ArePlansOf (record n { tasks = record (with_pick n.tasks pick) { asked = asked } }) m
plans_in_step n pick asked m are = record { many = are.many; planned = are.planned; others = are.others }

module _ {P : Type 0} (meaning : P → Update) (x : ChromaticMachineView P) (orderly : IsOrderly x.machine.core) (places : KnowsPlaces x.machine.core) (counted : x.machine.core.numbers.tasks.outside ≡ outside_of x.machine.kept) where
  abbrev old : Core
  old = x.machine.core

  module _ (st : Setting) (a : ℕ) (m : Machine) (is : IsChromaticMachineOf meaning st a m x) where
    pub admit_here : (v : ℕ) → MayAdmit st old.numbers.local.me.0 v (part_of_steps x.machine) → MayAdmit st a v m.part
    admit_here v may =
        admit_may st a (part_of_steps x.machine) m.part (alike_turned st a m.part (part_of_steps x.machine) is.part) v (subst (λ (k : ℕ). MayAdmit st k v (part_of_steps x.machine)) is.number may)

    pub admit_there : (v : ℕ) → MayAdmit st a v m.part → MayAdmit st old.numbers.local.me.0 v (part_of_steps x.machine)
    admit_there v may = subst (λ (k : ℕ). MayAdmit st k v (part_of_steps x.machine)) (sym is.number) (admit_may st a m.part (part_of_steps x.machine) is.part v may)

    pending_is : (v : ℕ) → m.part.pending v ≡ pending_here old.numbers v
    pending_is v = ap (λ (p : Part). p.pending v) is.part.rest

    pub may_now : IsSnapSetting st → (can : CanAdmitByColour x.machine) → MayAdmitNow st a can.vertex.0 m
    may_now snap can =
        record {
          may = admit_here can.vertex.0 (can.may st is.here.part);
          room = ⊎_elim
              (λ (set : pending_here old.numbers can.vertex.0 ≡ true). inl (pending_is can.vertex.0 ∙ set))
              (λ (opened : is_open old.numbers.tasks ≡ true). inr (room_is meaning x counted st a m snap is ∙ opened))
              can.room;
        }

  pub can_admit : CanAdmitByColour x.machine → CanAdmit (IsChromaticMachineOf meaning) x
  can_admit can st a m snap is = (can.vertex.0, may_now st a m is snap can)

  pub can_not_admit : MayAdmitNoneByColour x.machine → CanNotAdmit (IsChromaticMachineOf meaning) x
  can_not_admit none st a m snap is v may =
      none st is.here.part v
      (⊎_elim
      (λ (set : m.part.pending v ≡ true). inl (sym (pending_is st a m is v) ∙ set))
      (λ (room : has_room st m ≡ true). inr (sym (room_is meaning x counted st a m snap is) ∙ room))
      may.room)
      (admit_there st a m is v may.may)

  module _ (flags : length old.numbers.tasks.planned ≡ length old.numbers.tasks.task) (free : (u : ℕ) → is_flagged old.numbers.tasks.admitted u ≡ false → is_flagged old.numbers.tasks.planned u ≡ false) (now : ColorSnapView P)
      (has : HasAdmittedByColour x.machine now) (kept : now.kept ≡ x.machine.kept) (step : IsInSameStep x.machine now) where
    pick_is : place_at old.numbers.local has.can.vertex.0 ≡ Some has.can.pick.vertex.0
    pick_is = places.vertices.place has.can.pick.vertex.0 has.can.vertex has.can.place

    abbrev admitting : ChromaticMachineView P
    admitting = record x { machine = now }

    -- of the numbers the tasks alone have changed, as both engines pick
    numbers_are : now.core.numbers ≡ record old.numbers { tasks = record (with_pick old.numbers.tasks has.can.pick) { asked = now.core.numbers.tasks.asked } }
    numbers_are = has.numbers ∙ ap (λ (t : TasksView). record old.numbers { tasks = t }) has.tasks.tasks

    module _ (st : Setting) (a : ℕ) (m : Machine) (snap : IsSnapSetting st) (is : IsChromaticMachineOf meaning st a m x) where
      abbrev centre : ℕ
      centre = has.can.vertex.0

      abbrev new : Machine
      new = admits st a centre m

      may_core : MayAdmit st old.numbers.local.me.0 centre (part_of_steps x.machine)
      may_core = has.can.may st is.here.part

      unflagged : is_flagged old.numbers.tasks.admitted has.can.pick.vertex.0 ≡ false
      unflagged = ⊎_elim
          (λ (set : is_flagged old.numbers.tasks.admitted has.can.pick.vertex.0 ≡ true).
          let flown = orderly.flights.flies has.can.vertex (own_from_setting (with_locking st) old.numbers.local centre is.here.part.part.local may_core.vertex may_core.owned) (ap (flag_there old.numbers.tasks.admitted) pick_is ∙ set) in
          absurd (may_core.fresh flown.scope (ap number_of flown.centre)))
          (λ (clear : is_flagged old.numbers.tasks.admitted has.can.pick.vertex.0 ≡ false). clear)
          (cases_Bool (is_flagged old.numbers.tasks.admitted has.can.pick.vertex.0))

      place_inside : has.can.pick.vertex.0 < length old.numbers.tasks.planned
      place_inside =
          subst (λ (k : ℕ). has.can.pick.vertex.0 < k) (sym flags)
          (own_inside old.numbers.local old.numbers.tasks centre has.can.pick.vertex.0 orderly.numbers.tasks (own_from_setting (with_locking st) old.numbers.local centre is.here.part.part.local may_core.vertex may_core.owned) pick_is)

      held_is : part_of_steps now ≡ admitted st a centre (part_of_steps x.machine)
      held_is = has.admitted st is.here.part ∙ ap (λ (k : ℕ). admitted st k centre (part_of_steps x.machine)) is.number

      alike : LooksAlike st a new.part (part_of_steps now)
      alike = alike_to st a new.part (admitted st a centre (part_of_steps x.machine)) (part_of_steps now) (admit_alike st a centre m.part (part_of_steps x.machine) is.part) held_is

      kept_flight : IsKept (in_flight a centre m.part) new.part
      kept_flight = admitted_kept st.engine st a centre m.part

      numbers_same : (u : ℕ) → (part_of_steps now).datum u ≡ (part_of_steps x.machine).datum u
      numbers_same u = ap (λ (n : Numbers). (part_of (record old { numbers = n })).datum u) numbers_are

      pending_same : (u : ℕ) → (part_of_steps now).pending u ≡ (part_of_steps x.machine).pending u
      pending_same u =
          ap (λ (n : Numbers). (part_of (record old { numbers = n })).pending u) numbers_are
          ∙ ap (λ fs. flag_there fs (place_at old.numbers.local u)) (pending_in_step old.numbers.tasks has.can.pick)

      admission_stands : IsChromaticMachineOf meaning st a new admitting
      admission_stands =
          record {
            here = record { is = is.here.is; part = step.same.settings st is.here.part; program = is.here.program ∙ ap meaning (sym step.same.program) };
            few = is.few;
            number = ap (λ (n : MachineNo). n.0) step.same.number ∙ is.number;
            window = is.window;
            part = alike;
            free = λ v. ap (λ (e : Engine). (admitted_by e st a centre m.part).queue v) is.here.part.engine.chromatic ∙ is.free v;
            kept = kept_from st a new now.kept (record (part_of now.core) { colour = now.colour; closed = now.closed }) alike (is.kept.acknowledged ∙ sym (ap (λ (w : SnapView). w.acknowledged) kept)) (is.kept.wanted ∙ sym (ap (λ (w : SnapView). w.wanted) kept))
                (is.kept.before ∙ sym (ap (λ (w : SnapView). w.before) kept)) (is.kept.behind ∙ sym (ap (λ (w : SnapView). w.behind) kept)) (is.kept.unsure ∙ sym (ap (λ (w : SnapView). w.unsure) kept));
            counts = counts_put_out st x.counts m new is.counts (admitted_longer st a centre m.part) refl refl refl;
            plans = subst (λ (n : Numbers). ArePlansOf n new) (sym numbers_are)
                (plans_in_step old.numbers has.can.pick now.core.numbers.tasks.asked new
                (plans_picked old.numbers has.can.pick centre a m new is.plans orderly.numbers.tasks pick_is (pending_is st a m is centre ∙ has.can.kind) place_inside (free has.can.pick.vertex.0 unflagged)
                (admit_here st a m is centre may_core).fresh kept_flight.flight (λ u set. kept_flight.pending u set) refl refl));
            saved = saved_kept st a (part_of_steps x.machine) (part_of_steps now) (ap (λ (w : SnapView). w.known) kept) (λ i. saved_in (kept i)) (λ u. ap (λ d. d.mark) (numbers_same u)) (λ u set. sym (pending_same u) ∙ set) is.saved;
            once = subst IsSavedOnce (sym kept) (record { vertices = is.once.vertices; edges = is.once.edges });
            reports = is.reports;
          }

    pub admitted_some : HasAdmittedSome (IsChromaticMachineOf meaning) x admitting
    admitted_some st a m snap is =
        let may = may_now st a m is snap has.can in
        let new : Machine = admits st a has.can.vertex.0 m in
        let engine = is.here.part.engine in
        let waits : (is_some new.held && is_done st.engine st a new) ≡ false =
        ap (λ (b : Bool). is_some new.held && b) (busy st.engine engine.colour engine.greatest engine.chromatic st a has.can.vertex.0 m.part new refl may.may.turn) ∙ and_false (is_some new.held) in
        (has.can.vertex.0, may, subst (λ (n : Machine). IsChromaticMachineOf meaning st a n admitting) (sym (prompt_none st a new waits)) (admission_stands st a m snap is))
