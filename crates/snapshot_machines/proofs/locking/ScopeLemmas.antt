-- How scopes are admitted and go on, for each machine of the law.
use Rattle.std.proofs.Common.{◌≡◌, ◌≢◌, ◌⊎◌, ℕ, suc, ◌+◌, ◌<◌, ◌&&◌, ◌||◌, not, Bool, true, false, true≢false, if◌then◌else◌, Option, None, Some, List, [], ◌∷◌, length, map, refl, sym, ap, ◌∙◌, subst, ⊎_elim, inl, inr, add-one}
use Rattle.std.proofs.lemmas.Bool.{cases_Bool}
use Rattle.std.proofs.lemmas.List.{get_or-set_other, get_or-set_same}
use Rattle.std.specs.Prelude.{is_some}
use Rattle.gl_base.specs.declared.numbers.Vertex.{Vertex}
use Rattle.gl_base.specs.declared.scopes.ScopeId.{ScopeId}
use Rattle.update_api.specs.Updates.{Update}
use Rattle.cluster_laws.specs.cluster_core.Actions.{IsItsTurn, MayAdmit, MayGrant}
use Rattle.cluster_laws.specs.cluster_core.Effects.{admitted, granted, in_flight, next_scope}
use Rattle.cluster_laws.specs.cluster_core.Parts.{Part}
use Rattle.cluster_laws.specs.cluster_core.Scopes.{is_scope, set_for}
use Rattle.cluster_laws.specs.cluster_core.Settings.{Chromatic, Engine, Locking}
use Rattle.cluster_laws.proofs.cluster_core.Basics.{scope_cases, set_for-other, set_for-same}
use Rattle.whole_laws.proofs.cluster_ending.Growing.{admitted_longer, granted_longer}
use Rattle.cluster_laws.specs.cluster_model.Events.{MayAdmitNow}
use Rattle.cluster_laws.specs.cluster_model.Working.{admits, answers_if, grants, has_room, is_done, prompt}
use Rattle.cluster_laws.specs.interior_scopes.InTurn.{AreGranted}
use Rattle.cluster_laws.proofs.cluster_moves.DueKept.{IsKept, admitted_kept, first_granted_kept}
use Rattle.partition.specs.machine_numbers.Views.{AreTasksOf, TasksView}
use Rattle.partition.specs.declared.machine_numbers.keeping.Numbers.{Numbers}
use Rattle.partition.proofs.machine_numbers.WakeLemmas.{own_inside}
use Rattle.machine_core.specs.declared.machine_parts.cores.Core.{Core}
use Rattle.machine_core.specs.machine_parts.Order.{IsOrderly, KnowsPlaces}
use Rattle.machine_core.specs.machine_parts.Parts.{number_of}
use Rattle.machine_core.specs.machine_parts.Settings.{SameSettings}
use Rattle.machine_core.specs.machine_scopes.Admitting.{CanAdmitPick, HasAdmittedPick, HaveSamePlans, KeepsPlans, MayAdmitNone, with_pick}
use Rattle.machine_core.specs.machine_scopes.Granting.{HasGrantedLock, MayGrantLock, MayNotGrantLock}
use Rattle.machine_core.specs.machine_scopes.Granting as turns
use Rattle.machine_core.proofs.machine_scopes.HeldLemmas.{own_from_setting}
use Rattle.snapshot_machines.specs.saving.Machines.{SnapMachineView, outside_of}
use Rattle.cluster_laws.proofs.known_parts.GuardLemmas.{admit_may, alike_turned, grant_may}
use Rattle.cluster_laws.proofs.known_parts.SeenLemmas.{admit_alike, grant_alike}
use Rattle.snapshot_machines.proofs.marking.ApartLemmas.{admit_apart, grant_apart}
use Rattle.coordinator.specs.machine_api.Deeds.{Grant}
use Rattle.coordinator.specs.machine_api.Going.{IsSnapSetting}
use Rattle.coordinator.specs.machine_api.InTurn.{AreDone, HasGrantedInTurn}
use Rattle.coordinator.specs.machine_api.Promises.{CanAdmit, CanDo, CanNotAdmit, CanNotDo, HasAdmittedSome, HasDone, StandsStill}
use Rattle.task_sets.specs.task_sched.Tasks.{is_flagged, is_open}
use Rattle.task_sets.specs.declared.task_sched.task_sets.Pick.{Pick}
use Rattle.snapshot_machines.proofs.wave_counts.CountLemmas.{counts_put_out}
use Rattle.snapshot_machines.specs.locking.Machines.{ArePlansOf, AreToldReports, CountsView, IsCountOf, IsLockingMachineOf, IsSavedRight, LooksAlike, Machine, LockingMachineView, Setting, SnapView, flag_there, part_held, part_of, place_at, with_snaps}
use Rattle.snapshot_machines.proofs.locking.StandLemmas.{alike_to, kept_from, plans_kept, room_is, saved_kept, saved_numbers, still_stands}

-- ---- the same machine but for its parts

abbrev pub with_core : {P : Type 0} → Core → SnapMachineView P → SnapMachineView P
with_core core m = record m { core = core }

-- ---- guards don't look at what is kept for snapshots

turn_with : (engine : Engine) (pipeline v : ℕ) (w : SnapView) (part : Part) → IsItsTurn engine pipeline v part → IsItsTurn engine pipeline v (with_snaps w part)
turn_with Locking pipeline v w part turn = turn
turn_with (Chromatic colour colours) pipeline v w part turn = turn

turn_without : (engine : Engine) (pipeline v : ℕ) (w : SnapView) (part : Part) → IsItsTurn engine pipeline v (with_snaps w part) → IsItsTurn engine pipeline v part
turn_without Locking pipeline v w part turn = turn
turn_without (Chromatic colour colours) pipeline v w part turn = turn

module _ {P : Type 0} (meaning : P → Update) (st : Setting) (a : ℕ) (m : Machine) (x : LockingMachineView P) (is : IsLockingMachineOf meaning st a m x) where
  abbrev core : Core
  core = x.machine.core

  pub admit_here : (v : ℕ) → MayAdmit st core.numbers.local.me.0 v (part_of core) → MayAdmit st a v m.part
  admit_here v may =
      let one : MayAdmit st a v (part_of core) = subst (λ (k : ℕ). MayAdmit st k v (part_of core)) is.number may in
      admit_may st a (part_held x) m.part (alike_turned st a m.part (part_held x) is.part) v
      (record { vertex = one.vertex; owned = one.owned; due = one.due; fresh = one.fresh; turn = turn_with st.engine st.pipeline v x.machine.kept (part_of core) one.turn })

  pub admit_there : (v : ℕ) → MayAdmit st a v m.part → MayAdmit st core.numbers.local.me.0 v (part_of core)
  admit_there v may =
      let one : MayAdmit st a v (part_held x) = admit_may st a m.part (part_held x) is.part v may in
      subst (λ (k : ℕ). MayAdmit st k v (part_of core)) (sym is.number)
      (record { vertex = one.vertex; owned = one.owned; due = one.due; fresh = one.fresh; turn = turn_without st.engine st.pipeline v x.machine.kept (part_of core) one.turn })

  pub grant_here : (v : ℕ) → MayGrant st core.numbers.local.me.0 v (part_of core) → MayGrant st a v m.part
  grant_here v may =
      let one : MayGrant st a v (part_of core) = subst (λ (k : ℕ). MayGrant st k v (part_of core)) is.number may in
      grant_may st a (part_held x) m.part (alike_turned st a m.part (part_held x) is.part) v
      (record { vertex = one.vertex; owned = one.owned; claim = one.claim; behind = one.behind; first = one.first; together = one.together })

  pub grant_there : (v : ℕ) → MayGrant st a v m.part → MayGrant st core.numbers.local.me.0 v (part_of core)
  grant_there v may =
      let one : MayGrant st a v (part_held x) = grant_may st a m.part (part_held x) is.part v may in
      subst (λ (k : ℕ). MayGrant st k v (part_of core)) (sym is.number)
      (record { vertex = one.vertex; owned = one.owned; claim = one.claim; behind = one.behind; first = one.first; together = one.together })

  pub pending_is : (v : ℕ) → m.part.pending v ≡ (part_of core).pending v
  pending_is v = ap (λ (p : Part). p.pending v) is.part.rest

-- ---- an admission

plans_by : (b : Bool) (n : Numbers) (v : Vertex) (many : ℕ) → many ≡ n.tasks.plans → (if b then many else suc many) ≡ (with_pick n.tasks (record { vertex = v; snapshot = b })).plans
plans_by true n v many is = is
plans_by false n v many is = sym (add-one many) ∙ ap (λ (k : ℕ). k + 1) is

flag_at_pick : (b : Bool) (t : TasksView) (v : Vertex) → v.0 < length t.planned → is_flagged t.planned v.0 ≡ false → not b ≡ is_flagged (with_pick t (record { vertex = v; snapshot = b })).planned v.0
flag_at_pick true t v inside clear = sym clear
flag_at_pick false t v inside clear = sym (get_or-set_same t.planned v.0 true false inside)

flag_elsewhere : (b : Bool) (t : TasksView) (v : Vertex) (o : Option ℕ) → (o ≡ Some v.0 → ⊥) → flag_there (with_pick t (record { vertex = v; snapshot = b })).planned o ≡ flag_there t.planned o
flag_elsewhere true t v o off = refl
flag_elsewhere false t v None off = refl
flag_elsewhere false t v (Some k) off = get_or-set_other t.planned v.0 k true false (λ same. off (ap Some same))

same_some : {X : Type 0} (x y : X) → Some x ≡ Some y → x ≡ y
same_some x y is = cc

module _ (n : Numbers) (pick : Pick) (v : ℕ) (a : ℕ) (m new : Machine) (are : ArePlansOf n m) (tasks : AreTasksOf n.local n.tasks) (place : place_at n.local v ≡ Some pick.vertex.0) (kind : m.part.pending v ≡ pick.snapshot)
    (inside : pick.vertex.0 < length n.tasks.planned) (clear : is_flagged n.tasks.planned pick.vertex.0 ≡ false) (fresh : (s : ScopeId) → m.part.flight s ≢ Some v)
    (flight : (s : ScopeId) → new.part.flight s ≡ set_for m.part.flight (next_scope a m.part) (Some v) s) (pending : (u : ℕ) → m.part.pending u ≡ true → new.part.pending u ≡ true)
    (planned : new.planned ≡ set_for m.planned (next_scope a m.part) (not (m.part.pending v))) (plans : new.plans ≡ (if m.part.pending v then m.plans else suc m.plans)) where
  abbrev scope : ScopeId
  scope = next_scope a m.part

  flag_here : not (m.part.pending v) ≡ flag_there (with_pick n.tasks pick).planned (place_at n.local v)
  flag_here = ap not kind ∙ flag_at_pick pick.snapshot n.tasks pick.vertex inside clear ∙ sym (ap (flag_there (with_pick n.tasks pick).planned) place)

  plan_at : (s : ScopeId) (u : ℕ) → (s ≡ scope) ⊎ (is_scope s scope ≡ false) → new.part.flight s ≡ Some u → new.planned s ≡ flag_there (with_pick n.tasks pick).planned (place_at n.local u)
  plan_at s u (inl here) flies =
      let at : new.part.flight s ≡ Some v = flight s ∙ ap (set_for m.part.flight scope (Some v)) here ∙ set_for-same m.part.flight scope (Some v) in
      let vertex : v ≡ u = same_some v u (sym at ∙ flies) in
      ap (λ f. f s) planned ∙ ap (set_for m.planned scope (not (m.part.pending v))) here ∙ set_for-same m.planned scope (not (m.part.pending v))
      ∙ flag_here ∙ ap (λ (k : ℕ). flag_there (with_pick n.tasks pick).planned (place_at n.local k)) vertex
  plan_at s u (inr other) flies =
      let was : m.part.flight s ≡ Some u = sym (set_for-other m.part.flight scope (Some v) s other) ∙ sym (flight s) ∙ flies in
      let off : place_at n.local u ≡ Some pick.vertex.0 → ⊥ = λ same. fresh s (was ∙ ap Some (tasks.apart u v pick.vertex.0 same place)) in
      ap (λ f. f s) planned ∙ set_for-other m.planned scope (not (m.part.pending v)) s other ∙ are.planned s u was
      ∙ sym (flag_elsewhere pick.snapshot n.tasks pick.vertex (place_at n.local u) off)

  other_at : (s : ScopeId) (u : ℕ) → (s ≡ scope) ⊎ (is_scope s scope ≡ false) → new.part.flight s ≡ Some u → new.planned s ≡ false → new.part.pending u ≡ true
  other_at s u (inl here) flies no_plan =
      let at : new.part.flight s ≡ Some v = flight s ∙ ap (set_for m.part.flight scope (Some v)) here ∙ set_for-same m.part.flight scope (Some v) in
      let vertex : v ≡ u = same_some v u (sym at ∙ flies) in
      let unplanned : not (m.part.pending v) ≡ false =
      sym (set_for-same m.planned scope (not (m.part.pending v))) ∙ sym (ap (set_for m.planned scope (not (m.part.pending v))) here) ∙ sym (ap (λ f. f s) planned) ∙ no_plan in
      subst (λ (k : ℕ). new.part.pending k ≡ true) vertex (pending v (is_true (m.part.pending v) unplanned))
    where
      is_true : (b : Bool) → not b ≡ false → b ≡ true
      is_true true is = refl
      is_true false is = absurd (true≢false is)
  other_at s u (inr other) flies no_plan =
      let was : m.part.flight s ≡ Some u = sym (set_for-other m.part.flight scope (Some v) s other) ∙ sym (flight s) ∙ flies in
      pending u (are.others s u was (sym (set_for-other m.planned scope (not (m.part.pending v)) s other) ∙ sym (ap (λ f. f s) planned) ∙ no_plan))

  pub plans_picked : ArePlansOf (record n { tasks = with_pick n.tasks pick }) new
  plans_picked =
      record {
        many = plans ∙ ap (λ (b : Bool). if b then m.plans else suc m.plans) kind ∙ plans_by pick.snapshot n pick.vertex m.plans are.many;
        planned = λ s u flies. plan_at s u (scope_cases s scope) flies;
        others = λ s u flies no_plan. other_at s u (scope_cases s scope) flies no_plan;
      }

pending_with : (t : TasksView) (v : Vertex) (b : Bool) → (with_pick t (record { vertex = v; snapshot = b })).pending ≡ t.pending
pending_with t v true = refl
pending_with t v false = refl

module _ {P : Type 0} (meaning : P → Update) (x : LockingMachineView P) (orderly : IsOrderly x.machine.core) (places : KnowsPlaces x.machine.core) (counted : x.machine.core.numbers.tasks.outside ≡ outside_of x.machine.kept) where
  abbrev old : Core
  old = x.machine.core

  module _ (flags : length old.numbers.tasks.planned ≡ length old.numbers.tasks.task) (free : (u : ℕ) → is_flagged old.numbers.tasks.admitted u ≡ false → is_flagged old.numbers.tasks.planned u ≡ false) (now : Core)
      (has : HasAdmittedPick old now) (settings : SameSettings old now) where
    pick_is : place_at old.numbers.local has.can.vertex.0 ≡ Some has.can.pick.vertex.0
    pick_is = places.vertices.place has.can.pick.vertex.0 has.can.vertex has.can.place

    module _ (st : Setting) (a : ℕ) (m : Machine) (snap : IsSnapSetting st) (is : IsLockingMachineOf meaning st a m x) where
      abbrev centre : ℕ
      centre = has.can.vertex.0

      abbrev new : Machine
      new = admits st a centre m

      may_core : MayAdmit st old.numbers.local.me.0 centre (part_of old)
      may_core = has.can.may st is.here

      unflagged : is_flagged old.numbers.tasks.admitted has.can.pick.vertex.0 ≡ false
      unflagged = ⊎_elim
          (λ (set : is_flagged old.numbers.tasks.admitted has.can.pick.vertex.0 ≡ true).
          let flown = orderly.flights.flies has.can.vertex (own_from_setting st old.numbers.local centre is.here.local may_core.vertex may_core.owned) (ap (flag_there old.numbers.tasks.admitted) pick_is ∙ set) in
          absurd (may_core.fresh flown.scope (ap number_of flown.centre)))
          (λ (clear : is_flagged old.numbers.tasks.admitted has.can.pick.vertex.0 ≡ false). clear)
          (cases_Bool (is_flagged old.numbers.tasks.admitted has.can.pick.vertex.0))

      place_inside : has.can.pick.vertex.0 < length old.numbers.tasks.planned
      place_inside =
          subst (λ (k : ℕ). has.can.pick.vertex.0 < k) (sym flags)
          (own_inside old.numbers.local old.numbers.tasks centre has.can.pick.vertex.0 orderly.numbers.tasks (own_from_setting st old.numbers.local centre is.here.local may_core.vertex may_core.owned) pick_is)

      kind : m.part.pending centre ≡ has.can.pick.snapshot
      kind = pending_is meaning st a m x is centre ∙ has.can.kind

      may_now : MayAdmitNow st a centre m
      may_now =
          record {
            may = admit_here meaning st a m x is centre may_core;
            room = ⊎_elim
                (λ (set : (part_of old).pending centre ≡ true). inl (pending_is meaning st a m x is centre ∙ set))
                (λ (opened : is_open old.numbers.tasks ≡ true). inr (room_is meaning st a m x is counted ∙ opened))
                has.can.room;
          }

      held_is : with_snaps x.machine.kept (part_of now) ≡ admitted st a centre (part_held x)
      held_is =
          ap (with_snaps x.machine.kept) (has.admitted st is.here ∙ ap (λ (k : ℕ). admitted st k centre (part_of old)) is.number)
          ∙ sym (admit_apart st a centre x.machine.kept (part_of old))

      alike : LooksAlike st a new.part (with_snaps x.machine.kept (part_of now))
      alike = alike_to st a new.part (admitted st a centre (part_held x)) (with_snaps x.machine.kept (part_of now)) (admit_alike st a centre m.part (part_held x) is.part) held_is

      kept_flight : IsKept (in_flight a centre m.part) new.part
      kept_flight = admitted_kept st.engine st a centre m.part

      numbers_same : (u : ℕ) → (part_of now).datum u ≡ (part_of old).datum u
      numbers_same u = ap (λ (n : Numbers). (part_of (record old { numbers = n })).datum u) has.numbers

      pending_same : (u : ℕ) → (part_of now).pending u ≡ (part_of old).pending u
      pending_same u =
          ap (λ (n : Numbers). (part_of (record old { numbers = n })).pending u) has.numbers
          ∙ ap (λ fs. flag_there fs (place_at old.numbers.local u)) (pending_with old.numbers.tasks has.can.pick.vertex has.can.pick.snapshot)

      admission_stands : IsLockingMachineOf meaning st a new (record x { machine = with_core now x.machine })
      admission_stands =
          record {
            here = settings st is.here;
            number = ap (λ (n : Numbers). n.local.me.0) has.numbers ∙ is.number;
            program = is.program;
            window = is.window;
            part = alike;
            kept = kept_from st a new x.machine.kept (part_of now) alike is.kept.acknowledged is.kept.wanted is.kept.before is.kept.behind is.kept.unsure;
            counts = counts_put_out st x.counts m new is.counts (admitted_longer st a centre m.part) refl refl refl;
            none_held = is.none_held;
            plans = subst (λ (n : Numbers). ArePlansOf n new) (sym has.numbers)
                (plans_picked old.numbers has.can.pick centre a m new is.plans orderly.numbers.tasks pick_is kind place_inside (free has.can.pick.vertex.0 unflagged) (may_now.may).fresh kept_flight.flight
                (λ u set. kept_flight.pending u set) refl refl);
            saved = saved_kept st a (part_held x) (with_snaps x.machine.kept (part_of now)) refl refl (λ u. ap (λ d. d.mark) (numbers_same u)) (λ u set. sym (pending_same u) ∙ set) is.saved;
            once = is.once;
            reports = is.reports;
          }

    pub admitted_some : HasAdmittedSome (IsLockingMachineOf meaning) x (record x { machine = with_core now x.machine })
    admitted_some st a m snap is =
        (has.can.vertex.0, may_now st a m snap is, still_stands meaning st a (admits st a has.can.vertex.0 m) (record x { machine = with_core now x.machine }) (admission_stands st a m snap is))

  pub can_admit : CanAdmitPick old → CanAdmit (IsLockingMachineOf meaning) x
  can_admit can st a m snap is = (
    can.vertex.0,
    record {
      may = admit_here meaning st a m x is can.vertex.0 (can.may st is.here);
      room = ⊎_elim
          (λ (set : (part_of old).pending can.vertex.0 ≡ true). inl (pending_is meaning st a m x is can.vertex.0 ∙ set))
          (λ (opened : is_open old.numbers.tasks ≡ true). inr (room_is meaning st a m x is counted ∙ opened))
          can.room;
    },
  )

  pub can_not_admit : MayAdmitNone old → CanNotAdmit (IsLockingMachineOf meaning) x
  can_not_admit none st a m snap is v may =
      none st is.here v
      (⊎_elim
      (λ (set : m.part.pending v ≡ true). inl (sym (pending_is meaning st a m x is v) ∙ set))
      (λ (room : has_room st m ≡ true). inr (sym (room_is meaning st a m x is counted) ∙ room))
      may.room)
      (admit_there meaning st a m x is v may.may)

  -- where there was no memory
  pub admission_back : ((u : ℕ) → is_flagged old.numbers.tasks.admitted u ≡ false → is_flagged old.numbers.tasks.planned u ≡ false) → (now : Core) → KeepsPlans old now → now.numbers.local ≡ old.numbers.local → part_of now ≡ part_of old → SameSettings old now
      → StandsStill (IsLockingMachineOf meaning) x (record x { machine = with_core now x.machine })
  admission_back free now plans local part settings st a m snap is =
      let same : HaveSamePlans old.numbers.tasks now.numbers.tasks = plans free in
      let held : with_snaps x.machine.kept (part_of now) ≡ part_held x = ap (with_snaps x.machine.kept) part in
      record {
        here = settings st is.here;
        number = ap (λ l. l.me.0) local ∙ is.number;
        program = is.program;
        window = is.window;
        part = alike_to st a m.part (part_held x) (with_snaps x.machine.kept (part_of now)) is.part held;
        kept = is.kept;
        counts = is.counts;
        none_held = is.none_held;
        plans = record {
          many = is.plans.many ∙ sym same.plans;
          planned = λ s v flies. is.plans.planned s v flies ∙ sym (ap (λ l. flag_there now.numbers.tasks.planned (place_at l v)) local ∙ there now.numbers.tasks.planned old.numbers.tasks.planned same.planned (place_at old.numbers.local v));
          others = is.plans.others;
        };
        saved = subst (IsSavedRight st a) (sym held) is.saved;
        once = is.once;
        reports = is.reports;
      }
    where
      there : (one other : List Bool) → ((u : ℕ) → is_flagged one u ≡ is_flagged other u) → (o : Option ℕ) → flag_there one o ≡ flag_there other o
      there one other each None = refl
      there one other each (Some k) = each k

-- ---- a scope goes on, and no number changes

-- beside its part, and what it counts, all is the same
pub record HasSameRest (m new : Machine) : Type 0 where
  pub planned : new.planned ≡ m.planned
  pub plans : new.plans ≡ m.plans
  pub acknowledged : new.acknowledged ≡ m.acknowledged
  pub wanted : new.wanted ≡ m.wanted
  pub before : new.before ≡ m.before
  pub behind : new.behind ≡ m.behind
  pub unsure : new.unsure ≡ m.unsure
  pub held : new.held ≡ m.held
  pub out : new.out ≡ m.out

module _ {P : Type 0} (meaning : P → Update) (x : LockingMachineView P) (now : Core) (numbers : now.numbers ≡ x.machine.core.numbers) (settings : SameSettings x.machine.core now) where
  abbrev moved : CountsView → LockingMachineView P
  moved counts = record x { machine = with_core now x.machine; counts = counts }

  pub goes_on_standing : (st : Setting) (a : ℕ) (m new : Machine) (counts : CountsView) → IsLockingMachineOf meaning st a m x → LooksAlike st a new.part (with_snaps x.machine.kept (part_of now)) → IsKept m.part new.part
      → HasSameRest m new → IsCountOf st counts new → IsLockingMachineOf meaning st a new (moved counts)
  goes_on_standing st a m new counts is alike kept same counted =
      record {
        here = settings st is.here;
        number = ap (λ (n : Numbers). n.local.me.0) numbers ∙ is.number;
        program = is.program;
        window = is.window;
        part = alike;
        kept = kept_from st a new x.machine.kept (part_of now) alike (same.acknowledged ∙ is.kept.acknowledged) (same.wanted ∙ is.kept.wanted) (same.before ∙ is.kept.before) (same.behind ∙ is.kept.behind) (same.unsure ∙ is.kept.unsure);
        counts = counted;
        none_held = same.held ∙ is.none_held;
        plans = plans_kept x.machine.core.numbers now.numbers m new kept same.planned same.plans (ap (λ (n : Numbers). n.tasks.planned) numbers) (ap (λ (n : Numbers). n.tasks.plans) numbers)
            (λ v. ap (λ (n : Numbers). place_at n.local v) numbers) is.plans;
        saved = saved_numbers st a x.machine.kept x.machine.core now numbers is.saved;
        once = is.once;
        reports = subst (AreToldReports x.reports.messages) (sym same.out) is.reports;
      }

  pub granted_one : (v : ℕ) → MayGrantLock x.machine.core v → HasGrantedLock x.machine.core now v → HasDone (IsLockingMachineOf meaning) x (Grant v) (moved x.counts)
  granted_one v may has st a m snap is =
      let new : Machine = grants st a v m in
      let held : with_snaps x.machine.kept (part_of now) ≡ granted st a v (part_held x) =
      ap (with_snaps x.machine.kept) (has st is.here ∙ ap (λ (k : ℕ). granted st k v (part_of x.machine.core)) is.number) ∙ sym (grant_apart st a v x.machine.kept (part_of x.machine.core)) in
      let alike : LooksAlike st a new.part (with_snaps x.machine.kept (part_of now)) =
      alike_to st a new.part (granted st a v (part_held x)) (with_snaps x.machine.kept (part_of now)) (grant_alike st a v m.part (part_held x) is.part) held in (
        grant_here meaning st a m x is v (may st is.here),
        still_stands meaning st a new (moved x.counts)
            (goes_on_standing st a m new x.counts is alike (first_granted_kept st a v (m.part.queue v) m.part)
            (record { planned = refl; plans = refl; acknowledged = refl; wanted = refl; before = refl; behind = refl; unsure = refl; held = refl; out = refl })
            (counts_put_out st x.counts m new is.counts (granted_longer st a v m.part) refl refl refl)),
      )

-- ---- one lock after another

-- a machine that holds no wave answers none
calm : (st : Setting) (a : ℕ) (m : Machine) → m.held ≡ None → prompt st a m ≡ m
calm st a m none =
    ap (λ (held : Option ℕ). answers_if st (is_some held && is_done st.engine st a m) m) none ∙ ap (λ (c : Bool). record m { part = record m.part { closed = c } }) (same m.part.closed)
  where
    same : (c : Bool) → (c || false) ≡ c
    same true = refl
    same false = refl

kept_on : (one two three : Part) → IsKept one two → IsKept two three → IsKept one three
kept_on one two three first second =
    record {
      flight = λ s. second.flight s ∙ first.flight s;
      pending = λ v is. second.pending v (first.pending v is);
      task = λ v is. second.task v (first.task v is);
      flying = second.flying ∙ first.flying;
      serial = second.serial ∙ first.serial;
    }

-- The locks of these vertices may be granted in turn at m, which looks like a part then.
record AreGrantedHere (st : Setting) (a : ℕ) (w : SnapView) (counts : CountsView) (locks : List ℕ) (m : Machine) (last : Part) : Type 0 where
  after : Machine
  done : AreDone st a (map Grant locks) m after
  alike : LooksAlike st a after.part (with_snaps w last)
  kept : IsKept m.part after.part
  same : HasSameRest m after
  counted : IsCountOf st counts after

granted_here : (st : Setting) (a : ℕ) (w : SnapView) (counts : CountsView) (locks : List ℕ) (m : Machine) (part last : Part) → LooksAlike st a m.part (with_snaps w part) → m.held ≡ None → IsCountOf st counts m
    → AreGranted st a locks part last → AreGrantedHere st a w counts locks m last
granted_here st a w counts [] m part last alike none counted is =
    record {
      after = m;
      done = refl;
      alike = alike_to st a m.part (with_snaps w part) (with_snaps w last) alike (ap (with_snaps w) is);
      kept = record { flight = λ s. refl; pending = λ v set. set; task = λ v set. set; flying = refl; serial = refl };
      same = record { planned = refl; plans = refl; acknowledged = refl; wanted = refl; before = refl; behind = refl; unsure = refl; held = refl; out = refl };
      counted = counted;
    }
granted_here st a w counts (v ∷ more) m part last alike none counted is =
    let one : Machine = grants st a v m in
    let first : MayGrant st a v part = is.0 in
    let may : MayGrant st a v m.part =
    grant_may st a (with_snaps w part) m.part (alike_turned st a m.part (with_snaps w part) alike) v
    (record { vertex = first.vertex; owned = first.owned; claim = first.claim; behind = first.behind; first = first.first; together = first.together }) in
    let next : LooksAlike st a one.part (with_snaps w (granted st a v part)) =
    alike_to st a one.part (granted st a v (with_snaps w part)) (with_snaps w (granted st a v part)) (grant_alike st a v m.part (with_snaps w part) alike) (sym (grant_apart st a v w part)) in
    let rest : AreGrantedHere st a w counts more one last =
    granted_here st a w counts more one (granted st a v part) last next none (counts_put_out st counts m one counted (granted_longer st a v m.part) refl refl refl) is.1 in
    record {
      after = rest.after;
      done = (may, subst (λ (n : Machine). AreDone st a (map Grant more) n rest.after) (sym (calm st a one none)) rest.done);
      alike = rest.alike;
      kept = kept_on m.part one.part rest.after.part (first_granted_kept st a v (m.part.queue v) m.part) rest.kept;
      same = record {
        planned = rest.same.planned;
        plans = rest.same.plans;
        acknowledged = rest.same.acknowledged;
        wanted = rest.same.wanted;
        before = rest.same.before;
        behind = rest.same.behind;
        unsure = rest.same.unsure;
        held = rest.same.held;
        out = rest.same.out;
      };
      counted = rest.counted;
    }

module _ {P : Type 0} (meaning : P → Update) (x : LockingMachineView P) (now : Core) (numbers : now.numbers ≡ x.machine.core.numbers) (settings : SameSettings x.machine.core now) where
  granted_more : (v : ℕ) → turns.HasGrantedInTurn x.machine.core now v → HasGrantedInTurn (IsLockingMachineOf meaning) x v (record x { machine = with_core now x.machine })
  granted_more v has = (
    has.0,
    λ st a m snap is.
        let core : Core = x.machine.core in
        let g : AreGrantedHere st a x.machine.kept x.counts (v ∷ has.0) m (part_of now) =
        granted_here st a x.machine.kept x.counts (v ∷ has.0) m (part_of core) (part_of now) is.part is.none_held is.counts
        (subst (λ (k : ℕ). AreGranted st k (v ∷ has.0) (part_of core) (part_of now)) is.number (has.1 st is.here)) in
        record { after = g.after; done = g.done; here = goes_on_standing meaning x now numbers settings st a m g.after x.counts is g.alike g.kept g.same g.counted },
  )

module _ {P : Type 0} (meaning : P → Update) (x : LockingMachineView P) where
  pub can_grant : (v : ℕ) → MayGrantLock x.machine.core v → CanDo (IsLockingMachineOf meaning) x (Grant v)
  can_grant v may st a m snap is = grant_here meaning st a m x is v (may st is.here)

  pub can_not_grant : (v : ℕ) → MayNotGrantLock x.machine.core v → CanNotDo (IsLockingMachineOf meaning) x (Grant v)
  can_not_grant v not st a m snap is may = not st is.here (grant_there meaning st a m x is v may)

-- ---- where the machine's part is as it was, with the same tasks

pub stays_standing : {P : Type 0} (meaning : P → Update) (x : LockingMachineView P) (now : Core) → now.numbers ≡ x.machine.core.numbers → part_of now ≡ part_of x.machine.core → SameSettings x.machine.core now
    → StandsStill (IsLockingMachineOf meaning) x (record x { machine = with_core now x.machine })
stays_standing meaning x now numbers part settings st a m snap is =
    let held : with_snaps x.machine.kept (part_of now) ≡ part_held x = ap (with_snaps x.machine.kept) part in
    record {
      here = settings st is.here;
      number = ap (λ (n : Numbers). n.local.me.0) numbers ∙ is.number;
      program = is.program;
      window = is.window;
      part = alike_to st a m.part (part_held x) (with_snaps x.machine.kept (part_of now)) is.part held;
      kept = is.kept;
      counts = is.counts;
      none_held = is.none_held;
      plans = subst (λ (n : Numbers). ArePlansOf n m) (sym numbers) is.plans;
      saved = subst (IsSavedRight st a) (sym held) is.saved;
      once = is.once;
      reports = is.reports;
    }

-- ---- as the machine is seen behind a call

module _ {P : Type 0} (x : LockingMachineView P) (now : SnapMachineView P) (kept : now.kept ≡ x.machine.kept) (program : now.program ≡ x.machine.program) where
  pub to_now : (counts : CountsView) (Q : LockingMachineView P → Type 0) → Q (record x { machine = with_core now.core x.machine; counts = counts }) → Q (record x { machine = now; counts = counts })
  to_now counts Q it = subst Q (λ i. record x { machine = record { core = now.core; kept = sym kept i; program = sym program i }; counts = counts }) it

-- ---- what a call answers

module _ {P : Type 0} (meaning : P → Update) (x : LockingMachineView P) (now : SnapMachineView P) (kept : now.kept ≡ x.machine.kept) (program : now.program ≡ x.machine.program) (settings : SameSettings x.machine.core now.core) where
  pub admitted_now : IsOrderly x.machine.core → KnowsPlaces x.machine.core → x.machine.core.numbers.tasks.outside ≡ outside_of x.machine.kept → length x.machine.core.numbers.tasks.planned ≡ length x.machine.core.numbers.tasks.task
      → ((u : ℕ) → is_flagged x.machine.core.numbers.tasks.admitted u ≡ false → is_flagged x.machine.core.numbers.tasks.planned u ≡ false) → HasAdmittedPick x.machine.core now.core
      → HasAdmittedSome (IsLockingMachineOf meaning) x (record x { machine = now })
  admitted_now orderly places counted flags free has =
      to_now x now kept program x.counts (HasAdmittedSome (IsLockingMachineOf meaning) x) (admitted_some meaning x orderly places counted flags free now.core has settings)

  pub admission_back_now : IsOrderly x.machine.core → KnowsPlaces x.machine.core → x.machine.core.numbers.tasks.outside ≡ outside_of x.machine.kept
      → ((u : ℕ) → is_flagged x.machine.core.numbers.tasks.admitted u ≡ false → is_flagged x.machine.core.numbers.tasks.planned u ≡ false) → KeepsPlans x.machine.core now.core → now.core.numbers.local ≡ x.machine.core.numbers.local
      → part_of now.core ≡ part_of x.machine.core → StandsStill (IsLockingMachineOf meaning) x (record x { machine = now })
  admission_back_now orderly places counted free plans local part =
      to_now x now kept program x.counts (StandsStill (IsLockingMachineOf meaning) x) (admission_back meaning x orderly places counted free now.core plans local part settings)

  pub granted_now : now.core.numbers ≡ x.machine.core.numbers → (v : ℕ) → MayGrantLock x.machine.core v → HasGrantedLock x.machine.core now.core v → HasDone (IsLockingMachineOf meaning) x (Grant v) (record x { machine = now })
  granted_now numbers v may has = to_now x now kept program x.counts (HasDone (IsLockingMachineOf meaning) x (Grant v)) (granted_one meaning x now.core numbers settings v may has)

  pub grant_back_now : now.core.numbers ≡ x.machine.core.numbers → part_of now.core ≡ part_of x.machine.core → StandsStill (IsLockingMachineOf meaning) x (record x { machine = now })
  grant_back_now numbers part = to_now x now kept program x.counts (StandsStill (IsLockingMachineOf meaning) x) (stays_standing meaning x now.core numbers part settings)

  pub granted_more_now : now.core.numbers ≡ x.machine.core.numbers → (v : ℕ) → turns.HasGrantedInTurn x.machine.core now.core v → HasGrantedInTurn (IsLockingMachineOf meaning) x v (record x { machine = now })
  granted_more_now numbers v has = to_now x now kept program x.counts (HasGrantedInTurn (IsLockingMachineOf meaning) x v) (granted_more meaning x now.core numbers settings v has)
