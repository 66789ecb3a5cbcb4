-- Snapshot updates and sections, for each machine of the law.
use Rattle.std.proofs.Common.{◌≡◌, ◌⊎◌, ℕ, pred, ◌+◌, ◌<◌, ◌≤◌, ◌==◌, ◌&&◌, ◌||◌, ◌++◌, not, Bool, true, false, true≢false, if◌then◌else◌, Option, None, Some, [], ◌∷◌, length, refl, sym, ap, ◌∙◌, subst, ⊎_elim, inl, inr, arith}
use Rattle.std.specs.Prelude.{nat_lt}
use Rattle.std.proofs.lemmas.Bool.{and_parts, cases_eq, eq-eqb, eqb-true, ltb-true, ne_eqb}
use Rattle.gl_base.specs.declared.numbers.MachineNo.{MachineNo}
use Rattle.gl_base.specs.declared.scopes.Datum.{Datum}
use Rattle.gl_base.specs.declared.scopes.ScopeId.{ScopeId}
use Rattle.graph_core.specs.DataGraph.{DataEdge}
use Rattle.update_api.specs.Updates.{Update}
use Rattle.cluster_laws.specs.cluster_core.Actions.{MayMark, MaySend}
use Rattle.cluster_laws.specs.cluster_core.Effects.{ends, first_pending, first_unmarked, is_at, is_left, mark_news, marked, marked_datum, other_end, part_seeded, pends_for, save, saves_edge, seed_if}
use Rattle.cluster_laws.specs.cluster_core.Parts.{Part}
use Rattle.cluster_laws.specs.cluster_core.Ranges.{set_at}
use Rattle.cluster_laws.specs.cluster_core.Settings.{IsSetting, is_near}
use Rattle.cluster_laws.proofs.cluster_core.Basics.{first_passing-some, set_at-cases, set_at-other, set_at-same}
use Rattle.cluster_laws.proofs.cluster_core.Nearness.{near_other}
use Rattle.whole_laws.proofs.cluster_ending.Growing.{marked_longer}
use Rattle.cluster_laws.specs.cluster_model.Calls.{Saved}
use Rattle.cluster_laws.specs.cluster_model.Working.{makes_mark, prompt, sections}
use Rattle.partition.specs.machine_numbers.Views.{LocalView}
use Rattle.machine_core.specs.declared.machine_parts.cores.Core.{Core}
use Rattle.machine_core.specs.machine_parts.Order.{IsOrderly}
use Rattle.machine_core.specs.machine_parts.Parts.{flight_at}
use Rattle.machine_core.specs.machine_parts.Settings.{SameSettings}
use Rattle.machine_core.proofs.machine_scopes.HeldLemmas.{own_in}
use Rattle.machine_core.proofs.machine_scopes.LawLemmas.{some_number}
use Rattle.machine_core.proofs.machine_updates.CommitLemmas.{placed}
use Rattle.snapshot_machines.specs.saving.Machines.{SnapMachineView}
use Rattle.cluster_laws.proofs.known_parts.GuardLemmas.{alike_turned, mark_may, send_may}
use Rattle.cluster_laws.proofs.known_parts.MadeLemmas.{mark_alike}
use Rattle.snapshot_machines.specs.marking.Marking.{HasEndedPlan, HasMarked, HasSavedMore, HasSavedOnce, HasUnplanned}
use Rattle.snapshot_machines.specs.marking.Sending.{MayNotSendSection, MaySendSection}
use Rattle.coordinator.specs.machine_api.Deeds.{Mark as MarkDeed, Section as SectionDeed, marks_centre}
use Rattle.coordinator.specs.machine_api.Going.{IsSnapSetting}
use Rattle.coordinator.specs.machine_api.Promises.{CanDo, CanNotDo, HasDone}
use Rattle.coordinator.specs.snap_update.Snaps.{IsSameButRoom, own_section, with_section}
use Rattle.task_sets.specs.task_sched.Tasks.{is_flagged}
use Rattle.snapshot_machines.proofs.wave_counts.CountLemmas.{counts_put_out}
use Rattle.wire.specs.wire_msgs.Views.{MessageView}
use Rattle.wire.specs.wire_msgs.Views as wire
use Rattle.snapshot_machines.specs.locking.Reports.{AreToldReports, ReportsView}
use Rattle.snapshot_machines.specs.locking.Machines.{ArePlansOf, IsMarkedOwn, IsLockingMachineOf, IsSavedOnce, IsSavedRight, LooksAlike, Machine, LockingMachineView, Setting, SnapView, flag_there, is_end, nth_edge, part_held, part_of, place_at, size, with_snaps}
use Rattle.snapshot_machines.proofs.locking.StandLemmas.{alike_to, kept_from, still_stands}
use Rattle.snapshot_machines.proofs.locking.WorkLemmas.{ends_others, reports_push, still_flies, vertex_apart}

one_less : (p q : ℕ) → q + 1 ≡ p → pred p ≡ q
one_less p q is = omega (arith, is)

none_less : (p q : ℕ) → q + 0 ≡ p → p ≡ q
none_less p q is = omega (arith, is)

-- ---- where nothing is pending the first unmarked vertex becomes so

or_cases : (a b : Bool) → (a || b) ≡ true → (a ≡ true) ⊎ (b ≡ true)
or_cases true b is = inl refl
or_cases false b is = inr is

seed_found : (pending unmarked : Option ℕ) (u : ℕ) → is_at (seed_if pending unmarked) u ≡ true → unmarked ≡ Some u
seed_found None None u is = absurd (true≢false (sym is))
seed_found None (Some v) u is = ap Some (eqb-true v u is)
seed_found (Some x) unmarked u is = absurd (true≢false (sym is))

-- what is pending then has no mark, where what was pending had none
pub seeded_right : (st : Setting) (a : ℕ) (part : Part) → IsSavedRight st a part → IsSavedRight st a (part_seeded st a part)
seeded_right st a part right =
    record {
      vertices = λ v number has. let one = right.vertices v number has in record { vertex = one.vertex; owned = one.owned; marked = one.marked };
      edges = λ e number has. let one = right.edges e number has in (one.0, one.1, record { vertex = one.2.vertex; owned = one.2.owned; marked = one.2.marked });
      pending = λ v low owned is. ⊎_elim
          (λ (seed : is_at (seed_if (first_pending st part) (first_unmarked st a part)) v ≡ true).
          let found = first_passing-some (λ u. st.owner u == a && nat_lt (part.datum u).mark part.known) 0 (size st.graph) v (seed_found (first_pending st part) (first_unmarked st a part) v seed) in
          ltb-true (part.datum v).mark part.known (and_parts (st.owner v == a) (nat_lt (part.datum v).mark part.known) found.2).1)
          (λ (was : part.pending v ≡ true). right.pending v low owned was)
          (or_cases (is_at (seed_if (first_pending st part) (first_unmarked st a part)) v) (part.pending v) is);
    }

-- ---- a snapshot update

test_true : (test : Bool) (x y : Option ℕ) (z : ℕ) → (if test then x else y) ≡ Some z → (test ≡ true) ⊎ ((test ≡ false) × (y ≡ Some z))
test_true true x y z is = inl refl
test_true false x y z is = inr (refl, is)

-- an end of an edge beside v is the other one
end_beside : (e : DataEdge) (v w : ℕ) → is_end e v ≡ true → is_end e w ≡ true → (w ≡ v → ⊥) → w ≡ other_end e v
end_beside e v w first second off = by (e.from == v) refl
  where
    from_w : (e.from == w) ≡ true → e.from ≡ w
    from_w is = eqb-true e.from w is

    by : (b : Bool) → (e.from == v) ≡ b → w ≡ (if b then e.to else e.from)
    by true here = ⊎_elim
        (λ (is : (e.from == w) ≡ true). absurd (off (sym (eqb-true e.from w is) ∙ eqb-true e.from v here)))
        (λ (is : (e.to == w) ≡ true). sym (eqb-true e.to w is))
        (or_cases (e.from == w) (e.to == w) second)
    by false here = ⊎_elim
        (λ (is : (e.from == w) ≡ true). sym (eqb-true e.from w is))
        (λ (is : (e.to == w) ≡ true).
        let to_v : (e.to == v) ≡ true = ⊎_elim (λ (yes : (e.from == v) ≡ true). absurd (true≢false (sym yes ∙ here))) (λ (yes : (e.to == v) ≡ true). yes) (or_cases (e.from == v) (e.to == v) first) in
        absurd (off (sym (eqb-true e.to w is) ∙ eqb-true e.to v to_v)))
        (or_cases (e.from == w) (e.to == w) second)

module _ (st : Setting) (setting : IsSetting st) (a : ℕ) (s : ScopeId) (v : ℕ) (part : Part) (right : IsSavedRight st a part) (low : v < size st.graph) (owned : st.owner v ≡ a) (pends : part.pending v ≡ true) where
  abbrev done : Part
  done =
      ends st a s v (mark_news st part v)
      (record part {
        datum = set_at part.datum v (marked_datum part v);
        pending = λ u. pends_for st part v a u || (part.pending u && not (u == v));
        saved = save st part v;
      })

  here : IsMarkedOwn st a done v
  here = record { vertex = low; owned = owned; marked = subst (λ (d : Datum). part.known ≤ d.mark) (sym (set_at-same part.datum v (marked_datum part v))) (omega arith) }

  still : (u : ℕ) → IsMarkedOwn st a part u → IsMarkedOwn st a done u
  still u has =
      record {
        vertex = has.vertex;
        owned = has.owned;
        marked = set_at-cases (λ (d : Datum). part.known ≤ d.mark) part.datum v (marked_datum part v) u (λ same. omega arith) (λ off. has.marked);
      }

  done_right : IsSavedRight st a done
  done_right =
      record {
        vertices = λ u number has. ⊎_elim
            (λ (same : u ≡ v). subst (IsMarkedOwn st a done) (sym same) here)
            (λ (off : u ≡ v → ⊥). still u (right.vertices u number (sym (set_at-other part.saved.vertices v (Some (part.datum v).value) u off) ∙ has)))
            (cases_eq u v);
        edges = λ e number has. ⊎_elim
            (λ (saves : saves_edge st part v e ≡ true). (v, (and_parts (is_end (nth_edge st e) v) (is_left st part v (other_end (nth_edge st e) v)) saves).0, here))
            (λ (kept : (saves_edge st part v e ≡ false) × (part.saved.edges e ≡ Some number)). let one = right.edges e number kept.1 in (one.0, one.1, still one.0 one.2))
            (test_true (saves_edge st part v e) (Some (part.edge e)) (part.saved.edges e) number has);
        pending = λ u under own is. ⊎_elim
            (λ (left : pends_for st part v a u ≡ true).
            let near_left = and_parts (is_near st v u) (nat_lt (part.datum u).mark part.known) (and_parts (st.owner u == a) (is_left st part v u) left).1 in
            let off : u ≡ v → ⊥ = λ same. true≢false (sym (ap (is_near st v) (sym same) ∙ near_left.0) ∙ near_other st setting v) in
            subst (λ (d : Datum). d.mark < part.known) (sym (set_at-other part.datum v (marked_datum part v) u off)) (ltb-true (part.datum u).mark part.known near_left.1))
            (λ (was : (part.pending u && not (u == v)) ≡ true).
            let parts = and_parts (part.pending u) (not (u == v)) was in
            let off : u ≡ v → ⊥ = λ same. true≢false (sym (ap not (sym (eq-eqb u v same)) ∙ parts.1)) in
            subst (λ (d : Datum). d.mark < part.known) (sym (set_at-other part.datum v (marked_datum part v) u off)) (right.pending u under own parts.0))
            (or_cases (pends_for st part v a u) (part.pending u && not (u == v)) is);
      }

  pub marked_right : IsSavedRight st a (marked st a s v part)
  marked_right = seeded_right st a done done_right

  some_less : (o : Option ℕ) → ((number : ℕ) → o ≡ Some number → ⊥) → o ≡ None
  some_less None not = refl
  some_less (Some number) not = absurd (not number refl)

  -- neither v nor an edge that is to be saved was
  pub vertex_new : part.saved.vertices v ≡ None
  vertex_new = some_less (part.saved.vertices v) (λ number has. let one = right.vertices v number has in let less = right.pending v low owned pends in let more = one.marked in omega (arith, less, more))

  pub edge_new : (e : ℕ) → saves_edge st part v e ≡ true → part.saved.edges e ≡ None
  edge_new e saves =
      let x : DataEdge = nth_edge st e in
      let ends_of = and_parts (is_end x v) (is_left st part v (other_end x v)) saves in
      let unmarked : (part.datum (other_end x v)).mark < part.known =
      ltb-true (part.datum (other_end x v)).mark part.known (and_parts (is_near st v (other_end x v)) (nat_lt (part.datum (other_end x v)).mark part.known) ends_of.1).1 in
      some_less (part.saved.edges e)
      (λ number has.
      let one = right.edges e number has in
      ⊎_elim
      (λ (same : one.0 ≡ v).
      let less = right.pending v low owned pends in
      let more : part.known ≤ (part.datum v).mark = subst (λ (u : ℕ). part.known ≤ (part.datum u).mark) same one.2.marked in
      omega (arith, less, more))
      (λ (off : one.0 ≡ v → ⊥).
      let is : one.0 ≡ other_end x v = end_beside x v one.0 ends_of.0 one.1 off in
      let more : part.known ≤ (part.datum (other_end x v)).mark = subst (λ (u : ℕ). part.known ≤ (part.datum u).mark) is one.2.marked in
      omega (arith, unmarked, more))
      (cases_eq one.0 v))

module _ {P : Type 0} (meaning : P → Update) (x : LockingMachineView P) (now : SnapMachineView P) (orderly : IsOrderly x.machine.core) (s : ScopeId)
    (has : HasMarked x.machine.core x.machine.kept now.core now.kept s) (more : HasSavedMore x.machine.kept now.kept) (once : HasSavedOnce x.machine.core x.machine.kept now.kept s) (plan : HasEndedPlan x.machine.core now.core s)
    (local : now.core.numbers.local ≡ record x.machine.core.numbers.local { kept = now.core.numbers.local.kept }) (program : now.program ≡ x.machine.program) (settings : SameSettings x.machine.core now.core) where
  abbrev old : Core
  old = x.machine.core

  abbrev w : SnapView
  w = x.machine.kept

  abbrev v : ℕ
  v = has.may.vertex

  abbrev behind : LockingMachineView P
  behind = record x { machine = now }

  flies : flight_at old.pipe s ≡ Some (record { 0 = v })
  flies = some_number (flight_at old.pipe s) v has.may.flight

  place : (k : ℕ) × (place_at old.numbers.local v ≡ Some k)
  place = placed old.numbers.local v (orderly.flights.own s (record { 0 = v }) flies)

  plan_is : HasUnplanned old.numbers.tasks now.core.numbers.tasks place.0
  plan_is = plan (record { 0 = v }) place.0 flies place.1

  module _ (st : Setting) (a : ℕ) (m : Machine) (snap : IsSnapSetting st) (is : IsLockingMachineOf meaning st a m x) where
    abbrev new : Machine
    new = makes_mark st a s v m

    own : (v < size st.graph) × (st.owner v ≡ old.numbers.local.me.0)
    own = own_in st old.numbers.local v is.here.local (orderly.flights.own s (record { 0 = v }) flies)

    mine : st.owner v ≡ a
    mine = own.1 ∙ is.number

    home : s.home.0 ≡ a
    home = ap (λ (n : MachineNo). n.0) has.home ∙ is.number

    held_is : part_held behind ≡ marked st a s v (part_held x)
    held_is = has.after st snap.is is.here ∙ ap (λ (k : ℕ). marked st k s v (part_held x)) home

    alike : LooksAlike st a new.part (part_held behind)
    alike = alike_to st a new.part (marked st a s v (part_held x)) (part_held behind) (mark_alike st a v s m.part (part_held x) snap.is own.0 mine is.part) held_is

    flight_same : (t : ScopeId) → m.part.flight t ≡ (part_of old).flight t
    flight_same t = ap (λ (p : Part). p.flight t) is.part.rest

    plan_same : m.planned s ≡ is_flagged old.numbers.tasks.planned place.0
    plan_same = is.plans.planned s v (flight_same s ∙ has.may.flight) ∙ ap (flag_there old.numbers.tasks.planned) place.1

    less : (b : Bool) (p q : ℕ) → q + (if b then 1 else 0) ≡ p → (if b then pred p else p) ≡ q
    less true p q is = one_less p q is
    less false p q is = none_less p q is

    plans_are : ArePlansOf now.core.numbers new
    plans_are =
        ends_others old.numbers now.core.numbers m new s place.0 is.plans refl plan_is.planned (λ u. ap (λ (l : LocalView). place_at l u) local)
        (λ t u still.
        let one = still_flies m.part.flight s t u still in
        let apart : v ≡ u → ⊥ = vertex_apart old s t v u orderly has.may.flight (sym (flight_same t) ∙ one.1) one.0 in
        (one.1, λ same. apart (orderly.numbers.tasks.apart v u place.0 place.1 same), λ set. pending_left u apart set))
        (ap (λ (b : Bool). if b then pred m.plans else m.plans) plan_same ∙ less (is_flagged old.numbers.tasks.planned place.0) m.plans now.core.numbers.tasks.plans (plan_is.plans ∙ sym is.plans.many))
      where
        or_right : (b c : Bool) → c ≡ true → (b || c) ≡ true
        or_right true c is = refl
        or_right false c is = is

        pending_left : (u : ℕ) → (v ≡ u → ⊥) → m.part.pending u ≡ true → new.part.pending u ≡ true
        pending_left u off set =
            let same : (m.part.pending u && not (u == v)) ≡ true = ap (λ (b : Bool). b && not (u == v)) set ∙ ap not (ne_eqb u v (λ is. off (sym is))) in
            or_right _ _ (or_right (pends_for st m.part v a u) (m.part.pending u && not (u == v)) same)

    held_pending : (part_held x).pending v ≡ true
    held_pending = has.may.pending

    pub marked_standing : IsLockingMachineOf meaning st a new behind
    marked_standing =
        record {
          here = settings st is.here;
          number = ap (λ (l : LocalView). l.me.0) local ∙ is.number;
          program = is.program ∙ ap meaning (sym program);
          window = is.window;
          part = alike;
          kept = kept_from st a new now.kept (part_of now.core) alike (is.kept.acknowledged ∙ sym (ap (λ (y : SnapView). y.acknowledged) more)) (is.kept.wanted ∙ sym (ap (λ (y : SnapView). y.wanted) more))
              (is.kept.before ∙ sym (ap (λ (y : SnapView). y.before) more)) (is.kept.behind ∙ sym (ap (λ (y : SnapView). y.behind) more)) (is.kept.unsure ∙ sym (ap (λ (y : SnapView). y.unsure) more));
          counts = counts_put_out st x.counts m new is.counts (marked_longer st a s v m.part) refl refl refl;
          none_held = is.none_held;
          plans = plans_are;
          saved = subst (IsSavedRight st a) (sym held_is) (marked_right st snap.is a s v (part_held x) is.saved own.0 mine held_pending);
          once = once st (record { 0 = v }) snap.is is.here flies is.once (vertex_new st snap.is a s v (part_held x) is.saved own.0 mine held_pending) (edge_new st snap.is a s v (part_held x) is.saved own.0 mine held_pending);
          reports = is.reports;
        }

  pub marked_one : HasDone (IsLockingMachineOf meaning) x (MarkDeed s) behind
  marked_one st a m snap is =
      let new : Machine = makes_mark st a s v m in
      let may_m : MayMark s m.part =
      mark_may st a (part_held x) m.part (alike_turned st a m.part (part_held x) is.part) s
      (record { vertex = has.may.vertex; flight = has.may.flight; ready = has.may.ready; pending = has.may.pending }) in (
        (home st a m snap is, may_m),
        subst (λ (o : Option ℕ). IsLockingMachineOf meaning st a (prompt st a (marks_centre st a s o m)) behind) (sym (flight_same st a m snap is s ∙ has.may.flight))
            (still_stands meaning st a new behind (marked_standing st a m snap is)),
      )

module _ {P : Type 0} (meaning : P → Update) (x : LockingMachineView P) where
  pub can_mark : (s : ScopeId) → MayMark s (part_of x.machine.core) → s.home ≡ x.machine.core.numbers.local.me → CanDo (IsLockingMachineOf meaning) x (MarkDeed s)
  can_mark s may home st a m snap is = (
    ap (λ (n : MachineNo). n.0) home ∙ is.number,
    mark_may st a (part_held x) m.part (alike_turned st a m.part (part_held x) is.part) s (record { vertex = may.vertex; flight = may.flight; ready = may.ready; pending = may.pending }),
  )

  pub can_not_mark : (s : ScopeId) → (MayMark s (part_of x.machine.core) → ⊥) → CanNotDo (IsLockingMachineOf meaning) x (MarkDeed s)
  can_not_mark s not st a m snap is may =
      let one = mark_may st a m.part (part_held x) is.part s may.1 in
      not (record { vertex = one.vertex; flight = one.flight; ready = one.ready; pending = one.pending })

  -- ---- sections

  pub can_send : MaySendSection x.machine.core x.machine.kept → CanDo (IsLockingMachineOf meaning) x SectionDeed
  can_send may st a m snap is =
      send_may st a (part_held x) m.part (alike_turned st a m.part (part_held x) is.part) snap.is (subst (λ (k : ℕ). MaySend st k (part_held x)) is.number (may st is.here))

  pub can_not_send : MayNotSendSection x.machine.core x.machine.kept → CanNotDo (IsLockingMachineOf meaning) x SectionDeed
  can_not_send not st a m snap is may =
      not st is.here (subst (λ (k : ℕ). MaySend st k (part_held x)) (sym is.number) (send_may st a m.part (part_held x) is.part snap.is may))

  pub section_sent : (kept : SnapView) (reports : ReportsView) → MaySendSection x.machine.core x.machine.kept → IsSameButRoom (with_section x.machine.kept) kept
      → reports.messages ≡ x.reports.messages ++ wire.Section (own_section x.machine.kept) ∷ [] → HasDone (IsLockingMachineOf meaning) x SectionDeed (record x { machine = record x.machine { kept = kept }; reports = reports })
  section_sent kept reports may same told st a m snap is =
      let new : Machine = sections m in
      let behind : LockingMachineView P = record x { machine = record x.machine { kept = kept }; reports = reports } in
      let sent : with_snaps kept (part_of x.machine.core) ≡ record (part_held x) { sent = (part_held x).known } = ap (λ (w : SnapView). with_snaps w (part_of x.machine.core)) same in
      let alike : LooksAlike st a new.part (record (part_held x) { sent = (part_held x).known }) =
      record { rest = ap (λ (p : Part). record p { sent = p.known }) is.part.rest; vertices = is.part.vertices; edges = is.part.edges } in
      let held : LooksAlike st a new.part (part_held behind) = alike_to st a new.part (record (part_held x) { sent = (part_held x).known }) (part_held behind) alike sent in
      let right : IsSavedRight st a (record (part_held x) { sent = (part_held x).known }) =
      record {
        vertices = λ v number has. let one = is.saved.vertices v number has in record { vertex = one.vertex; owned = one.owned; marked = one.marked };
        edges = λ e number has. let one = is.saved.edges e number has in (one.0, one.1, record { vertex = one.2.vertex; owned = one.2.owned; marked = one.2.marked });
        pending = is.saved.pending;
      } in (
        can_send may st a m snap is,
        still_stands meaning st a new behind
            (record {
              here = is.here;
              number = is.number;
              program = is.program;
              window = is.window;
              part = held;
              kept = kept_from st a new kept (part_of x.machine.core) held (is.kept.acknowledged ∙ sym (ap (λ (w : SnapView). w.acknowledged) same)) (is.kept.wanted ∙ sym (ap (λ (w : SnapView). w.wanted) same))
                  (sym (ap (λ (w : SnapView). w.before) same)) (is.kept.behind ∙ sym (ap (λ (w : SnapView). w.behind) same))
                  ((λ i. is.kept.unsure i ++ length (is.kept.before i) ∷ []) ∙ sym (ap (λ (w : SnapView). w.unsure) same));
              counts = record { sent = is.counts.sent; received = is.counts.received; held = is.counts.held };
              none_held = is.none_held;
              plans = record { many = is.plans.many; planned = is.plans.planned; others = is.plans.others };
              saved = subst (IsSavedRight st a) (sym sent) right;
              once = subst IsSavedOnce (sym same) (record { vertices = is.once.vertices; edges = is.once.edges });
              reports = subst (λ ms. AreToldReports ms new.out) (sym told)
                  (reports_push x.reports.messages m.out (wire.Section (own_section x.machine.kept)) (Saved m.part.known m.part.saved m.before) is.reports
                  ((is.kept.known, is.kept.saved, is.kept.before), record { vertices = is.once.vertices; edges = is.once.edges }));
            }),
      )
