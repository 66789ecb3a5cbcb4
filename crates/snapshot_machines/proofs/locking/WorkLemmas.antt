-- Updates, and what is asked for behind them, for each machine of the law.
use Rattle.std.proofs.Common.{◌≡◌, ℕ, suc, pred, ◌+◌, ◌<◌, ◌==◌, ◌&&◌, ◌||◌, ◌++◌, not, Bool, true, false, true≢false, if◌then◌else◌, Option, None, Some, List, [], ◌∷◌, refl, sym, ap, ◌∙◌, subst, ⊎_elim, arith}
use Rattle.std.specs.Prelude.{nat_le, nat_lt, slice_set}
use Rattle.std.proofs.lemmas.Bool.{cases_Bool}
use Rattle.std.proofs.lemmas.List.{get_or-set_other}
use Rattle.gl_base.specs.declared.entries.Entry.{Entry}
use Rattle.gl_base.specs.declared.entries.Entry.TheVariants.{Go}
use Rattle.gl_base.specs.declared.numbers.MachineNo.{MachineNo}
use Rattle.gl_base.specs.declared.scopes.Datum.{Datum}
use Rattle.gl_base.specs.declared.scopes.ScopeId.{ScopeId}
use Rattle.seq_run.specs.States.{new_number}
use Rattle.update_api.specs.Updates.{Update}
use Rattle.cluster_laws.specs.cluster_core.Actions.{MayUpdate}
use Rattle.cluster_laws.specs.cluster_core.Effects.{renewed, updated}
use Rattle.cluster_laws.specs.cluster_core.Parts.{Part, lent}
use Rattle.cluster_laws.specs.cluster_core.Scopes.{is_scope, set_for}
use Rattle.cluster_laws.proofs.cluster_core.Basics.{same_scope, scope_cases, set_at-kept, set_for-other, set_for-same}
use Rattle.whole_laws.proofs.cluster_ending.Growing.{updated_longer}
use Rattle.cluster_laws.specs.cluster_model.Calls.{Report, Want}
use Rattle.cluster_laws.specs.cluster_model.Machines.{outside}
use Rattle.cluster_laws.specs.cluster_model.Working.{asks, asks_if, asks_more, half_window, makes_update, prompt, works_on}
use Rattle.partition.specs.machine_numbers.Steps.{HasRun}
use Rattle.partition.specs.machine_numbers.Views.{LocalView, TasksView, datum_here}
use Rattle.partition.specs.declared.machine_numbers.keeping.Numbers.{Numbers}
use Rattle.machine_core.specs.declared.machine_parts.cores.Core.{Core}
use Rattle.machine_core.specs.machine_parts.Order.{IsOrderly}
use Rattle.machine_core.specs.machine_parts.Parts.{flight_at}
use Rattle.machine_core.specs.machine_parts.Settings.{SameSettings}
use Rattle.machine_core.proofs.machine_scopes.HeldLemmas.{own_in}
use Rattle.machine_core.proofs.machine_scopes.LawLemmas.{some_number}
use Rattle.machine_core.specs.machine_turns.Turns.{HasMadeUpdate, HasRunOf}
use Rattle.machine_core.proofs.machine_updates.CommitLemmas.{placed}
use Rattle.snapshot_machines.specs.saving.Machines.{SnapMachineView}
use Rattle.snapshot_machines.specs.saving.Updates.{HasLogged}
use Rattle.cluster_laws.proofs.known_parts.GuardLemmas.{alike_turned, update_may}
use Rattle.cluster_laws.proofs.known_parts.MadeLemmas.{update_alike}
use Rattle.cluster_laws.proofs.known_parts.SeenLemmas.{own_seen, seen_of}
use Rattle.coordinator.specs.machine_api.Deeds.{Update as UpdateDeed, updates_centre}
use Rattle.coordinator.specs.machine_api.Going.{IsSnapSetting}
use Rattle.coordinator.specs.machine_api.Promises.{CanNotDo, CanUpdate, HasDone, TellsReport}
use Rattle.coordinator.specs.snap_update.Snaps.{IsSameButRoom, with_entry}
use Rattle.snapshot_machines.proofs.wave_counts.CountLemmas.{counts_put_out}
use Rattle.wire.specs.wire_msgs.Views.{MessageView}
use Rattle.wire.specs.wire_msgs.Views as wire
use Rattle.snapshot_machines.specs.locking.Reports.{AreToldReports, ReportsView}
use Rattle.snapshot_machines.specs.locking.Asking.{HasWanted, has_to_ask_in, with_wish}
use Rattle.snapshot_machines.specs.locking.Machines.{ArePlansOf, IsLockingMachineOf, IsSavedOnce, IsSavedRight, LooksAlike, Machine, LockingMachineView, Setting, SnapView, flag_there, part_held, part_of, place_at, size, with_snaps}
use Rattle.snapshot_machines.proofs.locking.StandLemmas.{alike_to, kept_from, outside_is, saved_kept, still_stands}

-- ---- reports

pub reports_push : (ms : List MessageView) (rs : List Report) (m : MessageView) (r : Report) → AreToldReports ms rs → TellsReport m r → AreToldReports (ms ++ m ∷ []) (rs ++ r ∷ [])
reports_push [] [] m r are tells = (tells, tt)
reports_push [] (one ∷ rs) m r are tells = absurd are
reports_push (one ∷ ms) [] m r are tells = absurd are
reports_push (one ∷ ms) (other ∷ rs) m r are tells = (are.0, reports_push ms rs m r are.1 tells)

-- ---- what is asked for

-- where the test passes it has asked
abbrev asked_if : {P : Type 0} → Bool → LockingMachineView P → LockingMachineView P
asked_if test x =
    record x {
      machine = record x.machine { kept = record x.machine.kept { wanted = x.machine.kept.wanted || test } };
      reports = with_wish (if test then Some x.machine.kept.acknowledged else None) x.reports;
    }

asked_reports : (test : Bool) (r : ReportsView) (k j : ℕ) (out : List Report) → j ≡ k → AreToldReports r.messages out → AreToldReports (with_wish (if test then Some k else None) r).messages (if test then out ++ Want j ∷ [] else out)
asked_reports true r k j out same are = reports_push r.messages out (wire.Want k) (Want j) are (ap Want same, tt)
asked_reports false r k j out same are = are

module _ {P : Type 0} (meaning : P → Update) (st : Setting) (a : ℕ) (m : Machine) (x : LockingMachineView P) (is : IsLockingMachineOf meaning st a m x) where
  asked_by : (test : Bool) → IsLockingMachineOf meaning st a (asks_if test m) (asked_if test x)
  asked_by test =
      record {
        here = is.here;
        number = is.number;
        program = is.program;
        window = is.window;
        part = is.part;
        kept = record {
          known = is.kept.known;
          sent = is.kept.sent;
          acknowledged = is.kept.acknowledged;
          wanted = ap (λ (b : Bool). b || test) is.kept.wanted;
          saved = is.kept.saved;
          before = is.kept.before;
          behind = is.kept.behind;
          unsure = is.kept.unsure;
        };
        counts = record { sent = is.counts.sent; received = is.counts.received; held = is.counts.held };
        none_held = is.none_held;
        plans = record { many = is.plans.many; planned = is.plans.planned; others = is.plans.others };
        saved = is.saved;
        once = record { vertices = is.once.vertices; edges = is.once.edges };
        reports = asked_reports test x.reports x.machine.kept.acknowledged m.acknowledged m.out is.kept.acknowledged is.reports;
      }

  -- it has to ask where the law asks
  test_by : (b : Bool) → x.window ≡ (if b then Some st.window else None) → (b && not m.wanted && nat_le (half_window st) (outside m)) ≡ has_to_ask_in x.window x.machine.kept
  test_by true some =
      (λ i. not (is.kept.wanted i) && nat_le (half_window st) (outside_is meaning st a m x is i))
      ∙ sym (ap (λ (o : Option ℕ). has_to_ask_in o x.machine.kept) some)
  test_by false none = sym (ap (λ (o : Option ℕ). has_to_ask_in o x.machine.kept) none)

  test_is : asks_more st m ≡ has_to_ask_in x.window x.machine.kept
  test_is = test_by st.stored is.window

  pub asked_standing : (now : LockingMachineView P) → HasWanted x now → IsLockingMachineOf meaning st a (asks st m) now
  asked_standing now has =
      subst (IsLockingMachineOf meaning st a (asks st m)) (sym has)
      (subst (λ (test : Bool). IsLockingMachineOf meaning st a (asks_if test m) (asked_if (has_to_ask_in x.window x.machine.kept) x)) (sym test_is) (asked_by (has_to_ask_in x.window x.machine.kept)))

-- ---- an update

pub entry_before : (b : Bool) (w : SnapView) (e : Entry) (before : List Entry) → before ≡ w.before → (if b then before ++ e ∷ [] else before) ≡ (if b then record w { before = w.before ++ e ∷ [] } else record w { behind = w.behind ++ e ∷ [] }).before
entry_before true w e before is = ap (λ (es : List Entry). es ++ e ∷ []) is
entry_before false w e before is = is

pub entry_behind : (b : Bool) (w : SnapView) (e : Entry) (behind : List Entry) → behind ≡ w.behind → (if b then behind else behind ++ e ∷ []) ≡ (if b then record w { before = w.before ++ e ∷ [] } else record w { behind = w.behind ++ e ∷ [] }).behind
entry_behind true w e behind is = is
entry_behind false w e behind is = ap (λ (es : List Entry). es ++ e ∷ []) is

-- beside the entries the same is kept
pub record HasOtherEntries (w now : SnapView) : Type 0 where
  pub known : now.known ≡ w.known
  pub sent : now.sent ≡ w.sent
  pub acknowledged : now.acknowledged ≡ w.acknowledged
  pub wanted : now.wanted ≡ w.wanted
  pub vertices : now.vertices ≡ w.vertices
  pub edges : now.edges ≡ w.edges
  pub unsure : now.unsure ≡ w.unsure

entry_rest : (b : Bool) (w : SnapView) (e : Entry) → HasOtherEntries w (if b then record w { before = w.before ++ e ∷ [] } else record w { behind = w.behind ++ e ∷ [] })
entry_rest true w e = record { known = refl; sent = refl; acknowledged = refl; wanted = refl; vertices = refl; edges = refl; unsure = refl }
entry_rest false w e = record { known = refl; sent = refl; acknowledged = refl; wanted = refl; vertices = refl; edges = refl; unsure = refl }

pub entry_kept : (e : Entry) (mark : ℕ) (w now : SnapView) → IsSameButRoom (with_entry e mark w) now → HasOtherEntries w now
entry_kept e mark w now same =
    let one = entry_rest (nat_lt mark w.known) w e in
    record {
      known = ap (λ (x : SnapView). x.known) same ∙ one.known;
      sent = ap (λ (x : SnapView). x.sent) same ∙ one.sent;
      acknowledged = ap (λ (x : SnapView). x.acknowledged) same ∙ one.acknowledged;
      wanted = ap (λ (x : SnapView). x.wanted) same ∙ one.wanted;
      vertices = ap (λ (x : SnapView). x.vertices) same ∙ one.vertices;
      edges = ap (λ (x : SnapView). x.edges) same ∙ one.edges;
      unsure = ap (λ (x : SnapView). x.unsure) same ∙ one.unsure;
    }

pub other_once : (w now : SnapView) → HasOtherEntries w now → IsSavedOnce w → IsSavedOnce now
other_once w now same once =
    subst IsSavedOnce (λ i. record now { vertices = sym same.vertices i; edges = sym same.edges i })
    (record { vertices = once.vertices; edges = once.edges })

pub other_snaps : (w now : SnapView) (part : Part) → HasOtherEntries w now → with_snaps now part ≡ with_snaps w part
other_snaps w now part same = λ i. with_snaps (record now { known = same.known i; sent = same.sent i; vertices = same.vertices i; edges = same.edges i }) part

-- ---- plans, as a scope ends

-- the flags of other places stay
pub flag_left : (flags : List Bool) (k : ℕ) (o : Option ℕ) → (o ≡ Some k → ⊥) → flag_there (slice_set flags k false) o ≡ flag_there flags o
flag_left flags k None off = refl
flag_left flags k (Some j) off = get_or-set_other flags k j false false (λ same. off (ap Some same))

-- another scope has another vertex
pub vertex_apart : (m : Core) (s t : ScopeId) (v u : ℕ) → IsOrderly m → (part_of m).flight s ≡ Some v → (part_of m).flight t ≡ Some u → is_scope t s ≡ false → v ≡ u → ⊥
vertex_apart m s t v u orderly first other apart same =
    let one : flight_at m.pipe s ≡ Some (record { 0 = v }) = some_number (flight_at m.pipe s) v first in
    let two : flight_at m.pipe t ≡ Some (record { 0 = v }) = some_number (flight_at m.pipe t) v (other ∙ ap Some (sym same)) in
    let one_scope : t ≡ s = orderly.flights.single t s (record { 0 = v }) two one in
    true≢false (sym (ap (λ (r : ScopeId). is_scope r s) one_scope ∙ same_scope s) ∙ apart)

-- the flight of s, and then the others
pub ends_others : (n now : Numbers) (m new : Machine) (s : ScopeId) (k : ℕ) → ArePlansOf n m → new.planned ≡ m.planned → now.tasks.planned ≡ slice_set n.tasks.planned k false → ((u : ℕ) → place_at now.local u ≡ place_at n.local u)
    → ((t : ScopeId) (u : ℕ) → new.part.flight t ≡ Some u → (m.part.flight t ≡ Some u) × (place_at n.local u ≡ Some k → ⊥) × (m.part.pending u ≡ true → new.part.pending u ≡ true)) → new.plans ≡ now.tasks.plans → ArePlansOf now new
ends_others n now m new s k are planned flags places others plans =
    record {
      many = plans;
      planned = λ t u flies.
          let one = others t u flies in
          ap (λ f. f t) planned ∙ are.planned t u one.0
          ∙ sym (ap (λ fs. flag_there fs (place_at now.local u)) flags ∙ ap (flag_there (slice_set n.tasks.planned k false)) (places u) ∙ flag_left n.tasks.planned k (place_at n.local u) one.1);
      others = λ t u flies no_plan. let one = others t u flies in one.2 (are.others t u one.0 (sym (ap (λ f. f t) planned) ∙ no_plan));
    }

-- a scope in flight is another one than one that has ended
pub still_flies : (f : ScopeId → Option ℕ) (s t : ScopeId) (u : ℕ) → set_for f s None t ≡ Some u → (is_scope t s ≡ false) × (f t ≡ Some u)
still_flies f s t u flies = ⊎_elim
    (λ (same : t ≡ s). absurd (none_some u (sym (ap (set_for f s None) same ∙ set_for-same f s None) ∙ flies)))
    (λ (apart : is_scope t s ≡ false). (apart, sym (set_for-other f s None t apart) ∙ flies))
    (scope_cases t s)
  where
    none_some : (v : ℕ) → None ≡ Some v → ⊥
    none_some v is = cc

module _ {P : Type 0} (meaning : P → Update) (x : LockingMachineView P) (now : SnapMachineView P) (reports : ReportsView) (orderly : IsOrderly x.machine.core) (s : ScopeId) (ticket : ℕ)
    (has : HasMadeUpdate (meaning x.machine.program) x.machine.core now.core s ticket) (run : HasRunOf x.machine.core now.core s) (logged : HasLogged x.machine.core x.machine.kept now.kept s ticket)
    (local : let old = x.machine.core.numbers.local in let new = now.core.numbers.local in new ≡ record old { kept = new.kept; rows = new.rows; numbers = new.numbers })
    (program : now.program ≡ x.machine.program) (settings : SameSettings x.machine.core now.core) (told : reports.messages ≡ x.reports.messages) where
  abbrev old : Core
  old = x.machine.core

  abbrev w : SnapView
  w = x.machine.kept

  abbrev v : ℕ
  v = has.may.vertex

  abbrev entry : Entry
  entry = Go s.home (record { 0 = has.may.vertex }) ticket

  abbrev worked : LockingMachineView P
  worked = record x { machine = now; reports = reports }

  flies : flight_at old.pipe s ≡ Some (record { 0 = v })
  flies = some_number (flight_at old.pipe s) v has.may.flight

  kept_is : IsSameButRoom (with_entry entry (datum_here old.numbers v).mark w) now.kept
  kept_is = logged (record { 0 = v }) flies

  rest : HasOtherEntries w now.kept
  rest = entry_kept entry (datum_here old.numbers v).mark w now.kept kept_is

  place : (k : ℕ) × (place_at old.numbers.local v ≡ Some k)
  place = placed old.numbers.local v (orderly.flights.own s (record { 0 = v }) flies)

  run_is : HasRun old.numbers.tasks now.core.numbers.tasks place.0
  run_is = run (record { 0 = v }) place.0 flies place.1

  module _ (st : Setting) (a : ℕ) (m : Machine) (snap : IsSnapSetting st) (is : IsLockingMachineOf meaning st a m x) where
    abbrev new : Machine
    new = works_on st a s v entry m

    owned : (v < size st.graph) × (st.owner v ≡ old.numbers.local.me.0)
    owned = own_in st old.numbers.local v is.here.local (orderly.flights.own s (record { 0 = v }) flies)

    mine : st.owner v ≡ a
    mine = owned.1 ∙ is.number

    home : s.home.0 ≡ a
    home = ap (λ (n : MachineNo). n.0) has.home ∙ is.number

    held_is : part_held worked ≡ updated st a s v entry (part_held x)
    held_is =
        other_snaps w now.kept (part_of now.core) rest
        ∙ ap (with_snaps w) (has.after st snap.is is.here is.program ∙ ap (λ (k : ℕ). updated st k s v entry (part_of old)) home)

    alike : LooksAlike st a new.part (part_held worked)
    alike = alike_to st a new.part (updated st a s v entry (part_held x)) (part_held worked) (update_alike st a v s entry m.part (part_held x) snap.is owned.0 mine is.part) held_is

    datum_is : m.part.datum v ≡ datum_here old.numbers v
    datum_is = own_seen st a snap.is m.part.datum m.part.edge (part_held x) (seen_of st a m.part (part_held x) is.part) v owned.0 mine

    test_same : nat_lt (m.part.datum v).mark m.part.known ≡ nat_lt (datum_here old.numbers v).mark w.known
    test_same = λ i. nat_lt (datum_is i).mark (is.kept.known i)

    flight_same : (t : ScopeId) → m.part.flight t ≡ (part_of old).flight t
    flight_same t = ap (λ (p : Part). p.flight t) is.part.rest

    was_planned : m.planned s ≡ true
    was_planned = ⊎_elim
        (λ (yes : m.planned s ≡ true). yes)
        (λ (no : m.planned s ≡ false).
        absurd (true≢false (sym (sym (ap (λ (p : Part). p.pending v) is.part.rest) ∙ is.plans.others s v (flight_same s ∙ has.may.flight) no) ∙ has.may.not_pending)))
        (cases_Bool (m.planned s))

    plans_are : ArePlansOf now.core.numbers new
    plans_are =
        let many : pred m.plans ≡ now.core.numbers.tasks.plans = less m.plans now.core.numbers.tasks.plans (is.plans.many ∙ sym run_is.plans) in
        ends_others old.numbers now.core.numbers m new s place.0 is.plans refl (ap (λ (t : TasksView). t.planned) run_is.rest) (λ u. ap (λ (l : LocalView). place_at l u) local)
        (λ t u still.
        let one = still_flies m.part.flight s t u still in (
          one.1,
          λ same. vertex_apart old s t v u orderly has.may.flight (sym (flight_same t) ∙ one.1) one.0 (orderly.numbers.tasks.apart v u place.0 place.1 same),
          λ set. set,
        ))
        (ap (λ (b : Bool). if b then pred m.plans else m.plans) was_planned ∙ many)
      where
        less : (p q : ℕ) → p ≡ q + 1 → pred p ≡ q
        less p q is = omega (arith, is)

    saved_right : IsSavedRight st a (part_held worked)
    saved_right =
        subst (IsSavedRight st a) (sym held_is)
        (saved_kept st a (part_held x) (updated st a s v entry (part_held x)) refl refl
        (set_at-kept (λ (d : Datum). d.mark) (part_held x).datum v (renewed ((part_held x).datum v) (new_number st.graph st.program (lent (part_held x)) v))
        (mark_same ((part_held x).datum v) (new_number st.graph st.program (lent (part_held x)) v)))
        (λ u set. set) is.saved)
      where
        mark_same : (old_datum : Datum) (value : ℕ) → (renewed old_datum value).mark ≡ old_datum.mark
        mark_same d value = by (value == d.value)
          where
            by : (b : Bool) → (if b then d else record { value = value; version = suc d.version; mark = d.mark }).mark ≡ d.mark
            by true = refl
            by false = refl

    pub worked_standing : IsLockingMachineOf meaning st a new worked
    worked_standing =
        record {
          here = settings st is.here;
          number = ap (λ (l : LocalView). l.me.0) local ∙ is.number;
          program = is.program ∙ ap meaning (sym program);
          window = is.window;
          part = alike;
          kept = kept_from st a new now.kept (part_of now.core) alike (is.kept.acknowledged ∙ sym rest.acknowledged) (is.kept.wanted ∙ sym rest.wanted)
              (ap (λ (b : Bool). if b then m.before ++ entry ∷ [] else m.before) test_same ∙ entry_before (nat_lt (datum_here old.numbers v).mark w.known) w entry m.before is.kept.before ∙ sym (ap (λ (y : SnapView). y.before) kept_is))
              (ap (λ (b : Bool). if b then m.behind else m.behind ++ entry ∷ []) test_same ∙ entry_behind (nat_lt (datum_here old.numbers v).mark w.known) w entry m.behind is.kept.behind ∙ sym (ap (λ (y : SnapView). y.behind) kept_is))
              (is.kept.unsure ∙ sym rest.unsure);
          counts = counts_put_out st x.counts m new is.counts (updated_longer st a s v entry m.part) refl refl refl;
          none_held = is.none_held;
          plans = plans_are;
          saved = saved_right;
          once = other_once w now.kept rest is.once;
          reports = subst (λ ms. AreToldReports ms m.out) (sym told) is.reports;
        }

  -- the update is the machine's part of the event, and it asks for a snapshot where it has to
  pub updated_one : (behind : LockingMachineView P) → HasWanted worked behind → HasDone (IsLockingMachineOf meaning) x (UpdateDeed s ticket) behind
  updated_one behind asked st a m snap is =
      let may_m : MayUpdate s m.part 1 =
      update_may st a (part_held x) m.part (alike_turned st a m.part (part_held x) is.part) s 1
      (record { vertex = has.may.vertex; flight = has.may.flight; ready = has.may.ready; not_pending = has.may.not_pending; task = has.may.task; ticket = has.may.ticket }) in
      let new : Machine = makes_update st a s v entry m in
      let stands : IsLockingMachineOf meaning st a new behind = asked_standing meaning st a (works_on st a s v entry m) worked (worked_standing st a m snap is) behind asked in (
        (home st a m snap is, may_m),
        subst (λ (o : Option ℕ). IsLockingMachineOf meaning st a (prompt st a (updates_centre st a s ticket o m)) behind) (sym (flight_same st a m snap is s ∙ has.may.flight))
            (still_stands meaning st a new behind stands),
      )

-- ---- where no update is made

module _ {P : Type 0} (meaning : P → Update) (x : LockingMachineView P) (s : ScopeId) where
  pub can_update : MayUpdate s (part_of x.machine.core) 1 → s.home ≡ x.machine.core.numbers.local.me → CanUpdate (IsLockingMachineOf meaning) x s
  can_update may home ticket st a m snap is = (
    ap (λ (n : MachineNo). n.0) home ∙ is.number,
    update_may st a (part_held x) m.part (alike_turned st a m.part (part_held x) is.part) s 1
        (record { vertex = may.vertex; flight = may.flight; ready = may.ready; not_pending = may.not_pending; task = may.task; ticket = may.ticket }),
  )

  pub can_not_update : (MayUpdate s (part_of x.machine.core) 1 → ⊥) → (ticket : ℕ) → CanNotDo (IsLockingMachineOf meaning) x (UpdateDeed s ticket)
  can_not_update not ticket st a m snap is may =
      let one = update_may st a m.part (part_held x) is.part s 1 may.1 in
      not (record { vertex = one.vertex; flight = one.flight; ready = one.ready; not_pending = one.not_pending; task = one.task; ticket = one.ticket })
