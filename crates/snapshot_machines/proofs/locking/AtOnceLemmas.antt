-- An update at once, and what is asked for behind it, for each machine of the law.
use Rattle.std.proofs.Common.{◌≡◌, ℕ, suc, ◌<◌, ◌==◌, ◌++◌, Bool, true, false, if◌then◌else◌, Option, None, Some, List, [], ◌∷◌, refl, sym, ap, ◌∙◌, subst, ⊎_elim, inl, inr}
use Rattle.std.specs.Prelude.{nat_lt}
use Rattle.gl_base.specs.declared.entries.Entry.{Entry}
use Rattle.gl_base.specs.declared.entries.Entry.TheVariants.{Go}
use Rattle.gl_base.specs.declared.numbers.Vertex.{Vertex}
use Rattle.gl_base.specs.declared.scopes.Claim.{Claim}
use Rattle.gl_base.specs.declared.scopes.Datum.{Datum}
use Rattle.gl_base.specs.declared.scopes.Mode.{Mode}
use Rattle.gl_base.specs.declared.scopes.ScopeId.{ScopeId}
use Rattle.seq_run.specs.States.{new_number}
use Rattle.update_api.specs.Updates.{Update}
use Rattle.cluster_laws.specs.cluster_core.Actions.{MayAdmit}
use Rattle.cluster_laws.specs.cluster_core.Effects.{next_scope, renewed, updated}
use Rattle.cluster_laws.specs.cluster_core.Parts.{Part, Stand, lent}
use Rattle.cluster_laws.specs.cluster_core.Scopes.{is_scope}
use Rattle.cluster_laws.proofs.cluster_core.Basics.{scope_cases, set_at-kept, set_for-other}
use Rattle.cluster_laws.specs.cluster_model.Working.{asks}
use Rattle.cluster_laws.specs.interior_scopes.AtOnce.{IsInterior, IsUnseen, MayUpdateAtOnce, at_once, entry_at_once}
use Rattle.machine_core.specs.machine_at_once.Picks.{CanUpdatePick, HasNoneAtOnce, HasRunAtOnce, HasUpdatedPick}
use Rattle.partition.specs.machine_numbers.Views.{LocalView, TasksView, datum_here}
use Rattle.machine_core.specs.declared.machine_parts.cores.Core.{Core}
use Rattle.machine_core.specs.machine_parts.Order.{IsOrderly, KnowsPlaces}
use Rattle.machine_core.specs.machine_parts.Parts.{flight_at}
use Rattle.machine_core.specs.machine_parts.Settings.{SameSettings}
use Rattle.machine_core.proofs.machine_scopes.LawLemmas.{some_number}
use Rattle.snapshot_machines.specs.saving.Machines.{SnapMachineView, outside_of}
use Rattle.snapshot_machines.specs.saving.Updates.{HasLoggedAtOnce, HasUpdatedFound}
use Rattle.cluster_laws.specs.known_parts.Alike.{IsSetting}
use Rattle.cluster_laws.proofs.known_parts.MadeLemmas.{update_alike}
use Rattle.cluster_laws.proofs.known_parts.SeenLemmas.{own_seen, seen_of}
use Rattle.coordinator.specs.machine_api.AtOnce.{CanNotUpdateAtOnce, CanUpdateAtOnce, HasUpdatedAtOnce, MayUpdateWithin}
use Rattle.coordinator.specs.machine_api.Going.{IsSnapSetting}
use Rattle.coordinator.specs.snap_update.Snaps.{IsSameButRoom, with_entry}
use Rattle.task_sets.specs.task_sched.Tasks.{is_open}
use Rattle.snapshot_machines.specs.locking.Reports.{AreToldReports, ReportsView}
use Rattle.snapshot_machines.specs.locking.Asking.{HasWanted}
use Rattle.snapshot_machines.specs.locking.Machines.{ArePlansOf, IsLockingMachineOf, IsSavedRight, LooksAlike, Machine, LockingMachineView, Setting, SnapView, flag_there, part_held, part_of, place_at, size, with_snaps}
use Rattle.snapshot_machines.proofs.locking.ScopeLemmas.{admit_here, admit_there, can_not_admit, pending_is}
use Rattle.snapshot_machines.proofs.locking.StandLemmas.{alike_to, closed_is, kept_from, room_is, saved_kept}
use Rattle.snapshot_machines.proofs.locking.TurnLemmas.{done_at_once, worked_at_once}
use Rattle.snapshot_machines.proofs.locking.WorkLemmas.{HasOtherEntries, asked_standing, entry_before, entry_behind, entry_kept, other_once, other_snaps}

-- ---- parts that look alike

-- the update at once changes data, edges, tasks and the log as the update of a scope does
pub at_once_alike : (st : Setting) (a v : ℕ) (entry : Entry) (one other : Part) → IsSetting st → v < size st.graph → st.owner v ≡ a → LooksAlike st a one other
    → LooksAlike st a (at_once st a v entry one) (at_once st a v entry other)
at_once_alike st a v entry one other is low own alike =
    let s = next_scope a one in
    let made : LooksAlike st a (updated st a s v entry one) (updated st a s v entry other) = update_alike st a v s entry one other is low own alike in
    record {
      rest = λ i. record (alike.rest i) {
        datum = (at_once st a v entry one).datum;
        edge = (at_once st a v entry one).edge;
        task = (made.rest i).task;
        log = (made.rest i).log;
        serial = suc (alike.rest i).serial;
      };
      vertices = made.vertices;
      edges = made.edges;
    }

-- ---- guards don't look at numbers, nor at what is kept for snapshots

-- what an update at once asks of scopes, locks and tasks is the same
pub record HasSameLocks (one other : Part) : Type 0 where
  pub serial : one.serial ≡ other.serial
  pub task : one.task ≡ other.task
  pub pending : one.pending ≡ other.pending
  pub flight : one.flight ≡ other.flight
  pub stand : one.stand ≡ other.stand
  pub ready : one.ready ≡ other.ready
  pub holder : one.holder ≡ other.holder
  pub queue : one.queue ≡ other.queue

pub turned : (one other : Part) → HasSameLocks one other → HasSameLocks other one
turned one other same =
    record {
      serial = sym same.serial;
      task = sym same.task;
      pending = sym same.pending;
      flight = sym same.flight;
      stand = sym same.stand;
      ready = sym same.ready;
      holder = sym same.holder;
      queue = sym same.queue;
    }

pub may_with : (st : Setting) (a b v : ℕ) (one other : Part) → a ≡ b → HasSameLocks one other → MayAdmit st b v other → MayUpdateAtOnce st a v one 1 → MayUpdateAtOnce st b v other 1
may_with st a b v one other number same admit may =
    let s : ScopeId = next_scope a one in
    let unseen : IsUnseen other s = record {
      flight = sym (ap (λ (f : ScopeId → Option ℕ). f s) same.flight) ∙ may.is_new.flight;
      stand = sym (ap (λ (f : ScopeId → Option Stand). f s) same.stand) ∙ may.is_new.stand;
      ready = sym (ap (λ (f : ScopeId → Bool). f s) same.ready) ∙ may.is_new.ready;
      holder = λ x. sym (ap (λ (f : ℕ → ScopeId → Option Mode). f x s) same.holder) ∙ may.is_new.holder x;
    } in
    record {
      admit = admit;
      task = sym (ap (λ (f : ℕ → Bool). f v) same.task) ∙ may.task;
      not_pending = sym (ap (λ (f : ℕ → Bool). f v) same.pending) ∙ may.not_pending;
      is_new = subst (IsUnseen other) (λ i. record { home = record { 0 = number i }; serial = same.serial i }) unseen;
      interior = subst (λ (k : ℕ). IsInterior st k v) number may.interior;
      unclaimed = λ locking x scoped. let none = may.unclaimed locking x scoped in record {
        holder = λ t. sym (ap (λ (f : ℕ → ScopeId → Option Mode). f x t) same.holder) ∙ none.holder t;
        queue = sym (ap (λ (f : ℕ → List Claim). f x) same.queue) ∙ none.queue;
      };
      ticket = may.ticket;
    }

module _ {P : Type 0} (meaning : P → Update) (st : Setting) (a : ℕ) (m : Machine) (x : LockingMachineView P) (is : IsLockingMachineOf meaning st a m x) where
  same_locks : HasSameLocks (part_of x.machine.core) m.part
  same_locks =
      let rest = is.part.rest in
      record {
        serial = sym (ap (λ (p : Part). p.serial) rest);
        task = sym (ap (λ (p : Part). p.task) rest);
        pending = sym (ap (λ (p : Part). p.pending) rest);
        flight = sym (ap (λ (p : Part). p.flight) rest);
        stand = sym (ap (λ (p : Part). p.stand) rest);
        ready = sym (ap (λ (p : Part). p.ready) rest);
        holder = sym (ap (λ (p : Part). p.holder) rest);
        queue = sym (ap (λ (p : Part). p.queue) rest);
      }

  pub at_once_here : (v : ℕ) → MayUpdateAtOnce st x.machine.core.numbers.local.me.0 v (part_of x.machine.core) 1 → MayUpdateAtOnce st a v m.part 1
  at_once_here v may = may_with st x.machine.core.numbers.local.me.0 a v (part_of x.machine.core) m.part is.number same_locks (admit_here meaning st a m x is v may.admit) may

  at_once_there : (v : ℕ) → MayUpdateAtOnce st a v m.part 1 → MayUpdateAtOnce st x.machine.core.numbers.local.me.0 v (part_of x.machine.core) 1
  at_once_there v may =
      may_with st a x.machine.core.numbers.local.me.0 v m.part (part_of x.machine.core) (sym is.number) (turned (part_of x.machine.core) m.part same_locks) (admit_there meaning st a m x is v may.admit) may

-- ---- where none is made

module _ {P : Type 0} (meaning : P → Update) (x : LockingMachineView P) (orderly : IsOrderly x.machine.core) (places : KnowsPlaces x.machine.core) (counted : x.machine.core.numbers.tasks.outside ≡ outside_of x.machine.kept) where
  pub can_at_once : CanUpdatePick x.machine.core → CanUpdateAtOnce (IsLockingMachineOf meaning) x
  can_at_once can = (
    can.vertex.0,
    λ st a m snap is. record {
      may = at_once_here meaning st a m x is can.vertex.0 (can.may st snap.is is.here);
      room = room_is meaning st a m x is counted ∙ can.opened;
    },
  )

  pub can_not_at_once : HasNoneAtOnce x.machine.core → CanNotUpdateAtOnce (IsLockingMachineOf meaning) x
  can_not_at_once (inl none) = inl (can_not_admit meaning x orderly places counted none)
  can_not_at_once (inr one) = inr (
    one.0.0,
    λ st a m snap is. (
      record {
        may = admit_here meaning st a m x is one.0.0 (one.1 st is.here);
        room = ⊎_elim
            (λ (set : (part_of x.machine.core).pending one.0.0 ≡ true). inl (pending_is meaning st a m x is one.0.0 ∙ set))
            (λ (opened : is_open x.machine.core.numbers.tasks ≡ true). inr (room_is meaning st a m x is counted ∙ opened))
            one.3;
      },
      λ may. one.2 st snap.is is.here (at_once_there meaning st a m x is one.0.0 may.may),
    ),
  )

-- ---- where one is

flag_kept : (old now : TasksView) → HasRunAtOnce old now → (o : Option ℕ) → flag_there old.admitted o ≡ true → flag_there now.planned o ≡ flag_there old.planned o
flag_kept old now run None set = refl
flag_kept old now run (Some k) set = run.planned k set

module _ {P : Type 0} (meaning : P → Update) (x : LockingMachineView P) (now : SnapMachineView P) (reports : ReportsView) (orderly : IsOrderly x.machine.core) (v : Vertex) (ticket : ℕ)
    (made : HasUpdatedFound (meaning x.machine.program) x.machine.core now.core v ticket) (run : HasRunAtOnce x.machine.core.numbers.tasks now.core.numbers.tasks)
    (logged : HasLoggedAtOnce x.machine.core x.machine.kept now.kept v ticket)
    (local : let old = x.machine.core.numbers.local in let new = now.core.numbers.local in new ≡ record old { kept = new.kept; rows = new.rows; numbers = new.numbers })
    (program : now.program ≡ x.machine.program) (settings : SameSettings x.machine.core now.core) (told : reports.messages ≡ x.reports.messages) where
  abbrev old : Core
  old = x.machine.core

  abbrev w : SnapView
  w = x.machine.kept

  abbrev worked : LockingMachineView P
  worked = record x { machine = now; reports = reports }

  abbrev mark : ℕ
  mark = (datum_here old.numbers v.0).mark

  rest : HasOtherEntries w now.kept
  rest = entry_kept (Go old.numbers.local.me v ticket) mark w now.kept logged

  module _ (st : Setting) (a : ℕ) (m : Machine) (snap : IsSnapSetting st) (is : IsLockingMachineOf meaning st a m x) (low : v.0 < size st.graph) (owned : st.owner v.0 ≡ a) (unflown : m.part.flight (next_scope a m.part) ≡ None) where
    abbrev entry : Entry
    entry = entry_at_once a v.0 ticket

    abbrev new : Machine
    new = worked_at_once st a v.0 ticket m

    held_is : part_held worked ≡ at_once st a v.0 entry (part_held x)
    held_is =
        other_snaps w now.kept (part_of now.core) rest
        ∙ ap (with_snaps w) (made st snap.is is.here is.program ∙ ap (λ (k : ℕ). at_once st k v.0 (entry_at_once k v.0 ticket) (part_of old)) is.number)

    alike : LooksAlike st a new.part (part_held worked)
    alike = alike_to st a new.part (at_once st a v.0 entry (part_held x)) (part_held worked) (at_once_alike st a v.0 entry m.part (part_held x) snap.is low owned is.part) held_is

    datum_is : m.part.datum v.0 ≡ datum_here old.numbers v.0
    datum_is = own_seen st a snap.is m.part.datum m.part.edge (part_held x) (seen_of st a m.part (part_held x) is.part) v.0 low owned

    test_same : nat_lt (m.part.datum v.0).mark m.part.known ≡ nat_lt mark w.known
    test_same = λ i. nat_lt (datum_is i).mark (is.kept.known i)

    kept_is : IsSameButRoom (with_entry entry mark w) now.kept
    kept_is = subst (λ (k : ℕ). IsSameButRoom (with_entry (entry_at_once k v.0 ticket) mark w) now.kept) is.number logged

    flight_same : (t : ScopeId) → m.part.flight t ≡ (part_of old).flight t
    flight_same t = ap (λ (p : Part). p.flight t) is.part.rest

    -- a scope in flight is another one
    apart : (t : ScopeId) (u : ℕ) → m.part.flight t ≡ Some u → is_scope t (next_scope a m.part) ≡ false
    apart t u flies = ⊎_elim
        (λ (same : t ≡ next_scope a m.part). absurd (none_some u (sym unflown ∙ ap m.part.flight (sym same) ∙ flies)))
        (λ (other : is_scope t (next_scope a m.part) ≡ false). other)
        (scope_cases t (next_scope a m.part))
      where
        none_some : (u : ℕ) → None ≡ Some u → ⊥
        none_some u same = cc

    plans_are : ArePlansOf now.core.numbers new
    plans_are =
        record {
          many = is.plans.many ∙ sym run.plans;
          planned = λ t u flies.
              let flown : flight_at old.pipe t ≡ Some (record { 0 = u }) = some_number (flight_at old.pipe t) u (sym (flight_same t) ∙ flies) in
              set_for-other m.planned (next_scope a m.part) true t (apart t u flies) ∙ is.plans.planned t u flies
              ∙ sym (ap (λ (l : LocalView). flag_there now.core.numbers.tasks.planned (place_at l u)) local
              ∙ flag_kept old.numbers.tasks now.core.numbers.tasks run (place_at old.numbers.local u) (orderly.flights.admitted t (record { 0 = u }) flown));
          others = λ t u flies no_plan. is.plans.others t u flies (sym (set_for-other m.planned (next_scope a m.part) true t (apart t u flies)) ∙ no_plan);
        }

    saved_right : IsSavedRight st a (part_held worked)
    saved_right =
        subst (IsSavedRight st a) (sym held_is)
        (saved_kept st a (part_held x) (at_once st a v.0 entry (part_held x)) refl refl
        (set_at-kept (λ (d : Datum). d.mark) (part_held x).datum v.0 (renewed ((part_held x).datum v.0) (new_number st.graph st.program (lent (part_held x)) v.0))
        (mark_same ((part_held x).datum v.0) (new_number st.graph st.program (lent (part_held x)) v.0)))
        (λ u set. set) is.saved)
      where
        mark_same : (old_datum : Datum) (value : ℕ) → (renewed old_datum value).mark ≡ old_datum.mark
        mark_same d value = by (value == d.value)
          where
            by : (b : Bool) → (if b then d else record { value = value; version = suc d.version; mark = d.mark }).mark ≡ d.mark
            by true = refl
            by false = refl

    pub at_once_standing : IsLockingMachineOf meaning st a new worked
    at_once_standing =
        record {
          here = settings st is.here;
          number = ap (λ (l : LocalView). l.me.0) local ∙ is.number;
          program = is.program ∙ ap meaning (sym program);
          window = is.window;
          part = alike;
          kept = kept_from st a new now.kept (part_of now.core) alike (is.kept.acknowledged ∙ sym rest.acknowledged) (is.kept.wanted ∙ sym rest.wanted)
              (ap (λ (b : Bool). if b then m.before ++ entry ∷ [] else m.before) test_same ∙ entry_before (nat_lt mark w.known) w entry m.before is.kept.before ∙ sym (ap (λ (y : SnapView). y.before) kept_is))
              (ap (λ (b : Bool). if b then m.behind else m.behind ++ entry ∷ []) test_same ∙ entry_behind (nat_lt mark w.known) w entry m.behind is.kept.behind ∙ sym (ap (λ (y : SnapView). y.behind) kept_is))
              (is.kept.unsure ∙ sym rest.unsure);
          counts = record { sent = is.counts.sent; received = is.counts.received; held = is.counts.held };
          none_held = is.none_held;
          plans = plans_are;
          saved = saved_right;
          once = other_once w now.kept rest is.once;
          reports = subst (λ ms. AreToldReports ms m.out) (sym told) is.reports;
        }

module _ {P : Type 0} (meaning : P → Update) (x : LockingMachineView P) (now : SnapMachineView P) (reports : ReportsView) (orderly : IsOrderly x.machine.core) (counted : x.machine.core.numbers.tasks.outside ≡ outside_of x.machine.kept)
    (v : Vertex) (ticket : ℕ) (has : HasUpdatedPick (meaning x.machine.program) x.machine.core now.core v ticket) (run : HasRunAtOnce x.machine.core.numbers.tasks now.core.numbers.tasks)
    (logged : HasLoggedAtOnce x.machine.core x.machine.kept now.kept v ticket)
    (local : let old = x.machine.core.numbers.local in let new = now.core.numbers.local in new ≡ record old { kept = new.kept; rows = new.rows; numbers = new.numbers })
    (program : now.program ≡ x.machine.program) (settings : SameSettings x.machine.core now.core) (told : reports.messages ≡ x.reports.messages) where
  -- it is what the machine of the law makes of it in turn, and it asks for a snapshot where it has to
  pub updated_at_once : (behind : LockingMachineView P) → HasWanted (record x { machine = now; reports = reports }) behind → HasUpdatedAtOnce (IsLockingMachineOf meaning) x v.0 ticket behind
  updated_at_once behind asked st a m snap is =
      let may : MayUpdateAtOnce st a v.0 m.part 1 = at_once_here meaning st a m x is v.0 (has.may st snap.is is.here) in
      let within : MayUpdateWithin st a v.0 m = record { may = may; room = room_is meaning st a m x is counted ∙ has.opened } in
      let worked = at_once_standing meaning x now reports orderly v ticket has.after run logged local program settings told st a m snap is may.admit.vertex may.admit.owned may.is_new.flight in
      record {
        may = within;
        after = asks st (worked_at_once st a v.0 ticket m);
        done = done_at_once st a v.0 ticket m snap.is is.here.engine may is.none_held (closed_is meaning st a m x is) within;
        here = asked_standing meaning st a (worked_at_once st a v.0 ticket m) (record x { machine = now; reports = reports }) worked behind asked;
      }
