-- What a machine that stands for one of the law has of it, and what stays so.
use Rattle.std.proofs.Common.{◌≡◌, ℕ, ◌+◌, ◌<◌, ◌≤◌, ◌&&◌, ◌||◌, not, Bool, true, false, if◌then◌else◌, Option, None, Some, length, refl, sym, ap, ◌∙◌, subst, sum_by}
use Rattle.std.specs.Prelude.{is_some, nat_lt}
use Rattle.gl_base.specs.declared.numbers.MachineNo.{MachineNo}
use Rattle.update_api.specs.Updates.{Update}
use Rattle.cluster_laws.specs.cluster_core.Messages.{Section}
use Rattle.cluster_laws.specs.cluster_model.Machines.{outside}
use Rattle.cluster_laws.specs.cluster_model.Working.{answers_if, has_room, is_done, prompt}
use Rattle.cluster_laws.proofs.cluster_moves.DueKept.{IsKept}
use Rattle.partition.specs.declared.machine_numbers.keeping.Numbers.{Numbers}
use Rattle.partition.specs.machine_numbers.Views.{TasksView}
use Rattle.machine_core.specs.declared.machine_parts.cores.Core.{Core}
use Rattle.machine_core.specs.machine_parts.Settings.{SameSettings}
use Rattle.snapshot_machines.specs.saving.Machines.{SnapMachineView}
use Rattle.coordinator.specs.snap_update.Snaps.{IsSameButRoom, outside_of}
use Rattle.coordinator.specs.machine_api.Promises.{StandsStill}
use Rattle.task_sets.specs.task_sched.Tasks.{is_below, is_open}
use Rattle.snapshot_machines.specs.locking.Machines.{ArePlansOf, AreToldReports, IsMarkedOwn, IsLockingMachineOf, IsSavedOnce, IsSavedRight, IsSnapPartOf, LooksAlike, Machine, Part, ReportsView, LockingMachineView, Setting, SnapView, flag_there, part_held, part_of, place_at, with_snaps}

-- ---- a machine that holds no wave

-- it answers nothing
pub prompt_still : (st : Setting) (a : ℕ) (m : Machine) → m.held ≡ None → m.part.closed ≡ true → prompt st a m ≡ m
prompt_still st a m none closed =
    ap (λ (held : Option ℕ). answers_if st (is_some held && is_done st.engine st a m) m) none
    ∙ ap (λ (c : Bool). record m { part = record m.part { closed = c } }) (ap (λ (c : Bool). c || false) closed ∙ sym closed)

-- what it keeps for snapshots is what its part has
pub kept_from : (st : Setting) (a : ℕ) (m : Machine) (w : SnapView) (part : Part) → LooksAlike st a m.part (with_snaps w part) → m.acknowledged ≡ w.acknowledged → m.wanted ≡ w.wanted → m.before ≡ w.before → m.behind ≡ w.behind → m.unsure ≡ w.unsure
    → IsSnapPartOf w m
kept_from st a m w part alike acknowledged wanted before behind unsure =
    record {
      known = ap (λ (p : Part). p.known) alike.rest;
      sent = ap (λ (p : Part). p.sent) alike.rest;
      acknowledged = acknowledged;
      wanted = wanted;
      saved = record { vertices = λ v. ap (λ (p : Part). p.saved.vertices v) alike.rest; edges = λ e. ap (λ (p : Part). p.saved.edges e) alike.rest };
      before = before;
      behind = behind;
      unsure = unsure;
    }

-- parts that are the same look alike
pub alike_to : (st : Setting) (a : ℕ) (one other new : Part) → LooksAlike st a one other → new ≡ other → LooksAlike st a one new
alike_to st a one other new alike same = subst (LooksAlike st a one) (sym same) alike

-- ---- the machine of the law

module _ {P : Type 0} (meaning : P → Update) (st : Setting) (a : ℕ) (m : Machine) (x : LockingMachineView P) (is : IsLockingMachineOf meaning st a m x) where
  pub closed_is : m.part.closed ≡ true
  closed_is = ap (λ (p : Part). p.closed) is.part.rest

  pub still_stands : IsLockingMachineOf meaning st a (prompt st a m) x
  still_stands = subst (λ (n : Machine). IsLockingMachineOf meaning st a n x) (sym (prompt_still st a m is.none_held closed_is)) is

  pub outside_is : outside m ≡ outside_of x.machine.kept
  outside_is = λ i. sum_by (λ (n : ℕ). n) (is.kept.unsure i) + length (is.kept.before i) + length (is.kept.behind i)

  abbrev tasks : TasksView
  tasks = x.machine.core.numbers.tasks

  room_by : (b : Bool) → tasks.window ≡ (if b then Some st.window else None) → outside m + m.plans ≡ tasks.outside + tasks.plans → (not b || nat_lt (outside m + m.plans) st.window) ≡ is_open tasks
  room_by true some sum = ap (λ (k : ℕ). nat_lt k st.window) sum ∙ sym (ap (λ (o : Option ℕ). is_below o (tasks.outside + tasks.plans)) some)
  room_by false none sum = sym (ap (λ (o : Option ℕ). is_below o (tasks.outside + tasks.plans)) none)

  pub room_is : x.machine.core.numbers.tasks.outside ≡ outside_of x.machine.kept → has_room st m ≡ is_open x.machine.core.numbers.tasks
  room_is counted = room_by st.stored is.here.window (λ i. (outside_is ∙ sym counted) i + is.plans.many i)

-- ---- plans and what was saved stay so

-- as scopes in flight stay, and what is pending
pub plans_kept : (n now : Numbers) (m new : Machine) → IsKept m.part new.part → new.planned ≡ m.planned → new.plans ≡ m.plans → now.tasks.planned ≡ n.tasks.planned → now.tasks.plans ≡ n.tasks.plans
    → ((v : ℕ) → place_at now.local v ≡ place_at n.local v) → ArePlansOf n m → ArePlansOf now new
plans_kept n now m new kept planned plans flags many places are =
    record {
      many = plans ∙ are.many ∙ sym many;
      planned = λ s v flies.
          ap (λ f. f s) planned ∙ are.planned s v (sym (kept.flight s) ∙ flies) ∙ sym (ap (λ fs. flag_there fs (place_at now.local v)) flags ∙ ap (flag_there n.tasks.planned) (places v));
      others = λ s v flies not_planned. kept.pending v (are.others s v (sym (kept.flight s) ∙ flies) (sym (ap (λ f. f s) planned) ∙ not_planned));
    }

-- as data keep their marks, and nothing more is pending or saved
pub saved_kept : (st : Setting) (a : ℕ) (old new : Part) → new.known ≡ old.known → new.saved ≡ old.saved → ((v : ℕ) → (new.datum v).mark ≡ (old.datum v).mark) → ((v : ℕ) → new.pending v ≡ true → old.pending v ≡ true)
    → IsSavedRight st a old → IsSavedRight st a new
saved_kept st a old new known saved marks pending right =
    let own : (v : ℕ) → IsMarkedOwn st a old v → IsMarkedOwn st a new v = λ v has.
    record { vertex = has.vertex; owned = has.owned; marked = subst (λ (k : ℕ). new.known ≤ k) (sym (marks v)) (subst (λ (k : ℕ). k ≤ (old.datum v).mark) (sym known) has.marked) } in
    record {
      vertices = λ v number has. own v (right.vertices v number (ap (λ (x : Section). x.vertices v) (sym saved) ∙ has));
      edges = λ e number has. let one = right.edges e number (ap (λ (x : Section). x.edges e) (sym saved) ∙ has) in (one.0, one.1, own one.0 one.2);
      pending = λ v low owned is. subst (λ (k : ℕ). k < new.known) (sym (marks v)) (subst (λ (k : ℕ). (old.datum v).mark < k) (sym known) (right.pending v low owned (pending v is)));
    }

-- a part of the same numbers, of which only room has changed in what is kept
pub saved_numbers : (st : Setting) (a : ℕ) (w : SnapView) (old new : Core) → new.numbers ≡ old.numbers → IsSavedRight st a (with_snaps w (part_of old)) → IsSavedRight st a (with_snaps w (part_of new))
saved_numbers st a w old new same right =
    saved_kept st a (with_snaps w (part_of old)) (with_snaps w (part_of new)) refl refl
    (λ v. ap (λ (n : Numbers). ((part_of (record old { numbers = n })).datum v).mark) same)
    (λ v is. sym (ap (λ (n : Numbers). (part_of (record old { numbers = n })).pending v) same) ∙ is)
    right

-- ---- where nothing has changed but room

module _ {P : Type 0} (meaning : P → Update) (x : LockingMachineView P) (now : SnapMachineView P) (reports : ReportsView) (told : reports.messages ≡ x.reports.messages) (part : part_of now.core ≡ part_of x.machine.core) (same : IsSameButRoom x.machine.kept now.kept)
    (tasks : now.core.numbers.tasks ≡ x.machine.core.numbers.tasks) (places : (v : ℕ) → place_at now.core.numbers.local v ≡ place_at x.machine.core.numbers.local v) (me : now.core.numbers.local.me ≡ x.machine.core.numbers.local.me)
    (program : now.program ≡ x.machine.program) (settings : SameSettings x.machine.core now.core) where
  pub roomier_stands : StandsStill (IsLockingMachineOf meaning) x (record x { machine = now; reports = reports })
  roomier_stands st a m snap is =
      let held : with_snaps now.kept (part_of now.core) ≡ part_held x = ap (λ (w : SnapView). with_snaps w (part_of now.core)) same ∙ ap (with_snaps x.machine.kept) part in
      let alike : LooksAlike st a m.part (with_snaps now.kept (part_of now.core)) = alike_to st a m.part (part_held x) (with_snaps now.kept (part_of now.core)) is.part held in
      record {
        here = settings st is.here;
        number = ap (λ (n : MachineNo). n.0) me ∙ is.number;
        program = is.program ∙ ap meaning (sym program);
        window = is.window;
        part = alike;
        kept = kept_from st a m now.kept (part_of now.core) alike (is.kept.acknowledged ∙ sym (ap (λ (w : SnapView). w.acknowledged) same)) (is.kept.wanted ∙ sym (ap (λ (w : SnapView). w.wanted) same))
            (is.kept.before ∙ sym (ap (λ (w : SnapView). w.before) same)) (is.kept.behind ∙ sym (ap (λ (w : SnapView). w.behind) same)) (is.kept.unsure ∙ sym (ap (λ (w : SnapView). w.unsure) same));
        counts = is.counts;
        none_held = is.none_held;
        plans = record {
          many = is.plans.many ∙ sym (ap (λ (t : TasksView). t.plans) tasks);
          planned = λ s v flies. is.plans.planned s v flies ∙ sym (ap (λ (t : TasksView). flag_there t.planned (place_at now.core.numbers.local v)) tasks ∙ ap (flag_there x.machine.core.numbers.tasks.planned) (places v));
          others = is.plans.others;
        };
        saved = subst (IsSavedRight st a) (sym held) is.saved;
        once = subst IsSavedOnce (sym same) (record { vertices = is.once.vertices; edges = is.once.edges });
        reports = subst (λ ms. AreToldReports ms m.out) (sym told) is.reports;
      }

-- only room for reports was made
pub reports_stand : {P : Type 0} (meaning : P → Update) (x : LockingMachineView P) (reports : ReportsView) → reports.messages ≡ x.reports.messages → StandsStill (IsLockingMachineOf meaning) x (record x { reports = reports })
reports_stand meaning x reports told = roomier_stands meaning x x.machine reports told refl refl refl (λ v. refl) refl refl (λ st here. here)
