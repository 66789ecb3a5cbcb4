-- Who stands in line where a snapshot begins.
use Rattle.std.proofs.Common.{◌≡◌, ℕ, ◌<◌, ◌||◌, Bool, Option, Some, length, sym, ap, ◌∙◌, subst}
use Rattle.std.proofs.Math.Bool.{or-true}
use Rattle.gl_base.specs.declared.numbers.Vertex.{Vertex}
use Rattle.cluster_laws.specs.cluster_core.Effects.{first_pending, first_unmarked, is_at, knows, seed_if}
use Rattle.partition.specs.machine_numbers.Views.{flag_there, is_flagged, place_at}
use Rattle.machine_core.specs.declared.machine_parts.cores.Core.{Core}
use Rattle.machine_core.specs.machine_parts.Parts.{pending_here}
use Rattle.snapshot_machines.specs.marking.Hearing.{HasBegun}
use Rattle.snapshot_machines.specs.marking.Seeding.{HasOtherPending}
use Rattle.machine_core.specs.color_parts.Enlisting.{is_such}
use Rattle.machine_core.specs.declared.color_parts.enlisting.Which.TheVariants.{Pending, Tasks}
use Rattle.machine_core.specs.color_parts.Parts.{LinesView, TasksView}
use Rattle.snapshot_machines.specs.chromatic.Machines.{IsOrderly, IsPartOf, KnowsPlaces, Part, Setting, SnapView, part_of, with_snaps}
use Rattle.snapshot_machines.specs.chromatic.Inner.Keeping.{AreBothInLine, AreJustInLine, HasFirstInLine, IsWithoutLocks}
use Rattle.snapshot_machines.proofs.chromatic.FreeLemmas.{bare_free, begun_free, kept_free}
use Rattle.snapshot_machines.proofs.chromatic.KeepLemmas.{none_pending, own_low, stand_apart}
use Rattle.snapshot_machines.proofs.chromatic.LineLemmas.{due_from, due_parts, seed_in_line}

module _ (m new : Core) (w now : SnapView) (k : ℕ) (st : Setting) (orderly : IsOrderly m) (places : KnowsPlaces m) (here : IsPartOf st m) (begun : HasBegun m w new now k) (rest : HasOtherPending m new) where
  abbrev before : Part
  before = knows k (with_snaps w (part_of m))

  abbrev seed : Option ℕ
  seed = seed_if (first_pending st before) (first_unmarked st m.numbers.local.me.0 before)

  tasks : new.numbers.tasks ≡ record m.numbers.tasks { pending = new.numbers.tasks.pending; asked = new.numbers.tasks.asked }
  tasks = ap (λ (c : Core). c.numbers.tasks) rest

  many : length new.numbers.tasks.task ≡ length m.numbers.tasks.task
  many = ap (λ (t : TasksView). length t.task) tasks

  pending : (u : ℕ) → pending_here new.numbers u ≡ (is_at seed u || pending_here m.numbers u)
  pending u = ap (λ (p : Part). p.pending u) (begun st here)

  flag : (j : ℕ) (u : Vertex) → place_at m.numbers.local u.0 ≡ Some j → is_such Pending new.numbers.tasks j ≡ (is_at seed u.0 || pending_here m.numbers u.0)
  flag j u at = sym (ap (flag_there new.numbers.tasks.pending) (ap (λ (c : Core). place_at c.numbers.local u.0) rest ∙ at)) ∙ pending u.0

  admitted : (j : ℕ) → is_flagged new.numbers.tasks.admitted j ≡ is_flagged m.numbers.tasks.admitted j
  admitted j = ap (λ (t : TasksView). is_flagged t.admitted j) tasks

  pub begun_in_line : (lines asked new_asked : LinesView) → AreBothInLine m.numbers.tasks lines asked → HasFirstInLine new.numbers.tasks asked new_asked → AreBothInLine new.numbers.tasks lines new_asked
  begun_in_line lines asked new_asked are first =
      let inside : (j : ℕ) → j < length new.numbers.tasks.task → j < length m.numbers.tasks.task = λ j low. subst (λ (n : ℕ). j < n) many low in
      let who = stand_apart m orderly places in
      record {
        many = are.many ∙ sym many;
        colours = first.colours ∙ are.colours;
        tasks = subst (λ (t : TasksView). AreJustInLine Tasks t lines) (sym tasks) are.tasks;
        pending =
            seed_in_line m.numbers.local new.numbers.tasks asked new_asked seed (pending_here m.numbers) (record { stands = λ j low. who.stands j (inside j low); apart = who.apart }) flag
            (λ j u s at low is. none_pending st m.numbers.local.me.0 before u.0 s (own_low st m u.0 j orderly here at (inside j low)).1 is)
            (λ j low stood.
            let parts = due_parts Pending m.numbers.tasks j (sym (are.pending j (inside j low)) ∙ stood) in
            let u = who.stands j (inside j low) in
            due_from Pending new.numbers.tasks j
            (flag j u.0 u.1 ∙ ap (λ (b : Bool). is_at seed u.0.0 || b) (ap (flag_there m.numbers.tasks.pending) u.1 ∙ parts.0) ∙ or-true (is_at seed u.0.0)) (admitted j ∙ parts.1))
            (λ j u at low is due_now.
            are.pending j (inside j low)
            ∙ due_from Pending m.numbers.tasks j (sym (ap (flag_there m.numbers.tasks.pending) at) ∙ is) (sym (admitted j) ∙ (due_parts Pending new.numbers.tasks j due_now).1))
            first.kept first.due first.first;
      }

  pub begun_without_locks : IsWithoutLocks (part_of m) → IsWithoutLocks (part_of new)
  begun_without_locks is =
      bare_free now (part_of new) (subst IsWithoutLocks (sym (begun st here)) (begun_free st m.numbers.local.me.0 k (with_snaps w (part_of m)) (kept_free w (part_of m) is)))
