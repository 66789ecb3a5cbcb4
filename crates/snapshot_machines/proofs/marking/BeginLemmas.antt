-- A snapshot that begins, and sections.
use Rattle.std.proofs.Common.{◌≡◌, ℕ, Bool, true, false, if◌then◌else◌, max, refl, sym, ap, ◌∙◌, subst, arith}
use Rattle.std.specs.Prelude.{nat_lt}
use Rattle.cluster_laws.specs.cluster_core.Effects.{knows, nothing_saved, part_seeded}
use Rattle.cluster_laws.specs.cluster_core.Parts.{Part}
use Rattle.partition.specs.declared.machine_numbers.keeping.Numbers.{Numbers}
use Rattle.machine_core.specs.declared.machine_parts.cores.Core.{Core}
use Rattle.coordinator.specs.snap_update.Snaps.{IsSameButRoom, newly_begun, with_begun}
use Rattle.snapshot_machines.specs.marking.Hearing.{HasBegun}
use Rattle.snapshot_machines.specs.marking.Keeping.{SnapView, part_of, saved_in, with_snaps}
use Rattle.snapshot_machines.specs.marking.Seeding.{AreMarkedBelow, HasSeeded}

-- the part knows the snapshot where what is kept knows it
knows_is : (k : ℕ) (w : SnapView) (part : Part) → with_snaps (with_begun k w) part ≡ knows k (with_snaps w part)
knows_is k w part = by (nat_lt w.known k) refl
  where
    less : nat_lt w.known k ≡ true → k ≡ max w.known k
    less is = grind arith

    more : nat_lt w.known k ≡ false → w.known ≡ max w.known k
    more is = grind arith

    by : (b : Bool) → nat_lt w.known k ≡ b → with_snaps (if b then newly_begun k w else w) part ≡ record (with_snaps w part) { known = max w.known k; saved = if b then nothing_saved else saved_in w }
    by true is = λ i. record (with_snaps w part) { known = less is i; saved = nothing_saved }
    by false is = λ i. record (with_snaps w part) { known = more is i }

pub begun_is : (old new : Core) (w now : SnapView) (k : ℕ) → IsSameButRoom (with_begun k w) now → HasSeeded old new now.known → HasBegun old w new now k
begun_is old new w now k same seeded st is =
    let a = old.numbers.local.me.0 in
    seeded st now is refl
    ∙ ap (λ (v : SnapView). part_seeded st a (with_snaps v (part_of old))) same
    ∙ ap (part_seeded st a) (knows_is k w (part_of old))

-- whom the new snapshot has marked before this place: nobody, where it is newer
pub below_then : (n : Numbers) (w now : SnapView) (k seen : ℕ) → IsSameButRoom (with_begun k w) now → AreMarkedBelow n w.known seen → AreMarkedBelow n now.known (if nat_lt w.known k then 0 else seen)
below_then n w now k seen same below = subst (λ (known : ℕ). AreMarkedBelow n known (if nat_lt w.known k then 0 else seen)) (sym (ap (λ (v : SnapView). v.known) same)) (by (nat_lt w.known k))
  where
    by : (b : Bool) → AreMarkedBelow n (if b then newly_begun k w else w).known (if b then 0 else seen)
    by true = λ i v low. absurd (omega arith)
    by false = below
