-- Moments of a run, one behind the other.
use Rattle.std.proofs.Common.{ℕ, List, inr, arith, ⊎_elim}
use Rattle.gl_outside.specs.Disk.{DiskPast, LeavesOnly, clock}

-- a crash leaves what one left at an earlier part of the run, or at a later one
pub then_leaves : (old mid new : DiskPast) (P Q : List ℕ → Type 0) → LeavesOnly old mid P → LeavesOnly mid new Q → ((image : List ℕ) → Q image → P image) → LeavesOnly old new P
then_leaves old mid new P Q first more within = record {
  later = omega (arith, first.later, more.later);
  each = λ image left. ⊎_elim (first.each image) (within image) (more.before (clock old) image first.later left);
  before = λ since image low left.
      ⊎_elim (first.before since image low) (λ is. inr (within image is)) (more.before since image (omega (arith, low, first.later)) left);
}
