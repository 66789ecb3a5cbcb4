-- What crashes leave over calls on a disk, one after another.
use Rattle.std.proofs.Common.{◌≡◌, inr, ℕ, ◌≤◌, List, ⊎_elim, subst, arith, sym}
use Rattle.gl_outside.specs.Disk.{DiskPast, IsImage, LeavesOnly, clock}
use Rattle.gl_outside.proofs.Disks.{started}
use Rattle.engine_cli.specs.JobStores.{KeepsImages}
use Rattle.std.proofs.Common.{inl}

-- what they leave has more too
pub leaves-more : (old new : DiskPast) (P Q : List ℕ → Type 0) → ((image : List ℕ) → P image → Q image) → LeavesOnly old new P → LeavesOnly old new Q
leaves-more old new P Q more left =
    record {
      later = left.later;
      each = λ image at. more image (left.each image at);
      before = λ since image le at. ⊎_elim (λ was. inl was) (λ now. inr (more image now)) (left.before since image le at);
    }

-- over two calls
pub leaves-twice : (old mid new : DiskPast) (P : List ℕ → Type 0) → LeavesOnly old mid P → LeavesOnly mid new P → LeavesOnly old new P
leaves-twice old mid new P first second =
    let earlier : clock old ≤ clock mid = first.later in
    record {
      later = omega (arith, first.later, second.later);
      each = λ image at. ⊎_elim (first.each image) (λ now. now) (second.before (clock old) image earlier at);
      before = λ since image le at.
          ⊎_elim
          (λ was. first.before since image le was)
          (λ now. inr now)
          (second.before since image (omega (arith, le, earlier)) at);
    }

-- a disk that did not change
pub leaves-same : (old new : DiskPast) → new ≡ old → KeepsImages old new
leaves-same old new same =
    subst (λ (p : DiskPast). KeepsImages old p) (sym same) (started old (IsImage old.now) (λ image is. is))
