-- What a crash leaves, told in less.
use Rattle.std.proofs.Common.{ℕ, List, inl, inr}
use Rattle.store.specs.snap_journal.Disks.{DiskPast, LeavesOnly}

pub leaves_more : (old new : DiskPast) (P Q : List ℕ → Type 0) → ((image : List ℕ) → P image → Q image) → LeavesOnly old new P → LeavesOnly old new Q
leaves_more old new P Q to leaves = record {
  later = leaves.later;
  each = λ image left. to image (leaves.each image left);
  before = λ since image low left. elim (leaves.before since image low left) [
    | inl there ↦ inl there
    | inr here ↦ inr (to image here)
  ];
}
