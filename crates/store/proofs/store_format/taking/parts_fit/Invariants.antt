use Rattle.std.proofs.Common.{ℕ, ◌<◌, get_or}
use Rattle.gl_base.specs.declared.snapshots.SavedPart.{SavedPart}
use Rattle.store.specs.store_format.Encoding.{PartFits}
use Rattle.store.proofs.store_format.taking.parts_fit.Given as goal

abbrev pub invariant-loop-part : goal.invariant-loop-part
invariant-loop-part l = (k : ℕ) (d : SavedPart) → k < l.part-index → PartFits (get_or l.parts k d)
