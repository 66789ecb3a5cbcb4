use Rattle.std.proofs.Common.{ℕ, List, length}
use Rattle.store.specs.store_format.Inner.Taken.{AreTaken}
use Rattle.store.proofs.store_format.KeyLemmas.{KeysSoFar}
use Rattle.store.proofs.store_format.sections_check.check_keys.Given as goal

abbrev pub invariant-loop-i : goal.invariant-loop-i
invariant-loop-i l =
    (taken : List ℕ) → AreTaken l.initial.marks taken → KeysSoFar (length l.initial.marks) l.marks l.body l.at l.count l.i l.least taken
