-- A list that was lent and written as a whole.
use Rattle.std.proofs.Common.{◌≡◌, ℕ, List, ◌++◌, length, take, drop, subst}
use Rattle.std.proofs.Math.Seq.{take-append_seam}

pub written_back : {T : Type 0} (n : ℕ) (new old : List T) → length new ≡ n → length old ≡ n → take n (new ++ drop (length new) old) ≡ new
written_back n new old long there = subst (λ k. take k (new ++ drop (length new) old) ≡ new) long (take-append_seam new (drop (length new) old))
