use Rattle.std.proofs.Common.{◌≡◌, ◌==◌, ℕ, ◌+◌, ◌<◌, true, List, length, get_or, take, refl, ◌∙◌, arith, eq-eqb}
use Rattle.std.specs.List.{list_all}
use Rattle.std.proofs.lemmas.List.Folds.{list_all_more}
use Rattle.std.proofs.lemmas.Grind.{common_steps}
use Rattle.seq_run.proofs.runs.is_one_number.Goals as goal

one_more : (xs : List ℕ) (n i : ℕ) → i < length xs → list_all (λ x. x == n) (take i xs) ≡ true → get_or xs i 0 ≡ n → list_all (λ x. x == n) (take (i + 1) xs) ≡ true
one_more xs n i within before same = list_all_more (λ x. x == n) xs i 0 within ∙ rw (before, eq-eqb (get_or xs i 0) n same) refl

pub loop-value-preserved : goal.loop-value-preserved
loop-value-preserved c = grind (arith, common_steps, one_more)
