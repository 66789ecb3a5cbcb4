-- One line more.
use Rattle.std.proofs.Common.{◌≡◌, ℕ, ◌+◌, List, [], ◌∷◌, ◌++◌, length, suc, subst, arith}
use Rattle.gl_base.specs.declared.entries.Entry.{Entry}
use Rattle.cluster_laws.specs.cluster_runs.Attempts.{Shared}
use Rattle.engine_runs.specs.answers.Lines.{AreSnapLines, IsLineOf}
use Rattle.engine_runs.specs.declared.answers.runs.SnapLine.{SnapLine}

-- behind the lines of these snapshots stands that of one more
pub one_line_more : (shared : Shared) (number : ℕ) (orders : List (List Entry)) (lines : List SnapLine) (order : List Entry) (line : SnapLine) →
    AreSnapLines shared number orders lines → IsLineOf shared (number + length orders) order line → AreSnapLines shared number (orders ++ order ∷ []) (lines ++ line ∷ [])
one_line_more shared number [] [] order line are more = (subst (λ (n : ℕ). IsLineOf shared n order line) (let here : number + 0 ≡ number = omega arith in here) more, tt)
one_line_more shared number [] (other ∷ lines) order line are more = absurd are
one_line_more shared number (first ∷ orders) [] order line are more = absurd are
one_line_more shared number (first ∷ orders) (other ∷ lines) order line are more = (
  are.0,
  one_line_more shared (suc number) orders lines order line are.1
      (subst (λ (n : ℕ). IsLineOf shared n order line) (let here : number + suc (length orders) ≡ suc number + length orders = omega arith in here) more),
)
