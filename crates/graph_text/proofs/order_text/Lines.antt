-- The answer grows by a line for each vertex.
use Rattle.std.proofs.Common.{◌≡◌, ℕ, suc, zero, ◌+◌, ◌<◌, List, [], ◌∷◌, ◌++◌, length, take, get_or, refl, sym, ap, ◌∙◌, arith, add-one, append_assoc, decimal}
use Rattle.gl_base.specs.declared.jobs.Algorithm.{Algorithm}
use Rattle.graph_text.specs.order_text.Answers.{answer_text, number_text}

-- the line of one vertex
abbrev answer_line : Algorithm → ℕ → ℕ → List ℕ
answer_line kind id x = decimal id ++ 32 ∷ number_text kind x ++ 10 ∷ []

answer_text-suc : (kind : Algorithm) (ids numbers : List ℕ) (k : ℕ) → k < length ids → length numbers ≡ length ids
    → answer_text kind (take (suc k) ids) (take (suc k) numbers) ≡ answer_text kind (take k ids) (take k numbers) ++ answer_line kind (get_or ids k 0) (get_or numbers k 0)
answer_text-suc kind [] numbers k inside same = absurd (omega arith)
answer_text-suc kind (id ∷ ids) [] k inside same = absurd (omega arith)
answer_text-suc kind (id ∷ ids) (x ∷ numbers) zero inside same = refl
answer_text-suc kind (id ∷ ids) (x ∷ numbers) (suc k) inside same =
    let front = decimal id ++ 32 ∷ number_text kind x in
    let line = answer_line kind (get_or ids k 0) (get_or numbers k 0) in
    ap (λ text. front ++ 10 ∷ text) (answer_text-suc kind ids numbers k (omega arith) (omega arith))
    ∙ sym (append_assoc front (10 ∷ answer_text kind (take k ids) (take k numbers)) line)

pub answer_text-take : (kind : Algorithm) (ids numbers : List ℕ) (k : ℕ) → k < length ids → length numbers ≡ length ids
    → answer_text kind (take (k + 1) ids) (take (k + 1) numbers)
    ≡ answer_text kind (take k ids) (take k numbers) ++ (decimal (get_or ids k 0) ++ 32 ∷ number_text kind (get_or numbers k 0) ++ 10 ∷ [])
answer_text-take kind ids numbers k inside same = rw add-one (answer_text-suc kind ids numbers k inside same)
