-- The words of a table as they are written first.
use Rattle.std.proofs.Common.{◌≡◌, ℕ, zero, suc, ◌+◌, ◌<◌, List, length, get_or, set, replicate, sym, refl, ap, ◌∙◌, get_or-set_same, get_or-set_other, arith}
use mathlib.Core.Logic.{dite}
use native.Mathlib.Decide.{ℕ_discrete}
use Rattle.link_tables.specs.Seats.{word_at}

pub get_or-zeros : (n i : ℕ) → ◌≡◌ {A = ℕ} (get_or (replicate n 0) i 0) 0
get_or-zeros zero i = refl
get_or-zeros (suc n) zero = refl
get_or-zeros (suc n) (suc i) = get_or-zeros n i

pub laid_first : (ws : List ℕ) (i many next : ℕ) → i ≡ word_at many → length ws ≡ word_at (many + 2) → get_or ws (word_at (many + 1)) 0 ≡ 0
    → (get_or (set ws i next) (word_at many) 0 ≡ next) × (get_or (set ws i next) (word_at (many + 1)) 0 ≡ 0)
laid_first ws i many next is long down = (
  ap (λ (n : ℕ). get_or (set ws i next) n 0) (sym is) ∙ get_or-set_same ws i next 0 (omega arith),
  get_or-set_other ws i (word_at (many + 1)) next 0 (λ e. omega arith) ∙ down,
)

pub laid_more : (ws : List ℕ) (i link many next x : ℕ) → i ≡ word_at link → link < many → x ≡ 2 → length ws ≡ word_at (many + 2) → ((k : ℕ) → k < link → get_or ws (word_at k) 0 ≡ 2)
    → get_or ws (word_at many) 0 ≡ next → get_or ws (word_at (many + 1)) 0 ≡ 0
    → ((k : ℕ) → k < link + 1 → get_or (set ws i x) (word_at k) 0 ≡ 2) × (get_or (set ws i x) (word_at many) 0 ≡ next) × (get_or (set ws i x) (word_at (many + 1)) 0 ≡ 0)
laid_more ws i link many next x is low two long laden tickets down = (
  (λ k h. dite (ℕ_discrete k link)
      (λ (e : k ≡ link). ap (λ (n : ℕ). get_or (set ws i x) n 0) (ap word_at e ∙ sym is) ∙ (get_or-set_same ws i x 0 (omega arith) ∙ two))
      (λ ne. get_or-set_other ws i (word_at k) x 0 (λ e. ne (omega arith)) ∙ laden k (omega arith))),
  get_or-set_other ws i (word_at many) x 0 (λ e. omega arith) ∙ tickets,
  get_or-set_other ws i (word_at (many + 1)) x 0 (λ e. omega arith) ∙ down,
)
