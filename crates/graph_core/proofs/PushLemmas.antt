-- One more row behind the others.
use Rattle.std.proofs.Common.{◌≡◌, ℕ, zero, suc, ◌+◌, ◌-◌, ◌<◌, ◌≤◌, List, [], ◌∷◌, ◌++◌, length, map, get_or, drop, slice_range, refl, sym, ap, ◌∙◌, arith}
use Rattle.std.specs.List.{range_with_len}
use Rattle.std.proofs.Math.Seq.{drop-append_seam, get_or-append_seam}
use Rattle.std.proofs.lemmas.List.{get_or_append_left, length-append, take-append-le, take_all}
use Rattle.std.proofs.lemmas.List.FromFn.{map-range_with_len_more}
use Rattle.std.proofs.lemmas.Slice.{between_is}
use Rattle.graph_core.specs.Rows.{rows_of}
use Rattle.graph_core.specs.Inner.RowSteps.{AreStarts}

map_same : {T : Type 0} (f g : ℕ → T) (a n : ℕ) → ((k : ℕ) → k < a + n → f k ≡ g k) → map f (range_with_len a n) ≡ map g (range_with_len a n)
map_same f g a zero same = refl
map_same {T} f g a (suc n) same =
    let here : f a ≡ g a = same a (omega arith) in
    ap (λ (x : T). x ∷ map f (range_with_len (a + 1) n)) here ∙ ap (λ (xs : List T). g a ∷ xs) (map_same f g (a + 1) n (λ k l. same k (omega arith)))

-- the row with these starts
abbrev row_from : {T : Type 0} → List ℕ → List T → ℕ → List T
row_from starts items k = slice_range items (get_or starts k 0) (get_or starts (k + 1) 0)

earlier_row : {T : Type 0} (starts : List ℕ) (items row : List T) (e k : ℕ) → AreStarts starts (length items) → k < 0 + (length starts - 1)
    → row_from (starts ++ e ∷ []) (items ++ row) k ≡ row_from starts items k
earlier_row {T} starts items row e k sound inside =
    let start : get_or (starts ++ e ∷ []) k 0 ≡ get_or starts k 0 = get_or_append_left starts (e ∷ []) 0 k (omega arith) in
    let next : get_or (starts ++ e ∷ []) (k + 1) 0 ≡ get_or starts (k + 1) 0 = get_or_append_left starts (e ∷ []) 0 (k + 1) (omega arith) in
    let low : get_or starts (k + 1) 0 ≤ length items = sound.within (k + 1) (omega arith) in
    ap (λ (a : ℕ). slice_range (items ++ row) a (get_or (starts ++ e ∷ []) (k + 1) 0)) start
    ∙ ap (λ (b : ℕ). slice_range (items ++ row) (get_or starts k 0) b) next
    ∙ between_is (items ++ row) (get_or starts k 0) (get_or starts (k + 1) 0)
    ∙ ap (drop (get_or starts k 0)) (take-append-le (get_or starts (k + 1) 0) items row low)
    ∙ sym (between_is items (get_or starts k 0) (get_or starts (k + 1) 0))

last_row : {T : Type 0} (starts : List ℕ) (items row : List T) (n : ℕ) → AreStarts starts (length items) → n + 1 ≡ length starts
    → row_from (starts ++ (length items + length row) ∷ []) (items ++ row) n ≡ row
last_row {T} starts items row n sound many =
    let e = length items + length row in
    let count : length starts - 1 ≡ n = omega arith in
    let start : get_or (starts ++ e ∷ []) n 0 ≡ length items =
    get_or_append_left starts (e ∷ []) 0 n (omega arith) ∙ ap (λ (k : ℕ). get_or starts k 0) (sym count) ∙ sound.last in
    let next : get_or (starts ++ e ∷ []) (n + 1) 0 ≡ e = ap (λ (k : ℕ). get_or (starts ++ e ∷ []) k 0) many ∙ get_or-append_seam starts e [] 0 in
    ap (λ (a : ℕ). slice_range (items ++ row) a (get_or (starts ++ e ∷ []) (n + 1) 0)) start
    ∙ ap (λ (b : ℕ). slice_range (items ++ row) (length items) b) next
    ∙ between_is (items ++ row) (length items) e
    ∙ ap (drop (length items)) (take_all e (items ++ row) (omega (arith, length-append items row)))
    ∙ drop-append_seam items row

pub rows_of-push : {T : Type 0} (starts : List ℕ) (items row : List T) (e : ℕ) → AreStarts starts (length items) → e ≡ length items + length row
    → rows_of (starts ++ e ∷ []) (items ++ row) ≡ rows_of starts items ++ row ∷ []
rows_of-push {T} starts items row e sound is =
    let some = sound.some in
    let n = length starts - 1 in
    let many : length (starts ++ e ∷ []) - 1 ≡ n + 1 = omega (arith, length-append starts (e ∷ [])) in
    let all = row_from (starts ++ e ∷ []) (items ++ row) in
    let last : all n ≡ row = ap (λ (x : ℕ). row_from (starts ++ x ∷ []) (items ++ row) n) is ∙ last_row starts items row n sound (omega arith) in
    ap (λ (k : ℕ). map all (range_with_len 0 k)) many
    ∙ map-range_with_len_more all 0 n n (omega arith)
    ∙ ap (λ (rows : List (List T)). rows ++ all n ∷ []) (map_same all (row_from starts items) 0 n (λ k inside. earlier_row starts items row e k sound inside))
    ∙ ap (λ (x : List T). rows_of starts items ++ x ∷ []) last
