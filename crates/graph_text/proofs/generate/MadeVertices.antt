-- The vertex text of a made graph lists its identifiers.
use Rattle.std.proofs.Common.{◌≡◌, inl, inr, ℕ, zero, suc, ◌+◌, ◌*◌, ◌^◌, ◌<◌, ◌≤◌, ◌==◌, ◌||◌, true, false, nat_le, nat_lt, List, [], ◌∷◌, ◌++◌, length, get_or, decimal, refl, sym, ap, ◌∙◌, cond, arith, add-one, append_assoc, length-append, None, Some, Ok, Err}
use Rattle.std.specs.List.{list_any}
use Rattle.std.proofs.lemmas.List.Sorted.{IsPermutation-refl}
use Rattle.std.proofs.lemmas.List.Folds.{list_any-append}
use Rattle.std.proofs.lemmas.List.Elements.{All-from_get_or}
use Rattle.std.proofs.lemmas.List.{get_or_append_left}
use Rattle.std.proofs.Math.Seq.{get_or-append_seam}
use Rattle.std.proofs.lemmas.Bool.{cases_eq}
use Rattle.std.proofs.lemmas.Bool.Decides.{nat_tests}
use Rattle.std.proofs.lemmas.Fmt.{length-decimal-le}
use Rattle.gl_base.specs.declared.limits.TheConstants.{MAX_ID, MAX_VERTICES, MAX_TEXT_BYTES}
use Rattle.gl_base.specs.declared.text_faults.TextKind.TheVariants.{Double, TooMany}
use Rattle.graph_text.specs.lines.Lines.{lines}
use Rattle.gl_base.specs.Results.{and_then}
use Rattle.graph_text.specs.lines.Found.{run}
use Rattle.graph_text.specs.Firsts.{Rules, Judged, judge, judge_line, judge_lines, items_of, put, text_fault}
use Rattle.graph_text.specs.Ids.{AreIds}
use Rattle.graph_text.specs.Vertices.{vertex_rules, vertex_fault_after, vertices_of}
use Rattle.graph_text.specs.GraphTexts.{ListsIds}
use Rattle.graph_text.specs.generate.Making.{lines_from, vertex_line, made_ids}
use Rattle.graph_text.proofs.generate.MadeLines.{decimal_digits, Digits-InLine, lines-next, vertex_line-said}

pub length-made_ids : (n : ℕ) → length (made_ids n) ≡ n
length-made_ids zero = refl
length-made_ids (suc n) = omega (arith, length-append (made_ids n) (suc n ∷ []), length-made_ids n)

-- a later identifier isn't one of them
below_test : (a k : ℕ) → a < k → (a == k) ≡ false
below_test a k below = grind (arith, nat_tests)

made_ids-new : (n k : ℕ) → n < k → list_any (λ other. other == k) (made_ids n) ≡ false
made_ids-new zero k below = refl
made_ids-new (suc n) k below =
    list_any-append (λ other. other == k) (made_ids n) (suc n ∷ [])
    ∙ ap (λ t. t || list_any (λ other. other == k) (suc n ∷ [])) (made_ids-new n k (omega (arith, below)))
    ∙ ap (λ t. t || false) (below_test (suc n) k below)

-- what the reader has read of the first identifiers
abbrev after : ℕ → ℕ → Judged ℕ
after line n = record { line = line; items = made_ids n }

vertex-judged : (line j : ℕ) → j < MAX_VERTICES → judge_line vertex_rules (after line j) (decimal (j + 1)) ≡ Ok (after (line + 1) (j + 1))
vertex-judged line j room =
    let s : Judged ℕ = record { line = line; items = made_ids j } in
    let said = vertex_line-said (j + 1) (omega (arith, room)) in
    let new : vertex_fault_after (made_ids j) (j + 1) ≡ None = ap (λ t. cond t (Some Double) None) (made_ids-new j (j + 1) (omega arith)) in
    let fits : nat_lt (length (made_ids j)) MAX_VERTICES ≡ true = let long = length-made_ids j in grind (arith, nat_tests) in
    let grown : made_ids j ++ (j + 1) ∷ [] ≡ made_ids (j + 1) = rw add-one refl in
    ap (judge vertex_rules s) said
    ∙ ap (put vertex_rules s (j + 1)) new
    ∙ ap (λ t. cond t (Ok (record { line = line + 1; items = made_ids j ++ (j + 1) ∷ [] })) (Err (text_fault vertex_rules line TooMany))) fits
    ∙ ap (λ (ids : List ℕ). Ok (record { line = line + 1; items = ids })) grown

first_line : (j : ℕ) (rest : List ℕ) → j + 1 < 2 ^ 64 → lines (vertex_line j ++ rest) ≡ decimal (j + 1) ∷ lines rest
first_line j rest small =
    ap lines (append_assoc (decimal (j + 1)) (10 ∷ []) rest) ∙ lines-next [] (decimal (j + 1)) rest (Digits-InLine (decimal (j + 1)) (decimal_digits (j + 1) small))

vertices-judged : (line j count : ℕ) → j + count ≤ MAX_VERTICES → run (judge_line vertex_rules) (after line j) (lines (lines_from vertex_line j count)) ≡ Ok (after (line + count) (j + count))
vertices-judged line j zero room =
    let a : line ≡ line + 0 = omega arith in
    let b : j ≡ j + 0 = omega arith in
    ap (λ l. Ok (after l j)) a ∙ ap (λ k. Ok (after (line + 0) k)) b
vertices-judged line j (suc count) room =
    let rest = lines_from vertex_line (j + 1) count in
    let a : line + 1 + count ≡ line + suc count = omega arith in
    let b : j + 1 + count ≡ j + suc count = omega arith in
    ap (run (judge_line vertex_rules) (after line j)) (first_line j rest (omega (arith, room)))
    ∙ ap (λ r. and_then r (λ t. run (judge_line vertex_rules) t (lines rest))) (vertex-judged line j (omega (arith, room)))
    ∙ vertices-judged (line + 1) (j + 1) count (omega (arith, room))
    ∙ ap (λ l. Ok (after l (j + 1 + count))) a ∙ ap (λ k. Ok (after (line + suc count) k)) b

vertices-length : (j count : ℕ) → j + count ≤ MAX_VERTICES → length (lines_from vertex_line j count) ≤ 21 * count
vertices-length j zero room = omega arith
vertices-length j (suc count) room =
    let rest = lines_from vertex_line (j + 1) count in
    let number = length-decimal-le 20 (j + 1) (omega arith) (omega (arith, room)) (omega (arith, room)) in
    omega (arith, number, vertices-length (j + 1) count (omega (arith, room)), length-append (vertex_line j) rest, length-append (decimal (j + 1)) (10 ∷ []))

-- what is judged is read, where the text is short enough
pub items-of_judged : {X : Type 0} (r : Rules X) (bytes : List ℕ) (s : Judged X) → length bytes ≤ MAX_TEXT_BYTES → judge_lines r (lines bytes) ≡ Ok s → items_of r bytes ≡ Ok s.items
unfolding items_of
items-of_judged r bytes s short judged =
    let fits : nat_le (length bytes) MAX_TEXT_BYTES ≡ true = grind (arith, nat_tests) in
    rw (fits, judged) refl

pub made_vertices-read : (n : ℕ) → n ≤ MAX_VERTICES → vertices_of (lines_from vertex_line 0 n) ≡ Ok (made_ids n)
made_vertices-read n room =
    let start : 0 + n ≡ n = omega arith in
    items-of_judged vertex_rules (lines_from vertex_line 0 n) (record { line = 1 + n; items = made_ids (0 + n) }) (omega (arith, room, vertices-length 0 n (omega (arith, room)))) (vertices-judged 1 0 n (omega (arith, room)))
    ∙ ap (λ k. Ok (made_ids k)) start

pub made_ids-at : (n i : ℕ) → i < n → get_or (made_ids n) i 0 ≡ i + 1
made_ids-at zero i inside = absurd (omega (arith, inside))
made_ids-at (suc n) i inside = elim (cases_eq i n) [
  | inl e ↦
      let seam = get_or-append_seam (made_ids n) (suc n) [] 0 in
      ap (λ k. get_or (made_ids n ++ suc n ∷ []) k 0) (e ∙ sym (length-made_ids n)) ∙ seam ∙ omega (arith, e)
  | inr apart ↦
      let low : i < n = omega (arith, inside, apart) in
      get_or_append_left (made_ids n) (suc n ∷ []) 0 i (omega (arith, low, length-made_ids n)) ∙ made_ids-at n i low
]

pub made_ids-are : (n : ℕ) → n ≤ MAX_VERTICES → AreIds (made_ids n)
made_ids-are n few = record {
  ascending = λ i j below inside.
      let low : j < n = omega (arith, inside, length-made_ids n) in
      omega (arith, made_ids-at n i (omega (arith, below, low)), made_ids-at n j low, below);
  small = All-from_get_or (λ id. id ≤ MAX_ID) (made_ids n) 0 (λ i inside. omega (arith, few, inside, length-made_ids n, made_ids-at n i (omega (arith, inside, length-made_ids n))));
  few = omega (arith, few, length-made_ids n);
}

pub made_vertices-list : (n : ℕ) → n ≤ MAX_VERTICES → ListsIds (lines_from vertex_line 0 n) (made_ids n)
made_vertices-list n few = record { listed = made_ids n; lines = made_vertices-read n few; same = IsPermutation-refl (made_ids n); are = made_ids-are n few }
