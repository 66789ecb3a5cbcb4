-- Steps in turn, and what is found after a piece that ends the reading.
use Rattle.std.proofs.Common.{◌≡◌, ℕ, ◌+◌, ◌<◌, List, [], ◌∷◌, ◌++◌, length, get_or, take, drop, refl, sym, ◌∙◌, ap, Result, Ok, Err}
use Rattle.std.proofs.lemmas.List.{drop_more, drop-drop, take-append-drop}
use Rattle.gl_base.specs.Results.{and_then}
use Rattle.graph_text.specs.lines.Found.{run}

pub run-append : {S A E : Type 0} (step : S → A → Result S E) (s : S) (xs ys : List A) → run step s (xs ++ ys) ≡ and_then (run step s xs) (λ t. run step t ys)
run-append step s [] ys = refl
run-append step s (x ∷ xs) ys =
    elim (step s x) as (λ r. and_then r (λ t. run step t (xs ++ ys)) ≡ and_then (and_then r (λ t. run step t xs)) (λ t. run step t ys))
    [ Ok t ↦ run-append step t xs ys | Err e ↦ refl ]

-- one item on, in a run that began at `old`
pub run_more : {S E : Type 0} (step : S → ℕ → Result S E) (s t old : S) (bytes : List ℕ) (i : ℕ) → i < length bytes → step s (get_or bytes i 0) ≡ Ok t
    → run step s (drop i bytes) ≡ run step old bytes → run step t (drop (i + 1) bytes) ≡ run step old bytes
run_more step s t old bytes i inside one ran =
    let e : run step s (drop i bytes) ≡ run step t (drop (i + 1) bytes) =
    ap (run step s) (drop_more bytes i 0 inside) ∙ ap (λ r. and_then r (λ u. run step u (drop (i + 1) bytes))) one in
    sym e ∙ ran

-- an item that ends a run that began at `old`
pub run_ends : {S E : Type 0} (step : S → ℕ → Result S E) (s old : S) (e : E) (bytes : List ℕ) (i : ℕ) → i < length bytes → step s (get_or bytes i 0) ≡ Err e
    → run step s (drop i bytes) ≡ run step old bytes → run step old bytes ≡ Err e
run_ends step s old e bytes i inside one ran =
    sym ran ∙ ap (run step s) (drop_more bytes i 0 inside) ∙ ap (λ r. and_then r (λ u. run step u (drop (i + 1) bytes))) one

-- a run goes on from where the first items led
pub run_joined : {S A E : Type 0} (step : S → A → Result S E) (old mid : S) (end : Result S E) (xs ys : List A) → run step old xs ≡ Ok mid → run step mid ys ≡ end
    → run step old (xs ++ ys) ≡ end
run_joined step old mid end xs ys first second = run-append step old xs ys ∙ ap (λ r. and_then r (λ t. run step t ys)) first ∙ second

-- a run that ended goes no further
pub run_stays : {S A E : Type 0} (step : S → A → Result S E) (old : S) (e : E) (xs ys : List A) → run step old xs ≡ Err e → run step old (xs ++ ys) ≡ Err e
run_stays step old e xs ys ended = run-append step old xs ys ∙ ap (λ r. and_then r (λ t. run step t ys)) ended

-- so many items on, in a run that began at `old`
pub run_jumps : {S A E : Type 0} (step : S → A → Result S E) (s t old : S) (items : List A) (at taken : ℕ) → run step s (take taken (drop at items)) ≡ Ok t
    → run step s (drop at items) ≡ run step old items → run step t (drop (at + taken) items) ≡ run step old items
run_jumps step s t old items at taken one ran =
    let front = take taken (drop at items) in
    let rest = drop taken (drop at items) in
    let split : run step s (drop at items) ≡ run step t rest =
    ap (run step s) (sym (take-append-drop taken (drop at items))) ∙ run_joined step s t (run step t rest) front rest one refl in
    ap (run step t) (sym (drop-drop taken at items)) ∙ sym split ∙ ran
