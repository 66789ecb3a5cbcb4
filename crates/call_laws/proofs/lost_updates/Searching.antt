-- Which tickets are there.
use Rattle.std.proofs.Common.{◌≡◌, ◌<◌, ◌≤◌, ℕ, zero, suc, ◌==◌, ◌||◌, ◌∙◌, Bool, true, false, Err, List, [], ◌∷◌, ◌++◌, Ok, filter, get_or, if◌then◌else◌, length, not, refl, ap, ap₂, ⊎_elim, arith}
use Rattle.std.specs.List.{flat_map, list_any}
use Rattle.std.specs.List.Sorted.{IsBinarySearchResult, IsNonDecreasingBy}
use Rattle.std.specs.Ordering.{nat_cmp}
use Rattle.std.proofs.lemmas.Bool.{cases_Bool, cases_lt, eq-eqb, eqb-true}
use Rattle.std.proofs.lemmas.List.Sorted.{searched}
use Rattle.gl_base.specs.declared.entries.Entry.{Entry}
use Rattle.gl_base.specs.declared.entries.Entry.TheVariants.{Go, Restart}
use Rattle.call_laws.specs.lost_updates.Inner.Tickets.{Rise, kept_lacking, tickets_of}
use Rattle.call_laws.specs.lost_updates.Lacking.{is_lacking, is_update_at, ticket_of}

or_true : (b : Bool) → (b || true) ≡ true
or_true true = refl
or_true false = refl

any_at : (xs : List ℕ) (x i : ℕ) → i < length xs → get_or xs i 0 ≡ x → list_any (λ other. other == x) xs ≡ true
any_at [] x i low is = absurd (nothing i low)
  where
    nothing : (i : ℕ) → i < 0 → ⊥
    nothing i is = omega arith
any_at (y ∷ ys) x zero low is = ap (λ (b : Bool). b || list_any (λ other. other == x) ys) (eq-eqb y x is)
any_at (y ∷ ys) x (suc i) low is = ap (λ (b : Bool). (y == x) || b) (any_at ys x i (less i (length ys) low) is) ∙ or_true (y == x)
  where
    less : (i n : ℕ) → suc i < suc n → i < n
    less i n is = omega arith

any_none : (xs : List ℕ) (x : ℕ) → ((k : ℕ) → k < length xs → get_or xs k 0 ≡ x → ⊥) → list_any (λ other. other == x) xs ≡ false
any_none [] x none = refl
any_none (y ∷ ys) x none =
    ap₂ (λ (b c : Bool). b || c)
    (⊎_elim (λ (here : (y == x) ≡ true). absurd (none 0 (zero_low (length ys)) (eqb-true y x here))) (λ (off : (y == x) ≡ false). off) (cases_Bool (y == x)))
    (any_none ys x (λ k low. none (suc k) (up k (length ys) low)))
  where
    zero_low : (n : ℕ) → 0 < suc n
    zero_low n = omega arith

    up : (k n : ℕ) → k < n → suc k < suc n
    up k n is = omega arith

below_not : (n x : ℕ) → n < x → n ≡ x → ⊥
below_not n x less same = omega arith

above_not : (n x : ℕ) → x < n → n ≡ x → ⊥
above_not n x less same = omega arith

pub search_found : (xs : List ℕ) (x i : ℕ) → Rise xs → IsBinarySearchResult (λ y. nat_cmp y x) xs (Ok i) → list_any (λ other. other == x) xs ≡ true
search_found xs x i up found = let there = searched xs x (Ok i) found up in any_at xs x i there.0 there.1

pub search_missed : (xs : List ℕ) (x i : ℕ) → Rise xs → IsBinarySearchResult (λ y. nat_cmp y x) xs (Err i) → list_any (λ other. other == x) xs ≡ false
search_missed xs x i up found =
    let there = searched xs x (Err i) found up in
    any_none xs x (λ k low. ⊎_elim
    (λ (less : k < i). below_not (get_or xs k 0) x (there.1 k less))
    (λ (more : i ≤ k). above_not (get_or xs k 0) x (there.2 k more low))
    (cases_lt k i))

-- the tickets of an order's updates are those that its updates have
pub tickets_are : (order : List Entry) (t : ℕ) → list_any (λ ticket. ticket == t) (tickets_of order) ≡ list_any (is_update_at t) order
tickets_are [] t = refl
tickets_are (Go machine vertex ticket ∷ order) t = ap (λ (b : Bool). (ticket == t) || b) (tickets_are order t)
tickets_are (Restart ticket ∷ order) t = tickets_are order t

-- numbers that never fall
pub rises_from : (xs : List ℕ) → IsNonDecreasingBy (λ n. n) xs → Rise xs
rises_from xs up = λ i j less low. up i j 0 less low

-- what is kept, entry by entry, is what passes
pub kept_are : (tickets : List ℕ) (order made : List Entry) → ((t : ℕ) → list_any (λ ticket. ticket == t) tickets ≡ list_any (is_update_at t) order) → flat_map (kept_lacking tickets) made ≡ filter (is_lacking order) made
kept_are tickets order [] same = refl
kept_are tickets order (entry ∷ made) same =
    one (list_any (λ ticket. ticket == ticket_of entry) tickets) (list_any (is_update_at (ticket_of entry)) order) (same (ticket_of entry)) (kept_are tickets order made same)
  where
    apart : true ≡ false → ⊥
    apart is = cc

    apart_too : false ≡ true → ⊥
    apart_too is = cc

    one : (b c : Bool) → b ≡ c → flat_map (kept_lacking tickets) made ≡ filter (is_lacking order) made →
        (if b then [] else entry ∷ []) ++ flat_map (kept_lacking tickets) made ≡ (if not c then entry ∷ filter (is_lacking order) made else filter (is_lacking order) made)
    one true true is rest = rest
    one false false is rest = ap (λ (es : List Entry). entry ∷ es) rest
    one true false is rest = absurd (apart is)
    one false true is rest = absurd (apart_too is)
