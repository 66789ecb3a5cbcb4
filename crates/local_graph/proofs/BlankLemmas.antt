-- Numbers of edges of which each is 0.
use Rattle.std.proofs.Common.{◌≡◌, ℕ, suc, zero, ◌+◌, ◌<◌, ◌==◌, Bool, true, false, if◌then◌else◌, List, [], ◌∷◌, ◌++◌, length, get_or, replicate, slice_index, slice_set, take, refl, sym, ap, ◌∙◌, arith}
use Rattle.std.proofs.lemmas.List.{length-replicate, map-append, take_more}
use Rattle.local_graph.specs.declared.sides.Side.{Side}
use Rattle.local_graph.specs.Locals.{numbers_along, written}
use Rattle.local_graph.specs.Inner.Blank.{AreBlank, AreNumbersKept, kept_numbers}
use Rattle.local_graph.proofs.FillLemmas.{no_side}

abbrev pub zeros : ℕ → List ℕ
zeros count = replicate count 0

-- so many zeros are blank
pub blank_zeros : (count : ℕ) → AreBlank (zeros count)
blank_zeros zero e = refl
blank_zeros (suc count) zero = refl
blank_zeros (suc count) (suc e) = blank_zeros count e

-- one more zero
pub more_zeros : (count : ℕ) → zeros count ++ 0 ∷ [] ≡ zeros (count + 1)
more_zeros zero = refl
more_zeros (suc count) =
    let one : suc count + 1 ≡ suc (count + 1) = omega arith in
    ap (λ (xs : List ℕ). 0 ∷ xs) (more_zeros count) ∙ sym (ap zeros one)

-- a zero that is written among zeros
pub zero_set : (count e : ℕ) → slice_set (zeros count) e 0 ≡ zeros count
zero_set zero e = refl
zero_set (suc count) zero = refl
zero_set (suc count) (suc e) = ap (λ (xs : List ℕ). 0 ∷ xs) (zero_set count e)

-- how many numbers there are
pub count_kept : (blank : Bool) (count : ℕ) (numbers : List ℕ) (capacity : ℕ) → AreNumbersKept blank count numbers capacity → length (kept_numbers blank count numbers) ≡ count
count_kept true count numbers capacity are = let zero_there : ℕ = 0 in length-replicate count zero_there
count_kept false count numbers capacity are = are.all refl

-- the numbers that the list stands for, where it has none, and where it has all
pub kept_zeros : (blank : Bool) (count : ℕ) (numbers : List ℕ) → blank ≡ true → kept_numbers blank count numbers ≡ zeros count
kept_zeros blank count numbers is = ap (λ b. kept_numbers b count numbers) is

pub kept_all_there : (blank : Bool) (count : ℕ) (numbers : List ℕ) → blank ≡ false → kept_numbers blank count numbers ≡ numbers
kept_all_there blank count numbers is = ap (λ b. kept_numbers b count numbers) is

-- what is lent of them
pub along_blank : (numbers : List ℕ) (sides : List Side) → AreBlank numbers → numbers_along (slice_index []) sides ≡ numbers_along (slice_index numbers) sides
along_blank numbers [] blank = refl
along_blank numbers (s ∷ sides) blank = λ i. sym (blank s.edge.0) i ∷ along_blank numbers sides blank i

-- one more is lent
pub along_more : (sides : List Side) (i : ℕ) → i < length sides → numbers_along (slice_index []) (take (i + 1) sides) ≡ numbers_along (slice_index []) (take i sides) ++ 0 ∷ []
along_more sides i inside =
    ap (numbers_along (slice_index [])) (take_more sides i no_side inside) ∙ map-append (λ (s : Side). slice_index [] s.edge.0) (take i sides) (get_or sides i no_side ∷ [])

-- what becomes of them where zeros come back
if_zero : (b : Bool) (x y : ℕ) → x ≡ 0 → y ≡ 0 → (if b then x else y) ≡ 0
if_zero true x y one other = one
if_zero false x y one other = other

written_blank : (sides : List Side) (xs : List ℕ) (old : ℕ → ℕ) (e : ℕ) → AreBlank xs → ((k : ℕ) → old k ≡ 0) → written sides xs old e ≡ 0
written_blank [] xs old e new was = was e
written_blank (s ∷ sides) [] old e new was = was e
written_blank (s ∷ sides) (x ∷ xs) old e new was = if_zero (e == s.edge.0) x (written sides xs old e) (new zero) (written_blank sides xs old e (λ k. new (suc k)) was)

pub kept_blank : (numbers : List ℕ) (sides : List Side) (xs : List ℕ) → AreBlank numbers → AreBlank xs → (e : ℕ) → slice_index numbers e ≡ written sides xs (slice_index numbers) e
kept_blank numbers sides xs blank new e = blank e ∙ sym (written_blank sides xs (slice_index numbers) e new blank)
