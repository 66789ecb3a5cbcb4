-- Neighbours: the other ends of half-edges, each once and ascending.
use Rattle.std.proofs.Common.{◌≡◌, ℕ, zero, suc, ◌+◌, ◌<◌, ◌≤◌, Bool, true, false, ◌||◌, ◌&&◌, List, [], ◌∷◌, length, map, get_or, eqb, nat_cmp, IsTrue, MatchBool, ◌↔◌, refl, sym, ap, ◌∙◌, subst, ⊎_elim, Contains, All, AllPairs, arith}
use Rattle.std.specs.List.{filter, list_any, dedup, dedup_from, range_with_len}
use Rattle.std.specs.List.Sorted.{IsPermutation, IsNonDecreasingBy, IsSorted}
use Rattle.std.specs.Ordering.{is_lt}
use Rattle.std.proofs.lemmas.Bool.{cases_eq, cases_Bool, eq-eqb, ne_eqb, eqb-true, le-ltb, false≢true, or_cases, and_parts}
use Rattle.std.proofs.lemmas.Cmp.{nat_eq_equiv}
use Rattle.std.proofs.lemmas.List.{length-map, map-append, get_or-map}
use Rattle.std.proofs.lemmas.List.Elements.{All-head, All-tail}
use Rattle.std.proofs.lemmas.List.Kept.{AllPairs-from_increasing, Contains-dedup_nat, Contains-from_dedup}
use Rattle.std.proofs.lemmas.List.Sorted.{IsPermutation-map, length_permutation, list_any-IsPermutation}
use Rattle.std.proofs.lemmas.Map.Keys.{IsStrictlyIncreasing-dedup}
use Rattle.std.proofs.lemmas.Map.Views.{Contains-from_any, list_any-from_Contains}
use Rattle.std.proofs.lemmas.List.Folds.{list_any-append, Any-from_list_any}
use Rattle.gl_base.specs.declared.numbers.Vertex.{Vertex}
use Rattle.graph_core.specs.declared.halves.Half.{Half}
use Rattle.graph_core.specs.DataGraph.{DataEdge, DataGraph, IsDataGraph, IsEdge, size}
use Rattle.graph_core.specs.Colourings.{joins}
use Rattle.graph_core.specs.Halves.{half_at, halves_from, halves_of}
use Rattle.graph_core.specs.HalfRows.{data_half}
use Rattle.gl_base.specs.Lists.{Ascends}
use Rattle.graph_core.specs.Distinct.{AreDistinctOf}
use Rattle.graph_core.specs.Inner.HalfPairs.{AreOthers}
use Rattle.graph_core.specs.Neighbours.{neighbours_of}
use Rattle.graph_core.proofs.EdgeLemmas.{map-map, eqb_flips}
use Rattle.graph_core.specs.Inner.SortedKeys.{Rises}

-- ---- a list that rises is the list of what it contains

any_tail : (u x : ℕ) (xs : List ℕ) → (u ≡ x → ⊥) → list_any (eqb u) (x ∷ xs) ≡ list_any (eqb u) xs
any_tail u x xs apart = rw (ne_eqb u x apart) refl

any_head : (u x : ℕ) (xs : List ℕ) → u ≡ x → list_any (eqb u) (x ∷ xs) ≡ true
any_head u x xs same = rw (eq-eqb u x same) refl

any_above : (u x : ℕ) (xs : List ℕ) → AllPairs (λ a b. a < b) (x ∷ xs) → list_any (eqb u) xs ≡ true → x < u
any_above u x xs up had =
    let (k, inside, read) = Contains-from_any eqb-true u xs had in
    let h = up 0 (suc k) u (omega arith) (omega arith) in
    let at : get_or xs k u ≡ u = read in
    omega arith

any_tail_true : (u x : ℕ) (xs : List ℕ) → list_any (eqb u) xs ≡ true → list_any (eqb u) (x ∷ xs) ≡ true
any_tail_true u x xs had = ⊎_elim (λ e. any_head u x xs e) (λ e. any_tail u x xs e ∙ had) (cases_eq u x)

pairs_tail : (x : ℕ) (xs : List ℕ) → AllPairs (λ a b. a < b) (x ∷ xs) → AllPairs (λ a b. a < b) xs
pairs_tail x xs up = λ i j d l m. up (suc i) (suc j) d (omega arith) (omega arith)

-- what the list contains from a on, among n numbers
record Has (p : ℕ → Bool) (a n : ℕ) (xs : List ℕ) : Type 0 where
  up : AllPairs (λ u v. u < v) xs
  low : (u : ℕ) → list_any (eqb u) xs ≡ true → a ≤ u
  same : (u : ℕ) → a ≤ u → list_any (eqb u) xs ≡ p u
  high : (u : ℕ) → a ≤ u → p u ≡ true → u < a + n

without_first : (p : ℕ → Bool) (n a : ℕ) (xs : List ℕ) → Has p a (suc n) xs → p a ≡ false → Has p (a + 1) n xs
without_first p n a xs h none =
    record {
      up = h.up;
      low = λ u had. ⊎_elim
          (λ (e : u ≡ a). absurd (false≢true (sym none ∙ ap p (sym e) ∙ sym (h.same u (omega arith)) ∙ had)))
          (λ e. let low = h.low u had in omega (arith, e))
          (cases_eq u a);
      same = λ u l. h.same u (omega arith);
      high = λ u l had. omega (arith, h.high u (omega arith) had);
    }

first_is : (p : ℕ → Bool) (n a x : ℕ) (xs : List ℕ) → Has p a (suc n) (x ∷ xs) → p a ≡ true → x ≡ a
first_is p n a x xs h some =
    let low = h.low x (any_head x x xs refl) in
    ⊎_elim
    (λ e. sym e)
    (λ e. let had : list_any (eqb a) xs ≡ true = sym (any_tail a x xs e) ∙ h.same a (omega arith) ∙ some in
    let above = any_above a x xs h.up had in
    absurd (omega arith))
    (cases_eq a x)

rest_has : (p : ℕ → Bool) (n a : ℕ) (xs : List ℕ) → Has p a (suc n) (a ∷ xs) → Has p (a + 1) n xs
rest_has p n a xs h =
    record {
      up = pairs_tail a xs h.up;
      low = λ u had. let above = any_above u a xs h.up had in omega arith;
      same = λ u l. sym (any_tail u a xs (λ e. omega arith)) ∙ h.same u (omega arith);
      high = λ u l had. omega (arith, h.high u (omega arith) had);
    }

with_first : (p : ℕ → Bool) (n a : ℕ) (xs : List ℕ) → Has p a (suc n) xs → p a ≡ true → ((ys : List ℕ) → Has p (a + 1) n ys → ys ≡ filter p (range_with_len (a + 1) n)) → xs ≡ filter p (range_with_len a (suc n))
with_first p n a [] h some then = absurd (false≢true (h.same a (omega arith) ∙ some))
with_first p n a (x ∷ xs) h some then =
    let is = first_is p n a x xs h some in
    let h' : Has p a (suc n) (a ∷ xs) = subst (λ y. Has p a (suc n) (y ∷ xs)) is h in
    let rest = then xs (rest_has p n a xs h') in
    rw (some, is) (ap (λ ys. a ∷ ys) rest)

filter_from : (p : ℕ → Bool) (n a : ℕ) (xs : List ℕ) → Has p a n xs → xs ≡ filter p (range_with_len a n)
filter_from p zero a [] h = refl
filter_from p zero a (x ∷ xs) h =
    let here = any_head x x xs refl in
    let low = h.low x here in
    absurd (omega (arith, h.high x low (sym (h.same x low) ∙ here)))
filter_from p (suc n) a xs h =
    ⊎_elim
    (λ (some : p a ≡ true). with_first p n a xs h some (λ ys. filter_from p n (a + 1) ys))
    (λ (none : p a ≡ false).
    let rest : xs ≡ filter p (range_with_len (a + 1) n) = filter_from p n (a + 1) xs (without_first p n a xs h none) in
    rw none rest)
    (cases_Bool (p a))

pub filter_is : (p : ℕ → Bool) (n : ℕ) (xs : List ℕ) → AllPairs (λ u v. u < v) xs → ((u : ℕ) → list_any (eqb u) xs ≡ p u) → ((u : ℕ) → p u ≡ true → u < n) → xs ≡ filter p (range_with_len 0 n)
filter_is p n xs up same high =
    filter_from p n 0 xs (record { up = up; low = λ u had. omega arith; same = λ u l. same u; high = λ u l had. omega (arith, high u had) })

-- two lists that rise and contain the same are one
pub rising_same : (xs ys : List ℕ) → AllPairs (λ u v. u < v) xs → AllPairs (λ u v. u < v) ys → ((u : ℕ) → list_any (eqb u) xs ≡ list_any (eqb u) ys) → xs ≡ ys
rising_same [] [] up up' same = refl
rising_same [] (y ∷ ys) up up' same = absurd (false≢true (same y ∙ any_head y y ys refl))
rising_same (x ∷ xs) [] up up' same = absurd (false≢true (sym (same x) ∙ any_head x x xs refl))
rising_same (x ∷ xs) (y ∷ ys) up up' same =
    ap (λ n. n ∷ xs) heads ∙ ap (λ ns. y ∷ ns) (rising_same xs ys (pairs_tail x xs up) (pairs_tail y ys up') rest)
  where
    heads : x ≡ y
    heads =
        ⊎_elim
        (λ e. e)
        (λ e. let had : list_any (eqb x) ys ≡ true = sym (any_tail x y ys e) ∙ sym (same x) ∙ any_head x x xs refl in
        let had' : list_any (eqb y) xs ≡ true = sym (any_tail y x xs (λ q. e (sym q))) ∙ same y ∙ any_head y y ys refl in
        let above = any_above x y ys up' had in
        let above' = any_above y x xs up had' in
        absurd (omega arith))
        (cases_eq x y)

    -- a number that a rising list has behind its first is another one
    none_behind : (u z : ℕ) (zs : List ℕ) → AllPairs (λ a b. a < b) (z ∷ zs) → u ≡ z → list_any (eqb u) zs ≡ false
    none_behind u z zs rises is =
        ⊎_elim
        (λ (had : list_any (eqb u) zs ≡ true). let above = any_above u z zs rises had in absurd (omega arith))
        (λ (none : list_any (eqb u) zs ≡ false). none)
        (cases_Bool (list_any (eqb u) zs))

    rest : (u : ℕ) → list_any (eqb u) xs ≡ list_any (eqb u) ys
    rest u =
        ⊎_elim
        (λ e. none_behind u x xs up e ∙ sym (none_behind u y ys up' (e ∙ heads)))
        (λ e. sym (any_tail u x xs e) ∙ same u ∙ any_tail u y ys (λ q. e (q ∙ sym heads)))
        (cases_eq u x)

-- ---- a list sorted and each once

map-dedup_from : {X : Type 0} (E : X → X → Bool) (f : X → ℕ) → ((a b : X) → E a b ≡ eqb (f a) (f b)) → (x : X) (xs : List X) → map f (dedup_from E x xs) ≡ dedup_from eqb (f x) (map f xs)
map-dedup_from E f ties x [] = refl
map-dedup_from E f ties x (y ∷ ys) =
    ⊎_elim
    (λ (e : eqb (f y) (f x) ≡ true). rw (ties y x, e) (map-dedup_from E f ties x ys))
    (λ (e : eqb (f y) (f x) ≡ false). rw (ties y x, e) (ap (λ zs. f x ∷ zs) (map-dedup_from E f ties y ys)))
    (cases_Bool (eqb (f y) (f x)))

map-dedup : {X : Type 0} (E : X → X → Bool) (f : X → ℕ) → ((a b : X) → E a b ≡ eqb (f a) (f b)) → (xs : List X) → map f (dedup E xs) ≡ dedup eqb (map f xs)
map-dedup E f ties [] = refl
map-dedup E f ties (x ∷ xs) = map-dedup_from E f ties x xs

same_any : (u : ℕ) (xs ys : List ℕ) → (Contains xs u → Contains ys u) → (Contains ys u → Contains xs u) → list_any (eqb u) ys ≡ list_any (eqb u) xs
same_any u xs ys to back =
    ⊎_elim
    (λ h. h ∙ sym (list_any-from_Contains nat_eq_equiv u xs (back (Contains-from_any eqb-true u ys h))))
    (λ h. ⊎_elim
    (λ k. absurd (false≢true (sym h ∙ list_any-from_Contains nat_eq_equiv u ys (to (Contains-from_any eqb-true u xs k)))))
    (λ k. h ∙ sym k)
    (cases_Bool (list_any (eqb u) xs)))
    (cases_Bool (list_any (eqb u) ys))

numbers_sorted : {X : Type 0} (f : X → ℕ) (xs : List X) → IsNonDecreasingBy f xs → IsSorted nat_cmp (map f xs)
numbers_sorted f [] up = λ k d l m. absurd (omega arith)
numbers_sorted f (x ∷ xs) up = λ k d l m.
    let len = length-map (x ∷ xs) f in
    let le = up k (k + 1) x (omega arith) (omega arith) in
    rw (get_or-map f (x ∷ xs) (k + 1) x d (omega arith), get_or-map f (x ∷ xs) k x d (omega arith)) (not_less (f (get_or (x ∷ xs) (k + 1) x)) (f (get_or (x ∷ xs) k x)) le)
  where
    not_less : (a b : ℕ) → b ≤ a → is_lt (nat_cmp a b) ≡ false
    not_less a b le =
        ⊎_elim
        (λ e. rw (le-ltb a b le, eq-eqb a b e) refl)
        (λ e. rw (le-ltb a b le, ne_eqb a b e) refl)
        (cases_eq a b)

length-dedup_from : (x : ℕ) (xs : List ℕ) → length (dedup_from eqb x xs) ≤ suc (length xs)
length-dedup_from x [] = omega arith
length-dedup_from x (y ∷ ys) =
    ⊎_elim
    (λ (e : eqb y x ≡ true). rw e (omega (arith, length-dedup_from x ys)))
    (λ (e : eqb y x ≡ false). rw e (omega (arith, length-dedup_from y ys)))
    (cases_Bool (eqb y x))

length-dedup : (xs : List ℕ) → length (dedup eqb xs) ≤ length xs
length-dedup [] = omega arith
length-dedup (x ∷ xs) = length-dedup_from x xs

pub distinct_sorted : {X : Type 0} (E : X → X → Bool) (f : X → ℕ) (old sorted new : List X) → ((a b : X) → E a b ≡ eqb (f a) (f b)) → IsPermutation old sorted → IsNonDecreasingBy f sorted → new ≡ dedup E sorted → AreDistinctOf (map f old) (map f new)
distinct_sorted E f old sorted new ties same up is =
    let numbers : map f new ≡ dedup eqb (map f sorted) = ap (map f) is ∙ map-dedup E f ties sorted in
    let perm = IsPermutation-map f old sorted same in
    rw numbers
    (record {
      ascending = AllPairs-from_increasing (dedup eqb (map f sorted)) (IsStrictlyIncreasing-dedup (map f sorted) (numbers_sorted f sorted up));
      same = λ u.
          same_any u (map f sorted) (dedup eqb (map f sorted)) (Contains-dedup_nat (map f sorted) u) (Contains-from_dedup eqb (map f sorted) u) ∙ sym (list_any-IsPermutation (eqb u) (map f old) (map f sorted) perm);
      few = omega (arith, length-dedup (map f sorted), length_permutation (map f old) (map f sorted) perm);
    })

pub distinct_already : {X : Type 0} (f : X → ℕ) (xs : List X) → Rises f xs → AreDistinctOf (map f xs) (map f xs)
distinct_already f [] up = record { ascending = λ i j d l m. absurd (omega arith); same = λ u. refl; few = omega arith }
distinct_already f (x ∷ xs) up =
    record {
      ascending = λ i j d l m.
          let len = length-map (x ∷ xs) f in
          rw (get_or-map f (x ∷ xs) i x d (omega arith), get_or-map f (x ∷ xs) j x d (omega arith)) (up i j x l (omega arith));
      same = λ u. refl;
      few = omega arith;
    }

pub ascend_exactly : {X : Type 0} (f : X → ℕ) (xs : List X) (b : Bool) → MatchBool b (Rises f xs) (¬ Rises f xs) → IsTrue b ↔ Ascends (map f xs)
ascend_exactly f xs true up = (λ h. λ i j l m. (distinct_already f xs up).ascending i j 0 l m, λ h. refl)
ascend_exactly {X} f xs false not_up = (λ h. absurd (false≢true h), λ up. absurd (not_up (back up)))
  where
    back : Ascends (map f xs) → Rises f xs
    back up = λ i j d l m.
        let len = length-map xs f in
        let first = get_or-map f xs i d 0 (omega arith) in
        let second = get_or-map f xs j d 0 m in
        let below = up i j l (omega arith) in
        omega arith

-- ---- the other ends of half-edges

pub others_are : (halves : List Half) (listed new : List Vertex) → listed ≡ map (λ h. h.other) halves → AreDistinctOf (map (λ v. v.0) listed) (map (λ v. v.0) new) → AreOthers halves new
others_are halves listed new is distinct =
    let ends : map (λ v. v.0) listed ≡ map (λ h. h.other.0) halves = ap (map (λ v. v.0)) is ∙ map-map (λ v. v.0) (λ h. h.other) halves in
    subst (λ xs. AreDistinctOf xs (map (λ v. v.0) new)) ends distinct

-- ---- the other ends of the half-edges at v are its neighbours

half_joins : (directed : Bool) (v u k : ℕ) (e : DataEdge) → (e.from ≡ e.to → ⊥) → list_any (eqb u) (map (λ h. h.other) (half_at directed v k e)) ≡ joins v u e
half_joins directed v u k e apart =
    ⊎_elim
    (λ (at : e.from ≡ v).
    let off : e.to ≡ v → ⊥ = λ q. apart (at ∙ sym q) in
    rw (eq-eqb e.from v at, ne_eqb e.to v off, eqb_flips u e.to) (one_side (eqb e.to u) (eqb e.from u)))
    (λ off. ⊎_elim
    (λ (at : e.to ≡ v). rw (ne_eqb e.from v off, eq-eqb e.to v at, eqb_flips u e.from) (other_side (eqb e.from u)))
    (λ off_to. rw (ne_eqb e.from v off, ne_eqb e.to v off_to) (no_side (eqb e.from u)))
    (cases_eq e.to v))
    (cases_eq e.from v)
  where
    one_side : (a b : Bool) → (a || false) ≡ (a || (b && false))
    one_side true true = refl
    one_side true false = refl
    one_side false true = refl
    one_side false false = refl

    other_side : (a : Bool) → (a || false) ≡ (a && true)
    other_side true = refl
    other_side false = refl

    no_side : (a : Bool) → false ≡ (a && false)
    no_side true = refl
    no_side false = refl

pub halves_join : (directed : Bool) (v u k : ℕ) (edges : List DataEdge) → All (λ e. e.from ≡ e.to → ⊥) edges → list_any (eqb u) (map (λ h. h.other) (halves_from directed v k edges)) ≡ list_any (joins v u) edges
halves_join directed v u k [] apart = refl
halves_join directed v u k (e ∷ edges) apart =
    let here = half_joins directed v u k e (All-head (λ x. x.from ≡ x.to → ⊥) e edges apart) in
    let rest = halves_join directed v u (suc k) edges (All-tail (λ x. x.from ≡ x.to → ⊥) e edges apart) in
    rw (map-append (λ h. h.other) (half_at directed v k e) (halves_from directed v (suc k) edges), list_any-append (eqb u) (map (λ h. h.other) (half_at directed v k e)) (map (λ h. h.other) (halves_from directed v (suc k) edges)), here, rest) refl

pub joined_below : (g : DataGraph) (v u : ℕ) → IsDataGraph g → list_any (joins v u) g.edges ≡ true → u < size g
joined_below g v u so had =
    let (k, e, inside, read, holds) = Any-from_list_any (joins v u) g.edges had in
    let edge : IsEdge (size g) g.directed e = subst (λ x. IsEdge (size g) g.directed x) read (so.edges k e inside) in
    ⊎_elim
    (λ h. let is = eqb-true e.to u (and_parts (eqb e.from v) (eqb e.to u) h).1 in omega (arith, edge.to))
    (λ h. let is = eqb-true e.from u (and_parts (eqb e.from u) (eqb e.to v) h).0 in omega (arith, edge.from))
    (or_cases (eqb e.from v && eqb e.to u) (eqb e.from u && eqb e.to v) holds)

pub neighbours_are : (g : DataGraph) (v : ℕ) (halves : List Half) (row : List Vertex) → IsDataGraph g → map data_half halves ≡ halves_of g v → AreOthers halves row → map (λ u. u.0) row ≡ neighbours_of g v
neighbours_are g v halves row so are others =
    let ends : map (λ h. h.other.0) halves ≡ map (λ d. d.other) (halves_of g v) = sym (map-map (λ d. d.other) data_half halves) ∙ ap (map (λ d. d.other)) are in
    let apart : All (λ e. e.from ≡ e.to → ⊥) g.edges = λ k d l. (so.edges k d l).apart in
    filter_is (λ u. list_any (joins v u) g.edges) (size g) (map (λ u. u.0) row) others.ascending
    (λ u. others.same u ∙ ap (list_any (eqb u)) ends ∙ halves_join g.directed v u 0 g.edges apart)
    (λ u had. joined_below g v u so had)
