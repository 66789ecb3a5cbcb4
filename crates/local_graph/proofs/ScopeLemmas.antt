-- The own vertices in the scope of a vertex, from its sides.
use Rattle.std.proofs.Common.{◌≡◌, ℕ, ◌+◌, ◌<◌, ◌==◌, ◌&&◌, ◌||◌, ◌++◌, Bool, true, false, nat_lt, if◌then◌else◌, min, Option, Some, None, List, [], ◌∷◌, length, map, get_or, AllPairs, All, refl, sym, ap, ◌∙◌, subst, arith, inl, inr}
use Rattle.std.specs.List.{list_any}
use Rattle.std.specs.List.Sorted.{IsPermutation}
use Rattle.std.proofs.lemmas.Cmp.{nat_eq_equiv}
use Rattle.std.proofs.lemmas.List.Sorted.{IsPermutation-map, list_any-IsPermutation}
use Rattle.std.proofs.lemmas.Bool.{cases_eq, cases_lt, eq-eqb, ne_eqb, eqb-true, le-ltb, lt-ltb, false≢true}
use Rattle.std.proofs.lemmas.List.{get_or-map, get_or_append_left, get_or_default, length-map}
use Rattle.std.proofs.lemmas.List.Elements.{All-nil, All-cons, All-head, All-tail}
use Rattle.std.proofs.lemmas.List.Folds.{list_any-append}
use Rattle.std.proofs.lemmas.List.Kept.{AllPairs-filter}
use Rattle.std.proofs.lemmas.Map.Views.{any-filter_same, list_any-from_Contains}
use Rattle.gl_base.specs.Lists.{Ascends}
use Rattle.gl_base.specs.declared.atoms.GhostLine.{GhostLine}
use Rattle.gl_base.specs.declared.atoms.VertexLine.{VertexLine}
use Rattle.gl_base.specs.declared.numbers.MachineNo.{MachineNo}
use Rattle.gl_base.specs.declared.numbers.Vertex.{Vertex}
use Rattle.graph_core.specs.declared.halves.Half.{Half}
use Rattle.graph_core.specs.Distinct.{AreDistinctOf}
use Rattle.graph_core.proofs.NeighbourLemmas.{rising_same}
use Rattle.local_graph.specs.declared.sides.Side.{Side}
use Rattle.local_graph.specs.Locals.{AreTheirPlaces, place_of_vertex}
use Rattle.local_graph.specs.Played.{numbers_of, place_or, side_of, sides_kept}
use Rattle.local_graph.specs.Inner.ByPlace.{known_vertices}
use Rattle.local_graph.specs.Inner.AtPlaces.{ArePlain, IsSideTo, number_among, is_first_place, stands_near, scope_numbers}

-- ---- Booleans

same_truth : (a b : Bool) → (a ≡ true → b ≡ true) → (b ≡ true → a ≡ true) → a ≡ b
same_truth true b to back = sym (to refl)
same_truth false true to back = back refl
same_truth false false to back = refl

none_or : (b : Bool) → (b || false) ≡ b
none_or true = refl
none_or false = refl

-- a part more at the end of a choice
pub part_more : (now before first some part more : Bool) → now ≡ (before || part) → before ≡ (first || some) → more ≡ (some || part) → now ≡ (first || more)
part_more now before true some part more a b m = a ∙ ap (λ w. w || part) b
part_more now before false some part more a b m = a ∙ ap (λ w. w || part) b ∙ sym m

-- whoever waits takes one place
pub waits_one : (waits : Bool) → (if waits then 2 else 1) ≡ (if waits then 1 else 0) + 1
waits_one true = refl
waits_one false = refl

-- ---- plain vertices

pairs_from : (xs : List ℕ) → Ascends xs → AllPairs (λ u v. u < v) xs
pairs_from xs up = λ i j d l m.
    let below = up i j l m in
    let first : get_or xs i d ≡ get_or xs i 0 = get_or_default xs i d 0 (omega arith) in
    let second : get_or xs j d ≡ get_or xs j 0 = get_or_default xs j d 0 m in
    omega (arith, first, second, below)

-- what holds of each of some vertices holds of each number among theirs
among : (P : ℕ → Type 0) (vs : List Vertex) (x : ℕ) → All (λ (v : Vertex). P v.0) vs → number_among x (numbers_of vs) ≡ true → P x
among P [] x all had = absurd (false≢true had)
among P (v ∷ vs) x all had = elim (cases_eq x v.0) [
  | inl same ↦ subst P (sym same) (All-head (λ (u : Vertex). P u.0) v vs all)
  | inr other ↦ among P vs x (All-tail (λ (u : Vertex). P u.0) v vs all) (sym (ap (λ b. b || number_among x (numbers_of vs)) (ne_eqb x v.0 other)) ∙ had)
]

pub plain_from : (owned : List Vertex) (many : ℕ) (places : List (Option ℕ)) → Ascends (numbers_of owned)
    → ((x : ℕ) → is_first_place many (place_of_vertex places x) ≡ true → number_among x (numbers_of owned) ≡ true)
    → All (λ (v : Vertex). is_first_place many (place_of_vertex places v.0) ≡ true) owned → ArePlain owned many places
plain_from owned many places up back to =
    record {
      ascend = up;
      first = λ x. same_truth (number_among x (numbers_of owned)) (is_first_place many (place_of_vertex places x))
          (among (λ (y : ℕ). is_first_place many (place_of_vertex places y) ≡ true) owned x to) (back x);
    }

-- a vertex that has one of the first places is one of the own vertices, which have those
pub first_owned : (own order : List VertexLine) (ghosts : List GhostLine) (places : List (Option ℕ)) (x : ℕ) → IsPermutation own order → AreTheirPlaces places (known_vertices order ghosts)
    → is_first_place (length order) (place_of_vertex places x) ≡ true → number_among x (numbers_of (map (λ v. v.vertex) own)) ≡ true
first_owned own order ghosts places x same stand first =
    list_any-IsPermutation (λ (y : ℕ). x == y) (numbers own) (numbers order) (IsPermutation-map (λ (v : Vertex). v.0) (vertices own) (vertices order) (IsPermutation-map (λ (v : VertexLine). v.vertex) own order same))
    ∙ list_any-from_Contains nat_eq_equiv x (numbers order) (p, inside, read)
  where
    vertices : List VertexLine → List Vertex
    vertices lines = map (λ v. v.vertex) lines

    numbers : List VertexLine → List ℕ
    numbers lines = numbers_of (vertices lines)

    at : (o : Option ℕ) → is_first_place (length order) o ≡ true → (k : ℕ) × (o ≡ Some k) × (k < length order)
    at None is = absurd (false≢true is)
    at (Some k) is = elim (cases_lt k (length order)) [
      | inl low ↦ (k, refl, low)
      | inr past ↦ absurd (false≢true (sym (le-ltb k (length order) past) ∙ is))
    ]

    p : ℕ
    p = (at (place_of_vertex places x) first).0

    inside : p < length (numbers order)
    inside = let low = (at (place_of_vertex places x) first).2 in omega (arith, length-map (vertices order) (λ (v : Vertex). v.0), length-map order (λ (v : VertexLine). v.vertex))

    read : get_or (numbers order) p x ≡ x
    read =
        let d : Vertex = record { 0 = x } in
        let within : p < length (vertices order) = omega (arith, inside, length-map (vertices order) (λ (v : Vertex). v.0)) in
        get_or-map (λ (v : Vertex). v.0) (vertices order) p d x within
        ∙ ap (λ (v : Vertex). v.0) (sym (get_or_append_left (vertices order) (map (λ (g : GhostLine). g.vertex) ghosts) d p within))
        ∙ stand.stands x p d (at (place_of_vertex places x) first).1

-- sides have the places of their other ends
pub sides_lead : (me : MachineNo) (many : ℕ) (ghosts : List GhostLine) (places : List (Option ℕ)) (halves : List Half) → All (IsSideTo places) (map (side_of me many ghosts places) halves)
sides_lead me many ghosts places [] = All-nil (IsSideTo places)
sides_lead me many ghosts places (h ∷ halves) =
    All-cons (IsSideTo places) (side_of me many ghosts places h) (map (side_of me many ghosts places) halves) refl (sides_lead me many ghosts places halves)

-- ---- those near

-- the place of a side that leads to x is among the first so many where x has such a place
place_there : (many : ℕ) (o : Option ℕ) → many < 4294967295 → nat_lt (place_or 4294967295 o) many ≡ is_first_place many o
place_there many None few = le-ltb 4294967295 many (omega arith)
place_there many (Some k) few = elim (cases_lt k many) [
  | inl low ↦ lt-ltb (min k 4294967295) many (omega arith) ∙ sym (lt-ltb k many low)
  | inr past ↦ le-ltb (min k 4294967295) many (omega arith) ∙ sym (le-ltb k many past)
]

-- a side to x is kept where the vertex is an own one, or x has one of the first places
module _ (me : MachineNo) (many : ℕ) (ghosts : List GhostLine) (places : List (Option ℕ)) (few : many < 4294967295) (is_own : Bool) (x k : ℕ) (at : place_of_vertex places x ≡ Some k) where
  abbrev as_side : Half → Side
  as_side = side_of me many ghosts places

  abbrev to_side : Side → Bool
  to_side s = s.other.0 == x

  abbrev to_half : Half → Bool
  to_half h = h.other.0 == x

  abbrev kept : List Half → List Side
  kept hs = sides_kept is_own many (map as_side hs)

  abbrev may : Bool
  may = is_own || nat_lt k many

  pub kept_any : (hs : List Half) → list_any to_side (kept hs) ≡ (may && list_any to_half hs)
  kept_any [] = none may
    where
      none : (a : Bool) → false ≡ (a && false)
      none true = refl
      none false = refl
  kept_any (h ∷ hs) = elim (cases_eq h.other.0 x) [
    | inl same ↦
        let there : nat_lt (as_side h).place many ≡ nat_lt k many =
        ap (λ (y : ℕ). nat_lt (place_or 4294967295 (place_of_vertex places y)) many) same ∙ ap (λ o. nat_lt (place_or 4294967295 o) many) at ∙ place_there many (Some k) few in
        ap (λ b. list_any to_side (if is_own || b then as_side h ∷ kept hs else kept hs)) there ∙ on may (eq-eqb h.other.0 x same) (kept_any hs)
    | inr other ↦ off (is_own || nat_lt (as_side h).place many) (ne_eqb h.other.0 x other) (kept_any hs)
  ]
    where
      on : (b : Bool) → (h.other.0 == x) ≡ true → list_any to_side (kept hs) ≡ (b && list_any to_half hs)
          → list_any to_side (if b then as_side h ∷ kept hs else kept hs) ≡ (b && ((h.other.0 == x) || list_any to_half hs))
      on true is rest = ap (λ c. c || list_any to_side (kept hs)) is ∙ sym (ap (λ c. c || list_any to_half hs) is)
      on false is rest = rest

      off : (t : Bool) → (h.other.0 == x) ≡ false → list_any to_side (kept hs) ≡ (may && list_any to_half hs)
          → list_any to_side (if t then as_side h ∷ kept hs else kept hs) ≡ (may && ((h.other.0 == x) || list_any to_half hs))
      off true is rest = ap (λ c. c || list_any to_side (kept hs)) is ∙ rest ∙ ap (λ c. may && c) (sym (ap (λ c. c || list_any to_half hs) is))
      off false is rest = rest ∙ ap (λ c. may && c) (sym (ap (λ c. c || list_any to_half hs) is))

module _ (places : List (Option ℕ)) (many : ℕ) (few : many < 4294967295) (x : ℕ) where
  abbrev here : Bool
  here = is_first_place many (place_of_vertex places x)

  one_near : (s : Side) → IsSideTo places s → (nat_lt s.place many && s.other.0 == x) ≡ (here && s.other.0 == x)
  one_near s is = elim (cases_eq s.other.0 x) [
    | inl same ↦
        ap (λ b. b && (s.other.0 == x)) (ap (λ (n : ℕ). nat_lt n many) (is ∙ ap (λ (y : ℕ). place_or 4294967295 (place_of_vertex places y)) same) ∙ place_there many (place_of_vertex places x) few)
    | inr other ↦
        ap (λ b. nat_lt s.place many && b) (ne_eqb s.other.0 x other) ∙ no (nat_lt s.place many) here ∙ sym (ap (λ b. here && b) (ne_eqb s.other.0 x other))
  ]
    where
      no : (a b : Bool) → (a && false) ≡ (b && false)
      no true true = refl
      no true false = refl
      no false true = refl
      no false false = refl

  all_near : (sides : List Side) → All (IsSideTo places) sides → list_any (λ (s : Side). nat_lt s.place many && s.other.0 == x) sides ≡ (here && list_any (λ (s : Side). s.other.0 == x) sides)
  all_near [] all = none here
    where
      none : (a : Bool) → false ≡ (a && false)
      none true = refl
      none false = refl
  all_near (s ∷ sides) all =
      ap (λ b. b || list_any (λ (s : Side). nat_lt s.place many && s.other.0 == x) sides) (one_near s (All-head (IsSideTo places) s sides all))
      ∙ ap (λ b. (here && s.other.0 == x) || b) (all_near sides (All-tail (IsSideTo places) s sides all))
      ∙ joined here (s.other.0 == x) (list_any (λ (s : Side). s.other.0 == x) sides)
    where
      joined : (a b c : Bool) → ((a && b) || (a && c)) ≡ (a && (b || c))
      joined true b c = refl
      joined false b c = refl

  own_near : (v : ℕ) → (is_first_place many (place_of_vertex places v) && x == v) ≡ (here && x == v)
  own_near v = elim (cases_eq x v) [
    | inl same ↦ ap (λ (y : ℕ). is_first_place many (place_of_vertex places y) && x == v) (sym same)
    | inr other ↦ ap (λ b. is_first_place many (place_of_vertex places v) && b) (ne_eqb x v other) ∙ no (is_first_place many (place_of_vertex places v)) here ∙ sym (ap (λ b. here && b) (ne_eqb x v other))
  ]
    where
      no : (a b : Bool) → (a && false) ≡ (b && false)
      no true true = refl
      no true false = refl
      no false true = refl
      no false false = refl

-- the list of those near, each once and ascending, has those of the own vertices that are in the scope
pub scope_is : (owned : List Vertex) (many : ℕ) (places : List (Option ℕ)) (v : ℕ) (sides : List Side) (near made : List ℕ)
    → ArePlain owned many places → many < 4294967295 → All (IsSideTo places) sides
    → ((x : ℕ) → number_among x near ≡ ((is_first_place many (place_of_vertex places v) && x == v) || list_any (λ (s : Side). nat_lt s.place many && s.other.0 == x) sides))
    → AreDistinctOf near made → made ≡ scope_numbers owned v sides
scope_is owned many places v sides near made plain few placed has distinct =
    rising_same made (scope_numbers owned v sides) distinct.ascending
    (AllPairs-filter (λ a b. a < b) (stands_near v sides) (numbers_of owned) (pairs_from (numbers_of owned) plain.ascend)) same
  where
    same : (x : ℕ) → number_among x made ≡ number_among x (scope_numbers owned v sides)
    same x =
        distinct.same x ∙ has x
        ∙ ap (λ b. b || list_any (λ (s : Side). nat_lt s.place many && s.other.0 == x) sides) (own_near places many few x v)
        ∙ ap (λ b. (is_first_place many (place_of_vertex places x) && x == v) || b) (all_near places many few x sides placed)
        ∙ joined (is_first_place many (place_of_vertex places x)) (x == v) (list_any (λ (s : Side). s.other.0 == x) sides)
        ∙ ap (λ b. stands_near v sides x && b) (sym (plain.first x))
        ∙ sym (any-filter_same (λ (y : ℕ). x == y) (stands_near v sides) (stands_near v sides x) (λ y is. ap (stands_near v sides) (sym (eqb-true x y is))) (numbers_of owned))
      where
        joined : (a b c : Bool) → ((a && b) || (a && c)) ≡ ((b || c) && a)
        joined true true c = refl
        joined true false true = refl
        joined true false false = refl
        joined false true c = refl
        joined false false true = refl
        joined false false false = refl

-- the vertex that waited is put at the end, or none waits
pub none_waits : (a b c : Bool) → b ≡ false → (a || (b && c)) ≡ a
none_waits a b c is = ap (λ w. a || (w && c)) is ∙ none_or a

pub last_put : (numbers : List ℕ) (x v : ℕ) → number_among x (numbers ++ v ∷ []) ≡ (number_among x numbers || x == v)
last_put numbers x v = list_any-append (λ (y : ℕ). x == y) numbers (v ∷ []) ∙ ap (λ b. number_among x numbers || b) (none_or (x == v))
