-- Both ends of each edge of lines, by vertex.
use Rattle.std.proofs.Common.{◌≡◌, ℕ, zero, suc, ◌+◌, ◌*◌, ◌/◌, ◌%◌, ◌<◌, ◌==◌, ◌++◌, Bool, true, false, if◌then◌else◌, cond, min, Option, Some, None, List, [], ◌∷◌, length, map, slice_get, refl, sym, ap, ◌∙◌, subst, All, arith, inl, inr}
use Rattle.std.proofs.lemmas.Bool.{cases_eq, eq-eqb, ne_eqb}
use Rattle.std.proofs.lemmas.List.{append_assoc, map-append}
use Rattle.std.proofs.lemmas.List.Elements.{All-nil, All-cons, filter-append}
use Rattle.std.specs.List.{filter}
use Rattle.gl_base.specs.declared.atoms.EdgeLine.{EdgeLine}
use Rattle.graph_core.specs.declared.halves.Half.{Half}
use Rattle.graph_core.specs.Rows.{with_key}
use Rattle.local_graph.specs.Lines.{line_out, line_into, halves_of_lines}
use Rattle.local_graph.specs.Locals.{place_of_vertex}
use Rattle.local_graph.specs.Played.{place_or}
use Rattle.local_graph.specs.Inner.Ends.{end_pairs}

pub length-end_pairs : (directed : Bool) (none : ℕ) (edges : List EdgeLine) → length (end_pairs directed none edges) ≡ 2 * length edges
length-end_pairs directed none [] = refl
length-end_pairs directed none (e ∷ edges) = omega (arith, length-end_pairs directed none edges)

first_end_at : (directed : Bool) (none : ℕ) (edges : List EdgeLine) (i : ℕ) (e : EdgeLine) → slice_get edges i ≡ Some e
    → slice_get (end_pairs directed none edges) (2 * i) ≡ Some (min e.from.0 none, line_out directed e)
first_end_at directed none [] i e at = cc
first_end_at directed none (x ∷ edges) zero e at =
    let is : x ≡ e = cc in
    rw (← is) refl
first_end_at directed none (x ∷ edges) (suc i) e at =
    let twice : 2 * suc i ≡ suc (suc (2 * i)) = omega arith in
    rw twice (first_end_at directed none edges i e at)

second_end_at : (directed : Bool) (none : ℕ) (edges : List EdgeLine) (i : ℕ) (e : EdgeLine) → slice_get edges i ≡ Some e
    → slice_get (end_pairs directed none edges) (suc (2 * i)) ≡ Some (min e.to.0 none, line_into directed e)
second_end_at directed none [] i e at = cc
second_end_at directed none (x ∷ edges) zero e at =
    let is : x ≡ e = cc in
    rw (← is) refl
second_end_at directed none (x ∷ edges) (suc i) e at =
    let twice : 2 * suc i ≡ suc (suc (2 * i)) = omega arith in
    rw twice (second_end_at directed none edges i e at)

pub end_at_even : (directed : Bool) (none : ℕ) (edges : List EdgeLine) (place : ℕ) (e : EdgeLine) → place % 2 ≡ 0 → slice_get edges (place / 2) ≡ Some e
    → slice_get (end_pairs directed none edges) place ≡ Some (min e.from.0 none, line_out directed e)
end_at_even directed none edges place e even at =
    let is : place ≡ 2 * (place / 2) = omega arith in
    subst (λ p. slice_get (end_pairs directed none edges) p ≡ Some (min e.from.0 none, line_out directed e)) (sym is) (first_end_at directed none edges (place / 2) e at)

pub end_at_odd : (directed : Bool) (none : ℕ) (edges : List EdgeLine) (place : ℕ) (e : EdgeLine) → (place % 2 ≡ 0 → ⊥) → slice_get edges (place / 2) ≡ Some e
    → slice_get (end_pairs directed none edges) place ≡ Some (min e.to.0 none, line_into directed e)
end_at_odd directed none edges place e odd at =
    let is : place ≡ suc (2 * (place / 2)) = omega arith in
    subst (λ p. slice_get (end_pairs directed none edges) p ≡ Some (min e.to.0 none, line_into directed e)) (sym is) (second_end_at directed none edges (place / 2) e at)

pub place_or-le : (none : ℕ) (o : Option ℕ) → place_or none o < none + 1
place_or-le none None = omega arith
place_or-le none (Some k) = omega arith

pub end_keys : (directed : Bool) (none : ℕ) (edges : List EdgeLine) → All (λ (p : ℕ × Half). p.0 < none + 1) (end_pairs directed none edges)
end_keys directed none [] = All-nil (λ (p : ℕ × Half). p.0 < none + 1)
end_keys directed none (e ∷ edges) =
    let rest = end_keys directed none edges in
    let more = end_pairs directed none edges in
    let into : ℕ × Half = (min e.to.0 none, line_into directed e) in
    let out : ℕ × Half = (min e.from.0 none, line_out directed e) in
    All-cons (λ (p : ℕ × Half). p.0 < none + 1) out (into ∷ more) (omega arith) (All-cons (λ (p : ℕ × Half). p.0 < none + 1) into more (omega arith) rest)

-- ---- places, and the half-edges at v

-- the key of x is the place of v exactly where x is v
other_key : (none k : ℕ) (o : Option ℕ) → k < none → (o ≡ Some k → ⊥) → place_or none o ≡ k → ⊥
other_key none k None low not is = omega arith
other_key none k (Some j) low not is = let same : j ≡ k = omega arith in not (ap Some same)

pub key_is : (places : List (Option ℕ)) (none v k x : ℕ) → k < none → ((x y j : ℕ) → place_of_vertex places x ≡ Some j → place_of_vertex places y ≡ Some j → x ≡ y)
    → place_of_vertex places v ≡ Some k → (place_or none (place_of_vertex places x) == k) ≡ (x == v)
key_is places none v k x low apart at = elim (cases_eq x v) [
  | inl same ↦
      let here : place_or none (place_of_vertex places x) ≡ k = ap (λ (y : ℕ). place_or none (place_of_vertex places y)) same ∙ ap (place_or none) at ∙ omega arith in
      eq-eqb (place_or none (place_of_vertex places x)) k here ∙ sym (eq-eqb x v same)
  | inr other ↦
      let not = other_key none k (place_of_vertex places x) low (λ e. other (apart x v k e at)) in
      ne_eqb (place_or none (place_of_vertex places x)) k not ∙ sym (ne_eqb x v other)
]

pub one_key : {X : Type 0} (b : Bool) (key k : ℕ) (h : X) (rest : List (ℕ × X)) → (key == k) ≡ b → with_key k ((key, h) ∷ rest) ≡ (if b then h ∷ [] else []) ++ with_key k rest
one_key {X} true key k h rest is = ap (λ (b : Bool). map (λ (p : ℕ × X). p.1) (cond b ((key, h) ∷ filter (λ (p : ℕ × X). p.0 == k) rest) (filter (λ (p : ℕ × X). p.0 == k) rest))) is
one_key {X} false key k h rest is = ap (λ (b : Bool). map (λ (p : ℕ × X). p.1) (cond b ((key, h) ∷ filter (λ (p : ℕ × X). p.0 == k) rest) (filter (λ (p : ℕ × X). p.0 == k) rest))) is

-- a vertex below `none` is its own key
own_key : (none v x : ℕ) → v < none → (min x none == v) ≡ (x == v)
own_key none v x low = elim (cases_eq x v) [
  | inl same ↦ eq-eqb (min x none) v (omega arith) ∙ sym (eq-eqb x v same)
  | inr other ↦ ne_eqb (min x none) v (λ e. other (omega arith)) ∙ sym (ne_eqb x v other)
]

pub ends_at : (directed : Bool) (none v : ℕ) (edges : List EdgeLine) → v < none → with_key v (end_pairs directed none edges) ≡ halves_of_lines directed edges v
ends_at directed none v [] low = refl
ends_at directed none v (e ∷ edges) low =
    let more = end_pairs directed none edges in
    let out = line_out directed e in
    let into = line_into directed e in
    one_key (e.from.0 == v) (min e.from.0 none) v out ((min e.to.0 none, into) ∷ more) (own_key none v e.from.0 low)
    ∙ ap (λ (hs : List Half). (if e.from.0 == v then out ∷ [] else []) ++ hs) (one_key (e.to.0 == v) (min e.to.0 none) v into more (own_key none v e.to.0 low))
    ∙ ap (λ (hs : List Half). (if e.from.0 == v then out ∷ [] else []) ++ ((if e.to.0 == v then into ∷ [] else []) ++ hs)) (ends_at directed none v edges low)
    ∙ sym (append_assoc (if e.from.0 == v then out ∷ [] else []) (if e.to.0 == v then into ∷ [] else []) (halves_of_lines directed edges v))

-- ---- rows by key

pub key-append : {X : Type 0} (k : ℕ) (xs ys : List (ℕ × X)) → with_key k (xs ++ ys) ≡ with_key k xs ++ with_key k ys
key-append {X} k xs ys = ap (map (λ (p : ℕ × X). p.1)) (filter-append (λ (p : ℕ × X). p.0 == k) xs ys) ∙ map-append (λ (p : ℕ × X). p.1) (filter (λ (p : ℕ × X). p.0 == k) xs) (filter (λ (p : ℕ × X). p.0 == k) ys)
