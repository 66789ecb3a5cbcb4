-- What a machine holds that played its lines is its part of the graph.
use Rattle.std.proofs.Common.{◌≡◌, ℕ, ◌+◌, ◌-◌, ◌<◌, ◌≤◌, ◌==◌, ◌&&◌, ◌||◌, ◌++◌, Bool, true, false, not, nat_lt, Option, Some, None, is_some, List, [], ◌∷◌, length, get_or, map, refl, sym, ap, ◌∙◌, subst, All, arith, inl, inr, ◌⊎◌}
use Rattle.std.specs.Prelude.{slice_index}
use Rattle.std.specs.List.{filter, list_any, range_with_len}
use Rattle.std.proofs.lemmas.Bool.{cases_lt, eq-eqb, eqb-true, lt-ltb, le-ltb, true≢false}
use Rattle.std.proofs.lemmas.Option.{slice_get-get_or, slice_get_past}
use Rattle.std.proofs.lemmas.List.{length-map, length-append, length-replicate, get_or-map, get_or_append_left, get_or-append_right, get_or_default}
use Rattle.std.proofs.lemmas.List.Sorted.{All-permutation, list_any-IsPermutation, length_permutation}
use Rattle.std.proofs.lemmas.List.Folds.{Any-from_list_any}
use Rattle.gl_base.specs.declared.atoms.GhostLine.{GhostLine}
use Rattle.gl_base.specs.declared.atoms.VertexLine.{VertexLine}
use Rattle.gl_base.specs.declared.numbers.MachineNo.{MachineNo}
use Rattle.gl_base.specs.declared.numbers.Vertex.{Vertex}
use Rattle.graph_core.specs.declared.halves.Half.{Half}
use Rattle.graph_core.specs.DataGraph.{size}
use Rattle.graph_core.specs.Neighbours.{neighbours_of}
use Rattle.graph_atoms.specs.atom_cut.Atoms.{is_in, is_ghost}
use Rattle.cluster_laws.specs.cluster_core.Ranges.{all_passing}
use Rattle.cluster_laws.specs.cluster_core.Settings.{Setting, IsSetting}
use Rattle.local_graph.specs.Locals.{LocalView, at_place, got_at, place_of_vertex, is_placed, is_own, id_at}
use Rattle.local_graph.specs.Played.{IsMadeOf, no_datum, numbers_of}
use Rattle.partition.specs.local_parts.Parts.{owner_numbers, is_ghost_of}
use Rattle.partition.proofs.local_parts.RangeLemmas.{filter_passing}
use Rattle.partition.proofs.local_parts.FoundLemmas.{found_with, any_mapped}
use Rattle.partition.proofs.local_parts.MineLemmas.{AreListsOf, IsOwnLine, IsGhostLine, in_is, ghost_is, own_lines, ghost_lines_are, own_numbers, ghost_numbers, few_lines}

pub some_place : (o : Option ℕ) → is_some o ≡ true → (k : ℕ) × (o ≡ Some k)
some_place None is = absurd (true≢false (sym is))
some_place (Some k) is = (k, refl)

pub same_truth : (a b : Bool) → (a ≡ true → b ≡ true) → (b ≡ true → a ≡ true) → a ≡ b
same_truth true b to back = sym (to refl)
same_truth false true to back = back refl
same_truth false false to back = refl

and_left : (a b : Bool) → (a && b) ≡ true → a ≡ true
and_left true b is = refl
and_left false b is = is

and_right : (a b : Bool) → (a && b) ≡ true → b ≡ true
and_right true b is = is
and_right false b is = absurd (true≢false (sym is))

lt_from : (x n : ℕ) → nat_lt x n ≡ true → x < n
lt_from x n is = elim (cases_lt x n) [
  | inl low ↦ low
  | inr past ↦ absurd (true≢false (sym is ∙ le-ltb x n past))
]

abbrev pub no_vertex : Vertex
no_vertex = record { 0 = 0 }

abbrev pub no_line : VertexLine
no_line = record { vertex = no_vertex; id = 0 }

abbrev pub no_ghost : GhostLine
no_ghost = record { vertex = no_vertex; id = 0; atom = record { 0 = 0 } }

-- x stands at this place of the own vertices
pub record IsOwnAt (st : Setting) (me : ℕ) (order : List VertexLine) (x k : ℕ) : Type 0 where
  pub low : k < length order
  pub line : IsOwnLine st me (get_or order k no_line)
  pub stands : (get_or order k no_line).vertex.0 ≡ x

-- x stands at this place behind them
pub record IsGhostAt (st : Setting) (me : ℕ) (many : ℕ) (ghosts : List GhostLine) (x k : ℕ) : Type 0 where
  pub high : many ≤ k
  pub low : k - many < length ghosts
  pub line : IsGhostLine st me (get_or ghosts (k - many) no_ghost)
  pub stands : (get_or ghosts (k - many) no_ghost).vertex.0 ≡ x

module _ (st : Setting) (me : MachineNo) (mine : List VertexLine) (ghosts : List GhostLine) (halves : ℕ → List Half) (machines edges : ℕ) (l : LocalView) (is : IsSetting st) (are : AreListsOf st me.0 mine ghosts halves machines edges) (played : IsMadeOf me mine ghosts halves machines edges l) where
  abbrev order : List VertexLine
  order = played.order

  abbrev many : ℕ
  many = length played.order

  abbrev known : List Vertex
  known = map (λ v. v.vertex) played.order ++ map (λ g. g.vertex) ghosts

  pub length-known : length known ≡ many + length ghosts
  length-known =
      length-append (map (λ (v : VertexLine). v.vertex) order) (map (λ (g : GhostLine). g.vertex) ghosts)
      ∙ ap (λ (n : ℕ). n + length (map (λ (g : GhostLine). g.vertex) ghosts)) (length-map order (λ (v : VertexLine). v.vertex))
      ∙ ap (λ (n : ℕ). many + n) (length-map ghosts (λ (g : GhostLine). g.vertex))

  pub known_few : length known < 4294967296
  known_few =
      let a = few_lines st me.0 mine ghosts is are.lines in
      let b = is.graph.few in
      omega (arith, length-known, length_permutation mine order played.same)

  pub many_kept : length l.kept ≡ many
  many_kept = ap length played.kept ∙ length-replicate many no_datum

  order_lines : All (IsOwnLine st me.0) order
  order_lines = All-permutation (IsOwnLine st me.0) mine order played.same (own_lines st me.0 mine ghosts is are.lines)

  left_is : (k : ℕ) → k < many → get_or known k no_vertex ≡ (get_or order k no_line).vertex
  left_is k low =
      get_or_append_left (map (λ (v : VertexLine). v.vertex) order) (map (λ (g : GhostLine). g.vertex) ghosts) no_vertex k (omega (arith, length-map order (λ (v : VertexLine). v.vertex)))
      ∙ get_or-map (λ (v : VertexLine). v.vertex) order k no_line no_vertex low

  right_is : (k : ℕ) → many ≤ k → k < length known → get_or known k no_vertex ≡ (get_or ghosts (k - many) no_ghost).vertex
  right_is k high low =
      get_or-append_right (map (λ (v : VertexLine). v.vertex) order) (map (λ (g : GhostLine). g.vertex) ghosts) many k no_vertex (length-map order (λ (v : VertexLine). v.vertex)) high
      ∙ get_or-map (λ (g : GhostLine). g.vertex) ghosts (k - many) no_ghost no_vertex (omega (arith, length-known))

  -- what stands at a place
  pub own_at : (x k : ℕ) → place_of_vertex l.places x ≡ Some k → k < many → IsOwnAt st me.0 order x k
  own_at x k at low =
      record { low = low; line = order_lines k no_line low; stands = ap (λ (v : Vertex). v.0) (sym (left_is k low)) ∙ played.places.stands x k no_vertex at }

  pub ghost_at : (x k : ℕ) → place_of_vertex l.places x ≡ Some k → many ≤ k → IsGhostAt st me.0 many ghosts x k
  ghost_at x k at high =
      let inside = played.places.inside x k at in
      let low : k - many < length ghosts = omega (arith, length-known) in
      record { high = high; low = low; line = ghost_lines_are st me.0 mine ghosts is are.lines (k - many) no_ghost low; stands = ap (λ (v : Vertex). v.0) (sym (right_is k high inside)) ∙ played.places.stands x k no_vertex at }

  -- who owns what stands at a place
  pub owner_there : (x k : ℕ) → place_of_vertex l.places x ≡ Some k → k < many → (x < size st.graph) × (st.owner x ≡ me.0)
  owner_there x k at low =
      let own = own_at x k at low in
      (subst (λ (y : ℕ). y < size st.graph) own.stands own.line.low, subst (λ (y : ℕ). st.owner y ≡ me.0) own.stands own.line.own)

  pub ghost_there : (x k : ℕ) → place_of_vertex l.places x ≡ Some k → many ≤ k → (x < size st.graph) × (is_ghost_of st me.0 x ≡ true)
  ghost_there x k at high =
      let ghost = ghost_at x k at high in
      (subst (λ (y : ℕ). y < size st.graph) ghost.stands ghost.line.low, subst (λ (y : ℕ). is_ghost_of st me.0 y ≡ true) ghost.stands ghost.line.is)

  not_ghost : (x : ℕ) → st.owner x ≡ me.0 → is_ghost_of st me.0 x ≡ false
  not_ghost x own = ap (λ b. not b && list_any (λ u. st.owner u == me.0) (neighbours_of st.graph x)) (eq-eqb (st.owner x) me.0 own)

  -- an own vertex of the graph has its place
  abbrev owned_there : (x : ℕ) → Type 0
  owned_there x = (k : ℕ) × (place_of_vertex l.places x ≡ Some k) × (k < many)

  pub own_placed : (x : ℕ) → x < size st.graph → st.owner x ≡ me.0 → owned_there x
  own_placed x low own =
      let passes : is_in (owner_numbers st) me.0 x ≡ true = in_is st me.0 mine ghosts is are.lines x low ∙ eq-eqb (st.owner x) me.0 own in
      let found = found_with (is_in (owner_numbers st) me.0) (λ y. y == x) 0 (size st.graph) x (omega arith) (omega arith) passes (eq-eqb x x refl) in
      let numbers = own_numbers st me.0 mine ghosts is are.lines in
      let listed : list_any (λ (v : VertexLine). v.vertex.0 == x) mine ≡ true =
      sym (any_mapped (λ (y : ℕ). y == x) (λ (v : VertexLine). v.vertex.0) mine) ∙ ap (list_any (λ (y : ℕ). y == x)) numbers ∙ found in
      let ordered : list_any (λ (v : VertexLine). v.vertex.0 == x) order ≡ true = sym (list_any-IsPermutation (λ (v : VertexLine). v.vertex.0 == x) mine order played.same) ∙ listed in
      let any = Any-from_list_any (λ (v : VertexLine). v.vertex.0 == x) order ordered in
      let j = any.0 in
      let line = any.1 in
      let inside : j < many = any.2 in
      let at_j : get_or known j no_vertex ≡ line.vertex = left_is j inside ∙ ap (λ (v : VertexLine). v.vertex) (get_or_default order j no_line line inside ∙ any.3) in
      let named : (get_or known j no_vertex).0 ≡ x = ap (λ (v : Vertex). v.0) at_j ∙ eqb-true line.vertex.0 x any.4 in
      let some = subst (λ (y : ℕ). is_some (place_of_vertex l.places y) ≡ true) named (played.places.placed j no_vertex (omega (arith, length-known))) in
      let k = (some_place (place_of_vertex l.places x) some).0 in
      let at = (some_place (place_of_vertex l.places x) some).1 in
      elim (cases_lt k many) as (λ _. owned_there x) [
        | inl inside_own ↦ (k, at, inside_own)
        | inr past ↦ absurd (true≢false (sym (ghost_there x k at past).1 ∙ not_ghost x own))
      ]

  -- and so has a ghost
  pub ghost_placed : (x : ℕ) → x < size st.graph → is_ghost_of st me.0 x ≡ true → is_some (place_of_vertex l.places x) ≡ true
  ghost_placed x low ghost =
      let passes : is_ghost st.graph (owner_numbers st) me.0 x ≡ true = ghost_is st me.0 mine ghosts is are.lines x low ∙ ghost in
      let found = found_with (is_ghost st.graph (owner_numbers st) me.0) (λ y. y == x) 0 (size st.graph) x (omega arith) (omega arith) passes (eq-eqb x x refl) in
      let numbers = ghost_numbers st me.0 mine ghosts is are.lines in
      let listed : list_any (λ (g : GhostLine). g.vertex.0 == x) ghosts ≡ true =
      sym (any_mapped (λ (y : ℕ). y == x) (λ (g : GhostLine). g.vertex.0) ghosts) ∙ ap (list_any (λ (y : ℕ). y == x)) numbers ∙ found in
      let any = Any-from_list_any (λ (g : GhostLine). g.vertex.0 == x) ghosts listed in
      let j = any.0 in
      let line = any.1 in
      let inside : j < length ghosts = any.2 in
      let sub : many + j - many ≡ j = omega arith in
      let at_j : get_or known (many + j) no_vertex ≡ line.vertex = right_is (many + j) (omega arith) (omega (arith, length-known)) ∙ ap (λ (i : ℕ). (get_or ghosts i no_ghost).vertex) sub ∙ ap (λ (g : GhostLine). g.vertex) (get_or_default ghosts j no_ghost line inside ∙ any.3) in
      let named : (get_or known (many + j) no_vertex).0 ≡ x = ap (λ (v : Vertex). v.0) at_j ∙ eqb-true line.vertex.0 x any.4 in
      subst (λ (y : ℕ). is_some (place_of_vertex l.places y) ≡ true) named (played.places.placed (many + j) no_vertex (omega (arith, length-known)))

  -- ---- which vertices are its own, and which are known

  got_own : (o : Option ℕ) (k : ℕ) → o ≡ Some k → k < many → is_some (got_at l.kept o) ≡ true
  got_own o k at low =
      ap (λ p. is_some (got_at l.kept p)) at ∙ ap is_some (slice_get-get_or l.kept k no_datum (omega (arith, many_kept)))

  own_place : (o : Option ℕ) (k : ℕ) → o ≡ Some k → is_some (got_at l.kept o) ≡ true → k < many
  own_place o k at own = elim (cases_lt k many) [
    | inl low ↦ low
    | inr past ↦ absurd (true≢false (sym own ∙ ap (λ p. is_some (got_at l.kept p)) at ∙ ap is_some (slice_get_past l.kept k (omega (arith, many_kept)))))
  ]

  own_some : (o : Option ℕ) → is_some (got_at l.kept o) ≡ true → is_some o ≡ true
  own_some None own = own
  own_some (Some k) own = refl

  -- the place of an own vertex
  pub place_of_own : (x : ℕ) → is_own l x ≡ true → owned_there x
  place_of_own x own =
      let some = some_place (place_of_vertex l.places x) (own_some (place_of_vertex l.places x) own) in
      (some.0, some.1, own_place (place_of_vertex l.places x) some.0 some.1 own)

  pub own_facts : (x : ℕ) → is_own l x ≡ true → (x < size st.graph) × (st.owner x ≡ me.0)
  own_facts x own = let p = place_of_own x own in owner_there x p.0 p.1 p.2

  pub is_own_from : (x : ℕ) → x < size st.graph → st.owner x ≡ me.0 → is_own l x ≡ true
  is_own_from x low own = let p = own_placed x low own in got_own (place_of_vertex l.places x) p.0 p.1 p.2

  pub own_is : (x : ℕ) → is_own l x ≡ (nat_lt x (size st.graph) && st.owner x == me.0)
  own_is x = same_truth (is_own l x) (nat_lt x (size st.graph) && st.owner x == me.0)
      (λ own. let f = own_facts x own in ap (λ b. b && st.owner x == me.0) (lt-ltb x (size st.graph) f.0) ∙ eq-eqb (st.owner x) me.0 f.1)
      (λ both. is_own_from x (lt_from x (size st.graph) (and_left (nat_lt x (size st.graph)) (st.owner x == me.0) both)) (eqb-true (st.owner x) me.0 (and_right (nat_lt x (size st.graph)) (st.owner x == me.0) both)))

  or_cases : (a b : Bool) → (a || b) ≡ true → (a ≡ true) ⊎ (b ≡ true)
  or_cases true b is = inl refl
  or_cases false b is = inr is

  or_true : (b : Bool) → (b || true) ≡ true
  or_true true = refl
  or_true false = refl

  pub known_is : (x : ℕ) → is_placed l x ≡ (nat_lt x (size st.graph) && (st.owner x == me.0 || is_ghost_of st me.0 x))
  known_is x = same_truth (is_placed l x) (nat_lt x (size st.graph) && (st.owner x == me.0 || is_ghost_of st me.0 x))
      (λ known_x.
      let p = some_place (place_of_vertex l.places x) known_x in
      elim (cases_lt p.0 many) as (λ _. (nat_lt x (size st.graph) && (st.owner x == me.0 || is_ghost_of st me.0 x)) ≡ true) [
        | inl low ↦
            let f = owner_there x p.0 p.1 low in
            ap (λ b. b && (st.owner x == me.0 || is_ghost_of st me.0 x)) (lt-ltb x (size st.graph) f.0) ∙ ap (λ b. b || is_ghost_of st me.0 x) (eq-eqb (st.owner x) me.0 f.1)
        | inr high ↦
            let f = ghost_there x p.0 p.1 high in
            ap (λ b. b && (st.owner x == me.0 || is_ghost_of st me.0 x)) (lt-ltb x (size st.graph) f.0) ∙ ap (λ b. st.owner x == me.0 || b) f.1 ∙ or_true (st.owner x == me.0)
      ])
      (λ both.
      let low = lt_from x (size st.graph) (and_left (nat_lt x (size st.graph)) (st.owner x == me.0 || is_ghost_of st me.0 x) both) in
      elim (or_cases (st.owner x == me.0) (is_ghost_of st me.0 x) (and_right (nat_lt x (size st.graph)) (st.owner x == me.0 || is_ghost_of st me.0 x) both)) as (λ _. is_placed l x ≡ true) [
        | inl own ↦ let p = own_placed x low (eqb-true (st.owner x) me.0 own) in ap is_some p.1
        | inr ghost ↦ ghost_placed x low ghost
      ])

  pub id_is : (x : ℕ) → is_own l x ≡ true → id_at l x ≡ slice_index st.graph.ids x
  id_is x own =
      let p = place_of_own x own in
      let line = own_at x p.0 p.1 p.2 in
      ap (λ o. at_place l.ids o 0) p.1 ∙ ap (λ (ids : List ℕ). get_or ids p.0 0) played.ids ∙ get_or-map (λ (v : VertexLine). v.id) order p.0 no_line 0 p.2
      ∙ line.line.id ∙ ap (λ (y : ℕ). slice_index st.graph.ids y) line.stands

  numbers_of_lines : (vs : List VertexLine) → numbers_of (map (λ (v : VertexLine). v.vertex) vs) ≡ map (λ (v : VertexLine). v.vertex.0) vs
  numbers_of_lines [] = refl
  numbers_of_lines (v ∷ vs) = ap (λ (ys : List ℕ). v.vertex.0 ∷ ys) (numbers_of_lines vs)

  pub owned_list : numbers_of l.owned ≡ filter (is_in (owner_numbers st) me.0) (range_with_len 0 (size st.graph))
  owned_list = ap numbers_of played.owned ∙ numbers_of_lines mine ∙ own_numbers st me.0 mine ghosts is are.lines

  pub owned_is : numbers_of l.owned ≡ all_passing (λ x. st.owner x == me.0) 0 (size st.graph)
  owned_is = owned_list ∙ filter_passing (is_in (owner_numbers st) me.0) (λ x. st.owner x == me.0) 0 (size st.graph) (λ x low high. in_is st me.0 mine ghosts is are.lines x (omega arith))

  pub ghosts_is : map (λ (g : GhostLine). g.vertex.0) l.ghosts ≡ all_passing (is_ghost_of st me.0) 0 (size st.graph)
  ghosts_is =
      ap (map (λ (g : GhostLine). g.vertex.0)) played.ghosts ∙ ghost_numbers st me.0 mine ghosts is are.lines
      ∙ filter_passing (is_ghost st.graph (owner_numbers st) me.0) (is_ghost_of st me.0) 0 (size st.graph) (λ x low high. ghost_is st me.0 mine ghosts is are.lines x (omega arith))
