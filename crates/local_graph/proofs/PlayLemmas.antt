-- What was made by place is what `play` promises by vertex.
use Rattle.std.proofs.Common.{◌≡◌, ℕ, ◌+◌, ◌<◌, ◌==◌, ◌&&◌, ◌||◌, ◌++◌, Bool, true, false, if◌then◌else◌, min, nat_lt, Result, Ok, Err, IfOk, Option, Some, None, is_some, List, [], ◌∷◌, length, get_or, slice_get, map, replicate, refl, sym, ap, ◌∙◌, subst, All, arith, inl, inr}
use Rattle.std.specs.List.{filter, list_any, range_with_len}
use Rattle.std.specs.List.Sorted.{IsPermutation}
use Rattle.std.proofs.lemmas.Bool.{cases_lt, le-ltb, lt-ltb, true≢false}
use Rattle.std.proofs.lemmas.Option.{slice_get-get_or, slice_get_past}
use Rattle.std.proofs.lemmas.List.{length-append, length-map, length-replicate, get_or_past, get_or_append_left, get_or-map}
use Rattle.std.proofs.lemmas.List.FromFn.{get_or-map-range_with_len, length-map-range_with_len, length-range_with_len}
use Rattle.std.proofs.lemmas.List.Folds.{list_any-append}
use Rattle.std.proofs.lemmas.List.Sorted.{All-permutation, IsPermutation-sym}
use Rattle.std.proofs.lemmas.List.Elements.{All-nil, All-cons, All-map, All-filter, All-head, All-tail}
use Rattle.gl_base.specs.declared.atoms.EdgeLine.{EdgeLine}
use Rattle.gl_base.specs.declared.atoms.GhostLine.{GhostLine}
use Rattle.gl_base.specs.declared.atoms.VertexLine.{VertexLine}
use Rattle.gl_base.specs.declared.numbers.MachineNo.{MachineNo}
use Rattle.gl_base.specs.declared.numbers.Vertex.{Vertex}
use Rattle.graph_core.specs.declared.halves.Half.{Half}
use Rattle.graph_core.specs.Growth.{numbers_of}
use Rattle.graph_core.specs.Rows.{with_key}
use Rattle.local_graph.specs.declared.making.ByPlace.{ByPlace}
use Rattle.local_graph.specs.declared.outlines.Outline.{Outline}
use Rattle.local_graph.specs.declared.playing.Beside.{Beside}
use Rattle.local_graph.specs.declared.sides.Side.{Side}
use Rattle.local_graph.specs.Lines.{half_of_line, halves_of_lines, line_out, line_into, links_from}
use Rattle.local_graph.specs.Locals.{LocalView, AreTheirPlaces, at_place, got_at, place_of_vertex, is_own, links_at, sides_at, parts_at, part_at, machine_numbers}
use Rattle.local_graph.specs.Played.{IsMadeOf, IsSideTo, leads_to, meets, no_datum, side_of, sides_kept}
use Rattle.local_graph.specs.Inner.AtPlaces.{halves_known, links_known, stands_near, machines_of, scope_numbers, sides_known}
use Rattle.local_graph.specs.Inner.Beside.{AreBeside}
use Rattle.local_graph.specs.Inner.ByPlace.{AreMadeTo, AreRowsOf, HaveEdgesBelow, LeadBack, known_vertices}
use Rattle.local_graph.specs.Inner.Ends.{end_pairs}
use Rattle.local_graph.specs.Inner.Kept.{IsWellKept}
use Rattle.local_graph.specs.Inner.Ways.{rows_in}
use Rattle.update_api.specs.declared.links.Link.{Link}
use Rattle.local_graph.proofs.EndLemmas.{ends_at}
use Rattle.local_graph.proofs.ListLemmas.{kept_all, length-links}
use Rattle.local_graph.proofs.RowLemmas.{own_place}
use Rattle.local_graph.proofs.ScopeLemmas.{kept_any, sides_lead}
use Rattle.local_graph.proofs.WayLemmas.{all_in}

-- the lists as they were made by place, from vertices and ghosts and the half-edges at each vertex
pub record IsMade (me : MachineNo) (own : List VertexLine) (ghosts : List GhostLine) (outline : Outline) (halves : List (List Half)) (order : List VertexLine) (l : LocalView) : Type 0 where
  pub machine : l.me ≡ me
  pub owned : l.owned ≡ map (λ v. v.vertex) own
  pub are_ghosts : l.ghosts ≡ ghosts
  pub same : IsPermutation own order
  pub places : AreTheirPlaces l.places (known_vertices order ghosts)
  pub below : All (λ v. v.0 < outline.vertices) (known_vertices order ghosts)
  pub ids : l.ids ≡ map (λ v. v.id) order
  pub kept : l.kept ≡ replicate (length order) no_datum
  pub links : l.links ≡ map (links_known halves (known_vertices order ghosts)) (range_with_len 0 (length order))
  pub rows : l.rows ≡ map (λ k. Some (links_known halves (known_vertices order ghosts) k)) (range_with_len 0 (length order))
  pub parts : l.parts ≡ map (λ k. machines_of me outline.machines (sides_known (side_of me (length order) ghosts l.places) (length order) halves (known_vertices order ghosts) k)) (range_with_len 0 (length order))
  pub sides : l.sides ≡ map (sides_known (side_of me (length order) ghosts l.places) (length order) halves (known_vertices order ghosts)) (range_with_len 0 (length (known_vertices order ghosts)))
  pub part : map numbers_of l.part ≡ map (λ k. scope_numbers l.owned (get_or (known_vertices order ghosts) k (record { 0 = 0 })).0 (sides_known (side_of me (length order) ghosts l.places) (length order) halves (known_vertices order ghosts) k)) (range_with_len 0 (length (known_vertices order ghosts)))
  pub numbers : l.numbers ≡ replicate outline.edges 0

-- the lists with these parts
abbrev pub joined : MachineNo → List Vertex → List (Option ℕ) → ByPlace → Beside → LocalView
joined me owned places lists beside =
    record {
      me = me;
      owned = owned;
      ghosts = beside.ghosts.items;
      places = places;
      ids = beside.ids.items;
      kept = beside.kept.items;
      rows = rows_in beside.outs.items lists.links;
      links = lists.links;
      sides = lists.sides;
      parts = lists.parts;
      part = lists.part;
      numbers = beside.numbers;
    }

pub joined_made : (me : MachineNo) (own : List VertexLine) (ghosts : List GhostLine) (outline : Outline) (halves : List (List Half)) (order : List VertexLine) (known owned : List Vertex) (places : List (Option ℕ)) (lists : ByPlace) (beside : Beside)
    → known ≡ known_vertices order ghosts → owned ≡ map (λ v. v.vertex) own → IsPermutation own order → AreTheirPlaces places known → All (λ v. v.0 < outline.vertices) known
    → AreMadeTo (side_of me (length order) ghosts places) (length order) me outline.machines halves known owned (length order) (length known) lists → AreBeside ghosts order outline.edges beside
    → IsMade me own ghosts outline halves order (joined me owned places lists beside)
joined_made me own ghosts outline halves order known owned places lists beside is is_owned same stand below made are =
    let made_there = subst (λ (ks : List Vertex). AreMadeTo (side_of me (length order) ghosts places) (length order) me outline.machines halves ks owned (length order) (length ks) lists) is made in
    record {
      machine = refl;
      owned = is_owned;
      are_ghosts = are.ghosts_are;
      same = same;
      places = subst (AreTheirPlaces places) is stand;
      below = subst (All (λ (v : Vertex). v.0 < outline.vertices)) is below;
      ids = are.ids;
      kept = are.kept;
      links = made_there.links;
      rows = ap (λ (os : List Bool). rows_in os lists.links) (are.outs ∙ ap (λ (n : ℕ). replicate n false) (sym (length-range_with_len 0 (length order))))
          ∙ ap (rows_in (replicate (length (range_with_len 0 (length order))) false)) made_there.links
          ∙ all_in (links_known halves (known_vertices order ghosts)) (range_with_len 0 (length order));
      parts = made_there.parts;
      sides = made_there.sides;
      part = made_there.part;
      numbers = are.numbers;
    }

-- what follows of what was made
pub ok_to : {X E : Type 0} (r : Result X E) (P Q : X → Type 0) → ((x : X) → P x → Q x) → IfOk r P → IfOk r Q
ok_to (Ok x) P Q to is = to x is
ok_to (Err e) P Q to is = tt

some_place : (o : Option ℕ) → is_some o ≡ true → (k : ℕ) × (o ≡ Some k)
some_place None is = absurd (true≢false (sym is))
some_place (Some k) is = (k, refl)

abbrev no_vertex : Vertex
no_vertex = record { 0 = 0 }

numbers_back : (xs : List ℕ) → machine_numbers (map (λ a. record { 0 = a }) xs) ≡ xs
numbers_back [] = refl
numbers_back (x ∷ xs) = ap (λ (ys : List ℕ). x ∷ ys) (numbers_back xs)

filter_same : {X : Type 0} (p q : X → Bool) (xs : List X) → All (λ x. p x ≡ q x) xs → filter p xs ≡ filter q xs
filter_same p q [] same = refl
filter_same {X} p q (x ∷ xs) same =
    ap (λ b. if b then x ∷ filter p xs else filter p xs) (All-head (λ (y : X). p y ≡ q y) x xs same)
    ∙ here (q x) (filter_same p q xs (All-tail (λ (y : X). p y ≡ q y) x xs same))
  where
    here : (b : Bool) → filter p xs ≡ filter q xs → (if b then x ∷ filter p xs else filter p xs) ≡ (if b then x ∷ filter q xs else filter q xs)
    here true rest = ap (λ (ys : List X). x ∷ ys) rest
    here false rest = rest

-- what holds of each item holds of those with a key
all_keyed : {X : Type 0} (P : X → Type 0) (k : ℕ) (pairs : List (ℕ × X)) → All (λ (p : ℕ × X). P p.1) pairs → All P (with_key k pairs)
all_keyed {X} P k pairs all = All-map P (λ (p : ℕ × X). p.1) (filter (λ (p : ℕ × X). p.0 == k) pairs) (All-filter (λ (p : ℕ × X). p.0 == k) (λ (p : ℕ × X). P p.1) pairs all)

-- the half-edges of lines have their edges
ends_listed : (directed : Bool) (none m : ℕ) (edges : List EdgeLine) → All (λ e. e.edge.0 < m) edges → All (λ (p : ℕ × Half). p.1.edge.0 < m) (end_pairs directed none edges)
ends_listed directed none m [] all = All-nil (λ (p : ℕ × Half). p.1.edge.0 < m)
ends_listed directed none m (e ∷ edges) all =
    let here = All-head (λ (e : EdgeLine). e.edge.0 < m) e edges all in
    let rest = ends_listed directed none m edges (All-tail (λ (e : EdgeLine). e.edge.0 < m) e edges all) in
    let more = end_pairs directed none edges in
    let out : ℕ × Half = (min e.from.0 none, line_out directed e) in
    let into : ℕ × Half = (min e.to.0 none, line_into directed e) in
    All-cons (λ (p : ℕ × Half). p.1.edge.0 < m) out (into ∷ more) here (All-cons (λ (p : ℕ × Half). p.1.edge.0 < m) into more here rest)

pub halves_listed : (directed : Bool) (m v : ℕ) (edges : List EdgeLine) → All (λ e. e.edge.0 < m) edges → All (λ (h : Half). h.edge.0 < m) (halves_of_lines directed edges v)
halves_listed directed m v edges all =
    subst (All (λ (h : Half). h.edge.0 < m)) (ends_at directed (v + 1) v edges (omega arith))
    (all_keyed (λ (h : Half). h.edge.0 < m) v (end_pairs directed (v + 1) edges) (ends_listed directed (v + 1) m edges all))

-- ---- whoever has a neighbour is its neighbour

if_any : {X : Type 0} (p : X → Bool) (b : Bool) (x : X) → list_any p (if b then x ∷ [] else []) ≡ (b && p x)
if_any p false x = refl
if_any p true x = or_none (p x)
  where
    or_none : (c : Bool) → (c || false) ≡ c
    or_none true = refl
    or_none false = refl

-- the edge of a line leads from v to x as often as from x to v
line_back : (directed : Bool) (e : EdgeLine) (v x : ℕ) → list_any (λ (h : Half). h.other.0 == x) (half_of_line directed v e) ≡ list_any (λ (h : Half). h.other.0 == v) (half_of_line directed x e)
line_back directed e v x =
    there v x ∙ swapped (e.from.0 == v) (e.to.0 == x) (e.to.0 == v) (e.from.0 == x) ∙ sym (there x v)
  where
    there : (v x : ℕ) → list_any (λ (h : Half). h.other.0 == x) (half_of_line directed v e) ≡ ((e.from.0 == v && e.to.0 == x) || (e.to.0 == v && e.from.0 == x))
    there v x =
        let p : Half → Bool = λ h. h.other.0 == x in
        let out : List Half = if e.from.0 == v then line_out directed e ∷ [] else [] in
        let into : List Half = if e.to.0 == v then line_into directed e ∷ [] else [] in
        list_any-append p out into
        ∙ ap (λ b. b || list_any p into) (if_any p (e.from.0 == v) (line_out directed e))
        ∙ ap (λ b. (e.from.0 == v && e.to.0 == x) || b) (if_any p (e.to.0 == v) (line_into directed e))

    swapped : (a b c d : Bool) → ((a && b) || (c && d)) ≡ ((d && c) || (b && a))
    swapped true true true true = refl
    swapped true true true false = refl
    swapped true true false true = refl
    swapped true true false false = refl
    swapped true false true true = refl
    swapped true false true false = refl
    swapped true false false true = refl
    swapped true false false false = refl
    swapped false true true true = refl
    swapped false true true false = refl
    swapped false true false true = refl
    swapped false true false false = refl
    swapped false false true true = refl
    swapped false false true false = refl
    swapped false false false true = refl
    swapped false false false false = refl

pub halves_back : (directed : Bool) (edges : List EdgeLine) (v x : ℕ) → list_any (λ (h : Half). h.other.0 == x) (halves_of_lines directed edges v) ≡ list_any (λ (h : Half). h.other.0 == v) (halves_of_lines directed edges x)
halves_back directed [] v x = refl
halves_back directed (e ∷ edges) v x =
    list_any-append (λ (h : Half). h.other.0 == x) (half_of_line directed v e) (halves_of_lines directed edges v)
    ∙ ap (λ b. b || list_any (λ (h : Half). h.other.0 == x) (halves_of_lines directed edges v)) (line_back directed e v x)
    ∙ ap (λ b. list_any (λ (h : Half). h.other.0 == v) (half_of_line directed x e) || b) (halves_back directed edges v x)
    ∙ sym (list_any-append (λ (h : Half). h.other.0 == v) (half_of_line directed x e) (halves_of_lines directed edges x))

module _ (me : MachineNo) (own : List VertexLine) (ghosts : List GhostLine) (outline : Outline) (halves : List (List Half)) (order : List VertexLine) (l : LocalView) (made : IsMade me own ghosts outline halves order l) where
  abbrev known : List Vertex
  known = known_vertices order ghosts

  abbrev as_side : Half → Side
  as_side = side_of me (length order) ghosts l.places

  long : length known ≡ length order + length ghosts
  long =
      length-append (map (λ (v : VertexLine). v.vertex) order) (map (λ (g : GhostLine). g.vertex) ghosts)
      ∙ ap (λ (n : ℕ). n + length (map (λ (g : GhostLine). g.vertex) ghosts)) (length-map order (λ (v : VertexLine). v.vertex))
      ∙ ap (λ (n : ℕ). length order + n) (length-map ghosts (λ (g : GhostLine). g.vertex))

  many_kept : length l.kept ≡ length order
  many_kept = ap length made.kept ∙ length-replicate (length order) no_datum

  apart : (x y k : ℕ) → place_of_vertex l.places x ≡ Some k → place_of_vertex l.places y ≡ Some k → x ≡ y
  apart x y k here there = sym (made.places.stands x k no_vertex here) ∙ made.places.stands y k no_vertex there

  own_inside : (v k : ℕ) → place_of_vertex l.places v ≡ Some k → is_own l v ≡ true → k < length order
  own_inside v k at own = subst (λ (n : ℕ). k < n) many_kept (own_place l.kept (place_of_vertex l.places v) k at own)

  sides_here : (k : ℕ) → k < length known → get_or l.sides k [] ≡ sides_known as_side (length order) halves known k
  sides_here k low =
      ap (λ (ss : List (List Side)). get_or ss k []) made.sides ∙ get_or-map-range_with_len (sides_known as_side (length order) halves known) 0 (length known) k k [] low (omega arith)

  -- the half-edges at the vertex with place k
  halves_here : (v k : ℕ) → place_of_vertex l.places v ≡ Some k → halves_known halves known k ≡ get_or halves v []
  halves_here v k at = ap (λ (n : ℕ). get_or halves n []) (made.places.stands v k no_vertex at)

  sides_there : (v k : ℕ) → place_of_vertex l.places v ≡ Some k → sides_at l v ≡ sides_known as_side (length order) halves known k
  sides_there v k at = ap (λ o. at_place l.sides o []) at ∙ sides_here k (made.places.inside v k at)

  sides_are : (v k : ℕ) → place_of_vertex l.places v ≡ Some k → sides_at l v ≡ sides_kept (nat_lt k (length order)) (length order) (map as_side (get_or halves v []))
  sides_are v k at = sides_there v k at ∙ ap (λ (hs : List Half). sides_kept (nat_lt k (length order)) (length order) (map as_side hs)) (halves_here v k at)

  own_at : (v k : ℕ) → place_of_vertex l.places v ≡ Some k → is_own l v ≡ nat_lt k (length order)
  own_at v k at =
      ap (λ o. is_some (got_at l.kept o)) at
      ∙ elim (cases_lt k (length order)) as (λ _. is_some (slice_get l.kept k) ≡ nat_lt k (length order)) [
        | inl low ↦ ap is_some (slice_get-get_or l.kept k no_datum (omega (arith, many_kept))) ∙ sym (lt-ltb k (length order) low)
        | inr past ↦ ap is_some (slice_get_past l.kept k (omega (arith, many_kept))) ∙ sym (le-ltb k (length order) past)
      ]

  row_is : (v k : ℕ) → place_of_vertex l.places v ≡ Some k → k < length order → links_at l v ≡ Some (links_from 0 (get_or halves v []))
  row_is v k at low =
      ap (λ o. at_place l.rows o None) at
      ∙ ap (λ rows. get_or rows k None) made.rows ∙ get_or-map-range_with_len (λ j. Some (links_known halves known j)) 0 (length order) k k None low (omega arith)
      ∙ ap (λ (hs : List Half). Some (links_from 0 hs)) (halves_here v k at)

  parts_is : (v k : ℕ) → place_of_vertex l.places v ≡ Some k → k < length order → machine_numbers (parts_at l v) ≡ filter (meets me (sides_at l v)) (range_with_len 0 outline.machines)
  parts_is v k at low =
      let all : ℕ → List MachineNo = λ j. machines_of me outline.machines (sides_known as_side (length order) halves known j) in
      ap (λ o. machine_numbers (at_place l.parts o [])) at
      ∙ ap machine_numbers (ap (λ (ps : List (List MachineNo)). get_or ps k []) made.parts ∙ get_or-map-range_with_len all 0 (length order) k k [] low (omega arith))
      ∙ numbers_back (filter (meets me (sides_known as_side (length order) halves known k)) (range_with_len 0 outline.machines))
      ∙ ap (λ (ss : List Side). filter (meets me ss) (range_with_len 0 outline.machines)) (sym (sides_there v k at))

  scope_at : (v k : ℕ) → place_of_vertex l.places v ≡ Some k → numbers_of (part_at l v) ≡ scope_numbers l.owned v (sides_at l v)
  scope_at v k at =
      let low = made.places.inside v k at in
      let all : ℕ → List ℕ = λ j. scope_numbers l.owned (get_or known j no_vertex).0 (sides_known as_side (length order) halves known j) in
      let many : length l.part ≡ length known = sym (length-map l.part numbers_of) ∙ ap length made.part ∙ length-map-range_with_len all 0 (length known) in
      ap (λ o. numbers_of (at_place l.part o [])) at
      ∙ sym (get_or-map numbers_of l.part k [] [] (omega arith))
      ∙ ap (λ (ns : List (List ℕ)). get_or ns k []) made.part ∙ get_or-map-range_with_len all 0 (length known) k k [] low (omega arith)
      ∙ ap (λ (n : ℕ). scope_numbers l.owned n (sides_known as_side (length order) halves known k)) (made.places.stands v k no_vertex at)
      ∙ ap (scope_numbers l.owned v) (sym (sides_there v k at))

  order_known : All (λ (v : VertexLine). is_some (place_of_vertex l.places v.vertex.0) ≡ true) order
  order_known = λ k d low.
      let vs = map (λ (v : VertexLine). v.vertex) order in
      let gs = map (λ (g : GhostLine). g.vertex) ghosts in
      let within : k < length vs = omega (arith, length-map order (λ (v : VertexLine). v.vertex)) in
      let read : get_or (vs ++ gs) k d.vertex ≡ (get_or order k d).vertex = get_or_append_left vs gs d.vertex k within ∙ get_or-map (λ (v : VertexLine). v.vertex) order k d d.vertex low in
      subst (λ (v : Vertex). is_some (place_of_vertex l.places v.0) ≡ true) read
      (made.places.placed k d.vertex (omega (arith, length-append vs gs)))

  owned_known : All (λ (x : ℕ). is_some (place_of_vertex l.places x) ≡ true) (numbers_of l.owned)
  owned_known =
      All-map (λ (x : ℕ). is_some (place_of_vertex l.places x) ≡ true) (λ (v : Vertex). v.0) l.owned
      (subst (All (λ (v : Vertex). is_some (place_of_vertex l.places v.0) ≡ true)) (sym made.owned)
      (All-map (λ (v : Vertex). is_some (place_of_vertex l.places v.0) ≡ true) (λ (v : VertexLine). v.vertex) own
      (All-permutation (λ (v : VertexLine). is_some (place_of_vertex l.places v.vertex.0) ≡ true) order own (IsPermutation-sym own order made.same) order_known)))

  -- a vertex with a place is below the number of vertices
  low : (v k : ℕ) → place_of_vertex l.places v ≡ Some k → v < outline.vertices
  low v k at = subst (λ (n : ℕ). n < outline.vertices) (made.places.stands v k no_vertex at) (made.below k no_vertex (made.places.inside v k at))

  -- the rows have these half-edges
  module _ (few : length order < 4294967295) (at_vertex : ℕ → List Half) (are : AreRowsOf at_vertex outline.vertices halves) (back : LeadBack at_vertex) where
    part_is : (v k : ℕ) → place_of_vertex l.places v ≡ Some k → numbers_of (part_at l v) ≡ filter (leads_to l v) (numbers_of l.owned)
    part_is v k at =
        scope_at v k at
        ∙ filter_same (stands_near v (sides_at l v)) (leads_to l v) (numbers_of l.owned) (λ i d inside. same (get_or (numbers_of l.owned) i d) (owned_known i d inside))
      where
        same : (x : ℕ) → is_some (place_of_vertex l.places x) ≡ true → stands_near v (sides_at l v) x ≡ leads_to l v x
        same x there =
            let p = some_place (place_of_vertex l.places x) there in
            let many = length order in
            ap (λ b. (x == v) || b)
            (ap (list_any (λ (s : Side). s.other.0 == x)) (sides_are v k at) ∙ kept_any me many ghosts l.places few (nat_lt k many) x p.0 p.1 (get_or halves v [])
            ∙ ap (λ b. (nat_lt k many || nat_lt p.0 many) && b)
            (ap (list_any (λ (h : Half). h.other.0 == x)) (are v (low v k at)) ∙ back v x ∙ ap (list_any (λ (h : Half). h.other.0 == v)) (sym (are x (low x p.0 p.1))))
            ∙ ap (λ b. b && list_any (λ (h : Half). h.other.0 == v) (get_or halves x [])) (or_turned (nat_lt k many) (nat_lt p.0 many))
            ∙ sym (ap (list_any (λ (s : Side). s.other.0 == v)) (sides_are x p.0 p.1) ∙ kept_any me many ghosts l.places few (nat_lt p.0 many) v k at (get_or halves x [])))
          where
            or_turned : (a b : Bool) → (a || b) ≡ (b || a)
            or_turned true true = refl
            or_turned true false = refl
            or_turned false true = refl
            or_turned false false = refl

    pub made_played : IsMadeOf me own ghosts at_vertex outline.machines outline.edges l
    made_played =
        record {
          machine = made.machine;
          owned = made.owned;
          ghosts = made.are_ghosts;
          order = order;
          same = made.same;
          places = made.places;
          ids = made.ids;
          kept = made.kept;
          sides = λ v placed. let p = some_place (place_of_vertex l.places v) placed in
              sides_are v p.0 p.1 ∙ ap (λ (hs : List Half). sides_kept (nat_lt p.0 (length order)) (length order) (map as_side hs)) (are v (low v p.0 p.1))
              ∙ ap (λ b. sides_kept b (length order) (map as_side (at_vertex v))) (sym (own_at v p.0 p.1));
          rows = λ v own. let p = some_place (place_of_vertex l.places v) (own_known v own) in
              row_is v p.0 p.1 (own_inside v p.0 p.1 own) ∙ ap (λ (hs : List Half). Some (links_from 0 hs)) (are v (low v p.0 p.1));
          parts = λ v own. let p = some_place (place_of_vertex l.places v) (own_known v own) in parts_is v p.0 p.1 (own_inside v p.0 p.1 own);
          part = λ v placed. let p = some_place (place_of_vertex l.places v) placed in part_is v p.0 p.1;
          numbers = made.numbers;
        }
      where
        own_some : (o : Option ℕ) → is_some (got_at l.kept o) ≡ true → is_some o ≡ true
        own_some None is = is
        own_some (Some k) is = refl

        own_known : (v : ℕ) → is_own l v ≡ true → is_some (place_of_vertex l.places v) ≡ true
        own_known v own = own_some (place_of_vertex l.places v) own

  pub made_sound : length known < 4294967295 → HaveEdgesBelow outline.vertices outline.edges halves → IsWellKept l
  made_sound few edges =
      record {
        inside = λ x k at. let inside = made.places.inside x k at in omega (arith, many_sides);
        apart = apart;
        own = omega (arith, many_kept, many_sides, long);
        part = sym (length-map l.part numbers_of) ∙ ap length made.part ∙ length-map-range_with_len (λ (j : ℕ). scope_numbers l.owned (get_or known j no_vertex).0 (sides_known as_side (length order) halves known j)) 0 (length known) ∙ sym many_sides;
        ids = ap length made.ids ∙ length-map order (λ (v : VertexLine). v.id) ∙ sym many_kept;
        rows = many_rows ∙ sym many_kept;
        parts = ap length made.parts ∙ length-map-range_with_len (λ (j : ℕ). machines_of me outline.machines (sides_known as_side (length order) halves known j)) 0 (length order) ∙ sym many_kept;
        links = many_links ∙ sym many_kept;
        same = λ k. elim (cases_lt k (length order)) [
          | inl inside ↦ λ there.
              ap (λ rows. get_or rows k None) made.rows ∙ get_or-map-range_with_len (λ j. Some (links_known halves known j)) 0 (length order) k k None inside (omega arith)
              ∙ ap (λ (ls : List Link). Some ls) (sym (links_here k inside))
          | inr past ↦ λ there. absurd (true≢false (sym there ∙ ap is_some (get_or_past l.rows k None (omega (arith, many_rows)))))
        ];
        fit = λ k inside.
            let own_low : k < length order = omega (arith, many_links) in
            let side_low : k < length known = omega (arith, long) in
            let all : sides_known as_side (length order) halves known k ≡ map as_side (halves_known halves known k) =
            ap (λ b. sides_kept b (length order) (map as_side (halves_known halves known k))) (lt-ltb k (length order) own_low) ∙ kept_all (length order) (map as_side (halves_known halves known k)) in
            let many : length (links_from 0 (halves_known halves known k)) ≡ length (get_or l.sides k []) =
            length-links 0 (halves_known halves known k) ∙ sym (ap length (sides_here k side_low ∙ all) ∙ length-map (halves_known halves known k) as_side) in
            ap length (links_here k own_low) ∙ many;
        edges = λ k. elim (cases_lt k (length known)) [
          | inl inside ↦
              let listed = subst (λ (m : ℕ). All (λ (h : Half). h.edge.0 < m) (halves_known halves known k)) (sym many_numbers) (edges (get_or known k no_vertex).0 (made.below k no_vertex inside)) in
              subst (All (λ (s : Side). s.edge.0 < length l.numbers)) (sym (sides_here k inside))
              (All-filter (λ (s : Side). nat_lt k (length order) || nat_lt s.place (length order)) (λ (s : Side). s.edge.0 < length l.numbers) (map as_side (halves_known halves known k))
              (All-map (λ (s : Side). s.edge.0 < length l.numbers) as_side (halves_known halves known k) listed))
          | inr past ↦ subst (All (λ (s : Side). s.edge.0 < length l.numbers)) (sym (get_or_past l.sides k [] (omega (arith, many_sides)))) (All-nil (λ (s : Side). s.edge.0 < length l.numbers))
        ];
        leads = λ k. elim (cases_lt k (length known)) [
          | inl inside ↦
              subst (All (IsSideTo l.places)) (sym (sides_here k inside))
              (All-filter (λ (s : Side). nat_lt k (length order) || nat_lt s.place (length order)) (IsSideTo l.places) (map as_side (halves_known halves known k))
              (sides_lead me (length order) ghosts l.places (halves_known halves known k)))
          | inr past ↦ subst (All (IsSideTo l.places)) (sym (get_or_past l.sides k [] (omega (arith, many_sides)))) (All-nil (IsSideTo l.places))
        ];
        few = omega (arith, many_sides);
      }
    where
      many_sides : length l.sides ≡ length known
      many_sides = ap length made.sides ∙ length-map-range_with_len (sides_known as_side (length order) halves known) 0 (length known)

      many_rows : length l.rows ≡ length order
      many_rows = ap length made.rows ∙ length-map-range_with_len (λ j. Some (links_known halves known j)) 0 (length order)

      many_links : length l.links ≡ length order
      many_links = ap length made.links ∙ length-map-range_with_len (links_known halves known) 0 (length order)

      links_here : (k : ℕ) → k < length order → get_or l.links k [] ≡ links_known halves known k
      links_here k low = ap (λ rows. get_or rows k []) made.links ∙ get_or-map-range_with_len (links_known halves known) 0 (length order) k k [] low (omega arith)

      many_numbers : length l.numbers ≡ outline.edges
      many_numbers = ap length made.numbers ∙ length-replicate outline.edges 0
