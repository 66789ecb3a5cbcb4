-- What the lines of a machine are.
use Rattle.std.proofs.Common.{◌≡◌, ℕ, ◌+◌, ◌<◌, ◌≤◌, ◌==◌, ◌&&◌, Bool, true, false, not, List, [], ◌∷◌, length, get_or, map, refl, sym, ap, ◌∙◌, subst, All, arith}
use Rattle.std.specs.Prelude.{slice_index}
use Rattle.std.specs.List.{filter, list_any, range_with_len}
use Rattle.std.proofs.lemmas.Bool.{eq-eqb, eqb-true, true≢false}
use Rattle.std.proofs.lemmas.List.{length-map}
use Rattle.std.proofs.lemmas.List.Elements.{All-map, All-filter}
use Rattle.std.proofs.lemmas.List.FromFn.{get_or-map-range_with_len, get_or-range_with_len, length-range_with_len}
use Rattle.gl_base.specs.declared.atoms.EdgeLine.{EdgeLine}
use Rattle.gl_base.specs.declared.atoms.GhostLine.{GhostLine}
use Rattle.gl_base.specs.declared.atoms.Lines.{Lines}
use Rattle.gl_base.specs.declared.atoms.VertexLine.{VertexLine}
use Rattle.graph_core.specs.Colourings.{joins}
use Rattle.graph_core.specs.DataGraph.{DataGraph, size}
use Rattle.graph_core.specs.Halves.{DataHalf, halves_of}
use Rattle.graph_core.specs.HalfRows.{data_half}
use Rattle.graph_core.specs.declared.halves.Half.{Half}
use Rattle.graph_core.specs.Neighbours.{neighbours_of}
use Rattle.graph_atoms.specs.atom_file.Atoms.{Atom}
use Rattle.graph_atoms.specs.atom_cut.Atoms.{edge_of, own_line, ghost_line, line_of_edge, is_in, is_ghost, touches, edge_lines}
use Rattle.local_graph.specs.declared.outlines.Outline.{Outline}
use Rattle.local_graph.specs.Lines.{half_of, halves_of_lines}
use Rattle.partition.specs.local_parts.Parts.{Setting, IsSetting, AreLinesOf, AreVerticesOf, CanBePlayed, graph_halves, owner_numbers, is_ghost_of}
use Rattle.partition.proofs.local_parts.RangeLemmas.{filter_mapped}
use Rattle.partition.proofs.local_parts.FoundLemmas.{passing_all, any_same, few_both, few_passing}
use Rattle.partition.proofs.local_parts.HalfLemmas.{graph_halves_of}
use Rattle.partition.proofs.local_parts.NearLemmas.{all_among}

-- the line of a vertex of machine me, and of a ghost of it
pub record IsOwnLine (st : Setting) (me : ℕ) (v : VertexLine) : Type 0 where
  pub low : v.vertex.0 < size st.graph
  pub own : st.owner v.vertex.0 ≡ me
  pub id : v.id ≡ slice_index st.graph.ids v.vertex.0

pub record IsGhostLine (st : Setting) (me : ℕ) (g : GhostLine) : Type 0 where
  pub low : g.vertex.0 < size st.graph
  pub is : is_ghost_of st me g.vertex.0 ≡ true
  pub owner : g.atom.0 ≡ st.owner g.vertex.0

numbers_same : (g : DataGraph) (xs : List ℕ) → map (λ (v : VertexLine). v.vertex.0) (map (own_line g) xs) ≡ xs
numbers_same g [] = refl
numbers_same g (x ∷ xs) = ap (λ (ys : List ℕ). x ∷ ys) (numbers_same g xs)

ghosts_same : (g : DataGraph) (of xs : List ℕ) → map (λ (v : GhostLine). v.vertex.0) (map (ghost_line g of) xs) ≡ xs
ghosts_same g of [] = refl
ghosts_same g of (x ∷ xs) = ap (λ (ys : List ℕ). x ∷ ys) (ghosts_same g of xs)

module _ (st : Setting) (me : ℕ) (mine : List VertexLine) (ghosts : List GhostLine) (is : IsSetting st) (are : AreVerticesOf st me mine ghosts) where
  abbrev owners : List ℕ
  owners = owner_numbers st

  owner_is : (x : ℕ) → x < size st.graph → slice_index owners x ≡ st.owner x
  owner_is x low = get_or-map-range_with_len st.owner 0 (size st.graph) x x 0 low (omega arith)

  pub in_is : (x : ℕ) → x < size st.graph → is_in owners me x ≡ (st.owner x == me)
  in_is x low = ap (λ (o : ℕ). o == me) (owner_is x low)

  pub vertices_are : mine ≡ map (own_line st.graph) (filter (is_in owners me) (range_with_len 0 (size st.graph)))
  vertices_are = are.vertices ∙ filter_mapped (λ (v : VertexLine). is_in owners me v.vertex.0) (own_line st.graph) (range_with_len 0 (size st.graph))

  pub ghosts_are : ghosts ≡ map (ghost_line st.graph owners) (filter (is_ghost st.graph owners me) (range_with_len 0 (size st.graph)))
  ghosts_are = are.beside ∙ filter_mapped (λ (v : GhostLine). is_ghost st.graph owners me v.vertex.0) (ghost_line st.graph owners) (range_with_len 0 (size st.graph))

  pub own_numbers : map (λ (v : VertexLine). v.vertex.0) mine ≡ filter (is_in owners me) (range_with_len 0 (size st.graph))
  own_numbers = ap (map (λ (v : VertexLine). v.vertex.0)) vertices_are ∙ numbers_same st.graph (filter (is_in owners me) (range_with_len 0 (size st.graph)))

  pub ghost_numbers : map (λ (g : GhostLine). g.vertex.0) ghosts ≡ filter (is_ghost st.graph owners me) (range_with_len 0 (size st.graph))
  ghost_numbers = ap (map (λ (g : GhostLine). g.vertex.0)) ghosts_are ∙ ghosts_same st.graph owners (filter (is_ghost st.graph owners me) (range_with_len 0 (size st.graph)))

  abbrev neighbours_low : (x : ℕ) → Type 0
  neighbours_low x = All (λ u. is_in owners me u ≡ (st.owner u == me)) (neighbours_of st.graph x)

  near_in : (x : ℕ) → neighbours_low x
  near_in x = λ k d low. let p = passing_all (λ u. list_any (joins x u) st.graph.edges) 0 (size st.graph) (size st.graph) (omega arith) k d low in in_is (get_or (neighbours_of st.graph x) k d) p.low

  pub ghost_is : (x : ℕ) → x < size st.graph → is_ghost st.graph owners me x ≡ is_ghost_of st me x
  ghost_is x low =
      ap (λ b. not b && list_any (is_in owners me) (neighbours_of st.graph x)) (in_is x low)
      ∙ ap (λ b. not (st.owner x == me) && b) (any_same (is_in owners me) (λ u. st.owner u == me) (neighbours_of st.graph x) (near_in x))

  pub own_lines : All (IsOwnLine st me) mine
  own_lines =
      subst (All (IsOwnLine st me)) (sym vertices_are)
      (All-map (IsOwnLine st me) (own_line st.graph) (filter (is_in owners me) (range_with_len 0 (size st.graph)))
      (λ k d low.
      let p = passing_all (is_in owners me) 0 (size st.graph) (size st.graph) (omega arith) k d low in
      let x = get_or (filter (is_in owners me) (range_with_len 0 (size st.graph))) k d in
      record { low = p.low; own = eqb-true (st.owner x) me (sym (in_is x p.low) ∙ p.is); id = refl }))

  pub ghost_lines_are : All (IsGhostLine st me) ghosts
  ghost_lines_are =
      subst (All (IsGhostLine st me)) (sym ghosts_are)
      (All-map (IsGhostLine st me) (ghost_line st.graph owners) (filter (is_ghost st.graph owners me) (range_with_len 0 (size st.graph)))
      (λ k d low.
      let p = passing_all (is_ghost st.graph owners me) 0 (size st.graph) (size st.graph) (omega arith) k d low in
      let x = get_or (filter (is_ghost st.graph owners me) (range_with_len 0 (size st.graph))) k d in
      record { low = p.low; is = sym (ghost_is x p.low) ∙ p.is; owner = owner_is x p.low }))

  -- no vertex is both
  pub few_lines : length mine + length ghosts ≤ size st.graph
  few_lines =
      let both = few_both (is_in owners me) (is_ghost st.graph owners me) 0 (size st.graph) (λ x low high own ghost. not_both (is_in owners me x) (list_any (is_in owners me) (neighbours_of st.graph x)) own ghost) in
      let a : length mine ≡ length (filter (is_in owners me) (range_with_len 0 (size st.graph))) = ap length vertices_are ∙ length-map (filter (is_in owners me) (range_with_len 0 (size st.graph))) (own_line st.graph) in
      let b : length ghosts ≡ length (filter (is_ghost st.graph owners me) (range_with_len 0 (size st.graph))) = ap length ghosts_are ∙ length-map (filter (is_ghost st.graph owners me) (range_with_len 0 (size st.graph))) (ghost_line st.graph owners) in
      omega arith
    where
      not_both : (b c : Bool) → b ≡ true → (not b && c) ≡ true → ⊥
      not_both true c own ghost = true≢false (sym ghost)
      not_both false c own ghost = true≢false (sym own)

-- the lists of a machine, the half-edges at its vertices, and how many machines and edges there are
pub record AreListsOf (st : Setting) (me : ℕ) (mine : List VertexLine) (ghosts : List GhostLine) (halves : ℕ → List Half) (machines edges : ℕ) : Type 0 where
  pub lines : AreVerticesOf st me mine ghosts
  pub rows : (v : ℕ) → v < size st.graph → st.owner v ≡ me → map data_half (halves v) ≡ halves_of st.graph v
  pub count : machines ≡ st.machines
  pub as_many : edges ≡ length st.graph.edges

-- the half-edges of a graph are its own
pub lists_of_graph : (st : Setting) (me : ℕ) (mine : List VertexLine) (ghosts : List GhostLine) → AreVerticesOf st me mine ghosts → AreListsOf st me mine ghosts (graph_halves st.graph) st.machines (length st.graph.edges)
lists_of_graph st me mine ghosts are =
    record { lines = are; rows = λ v low own. back (halves_of st.graph v); count = refl; as_many = refl }
  where
    back : (ds : List DataHalf) → map data_half (map half_of ds) ≡ ds
    back [] = refl
    back (d ∷ ds) = ap (λ (gs : List DataHalf). d ∷ gs) (back ds)

-- ---- lines of all three kinds

module _ (st : Setting) (me : ℕ) (lines : Lines) (outline : Outline) (is : IsSetting st) (are : AreLinesOf st me lines outline) where
  pub lines_are : AreVerticesOf st me lines.vertices.items lines.ghosts.items
  lines_are = record { machine = are.machine; vertices = ap (λ (a : Atom). a.vertices) are.atom; beside = ap (λ (a : Atom). a.ghosts) are.atom }

  abbrev all_owners : List ℕ
  all_owners = owner_numbers st

  pub edges_are : lines.edges.items ≡ filter (touches all_owners me) (edge_lines st.graph (length st.graph.edges))
  edges_are = ap (λ (a : Atom). a.edges) are.atom

  -- the half-edges at an own vertex are those of the graph
  pub halves_are : (v : ℕ) → v < size st.graph → st.owner v ≡ me → map data_half (halves_of_lines outline.directed lines.edges.items v) ≡ halves_of st.graph v
  halves_are v low own =
      ap (λ b. map data_half (halves_of_lines b lines.edges.items v)) are.directed
      ∙ ap (λ (es : List EdgeLine). map data_half (halves_of_lines st.graph.directed es v)) edges_are
      ∙ graph_halves_of st.graph all_owners me v 0 st.graph.edges (in_is st me lines.vertices.items lines.ghosts.items is lines_are v low ∙ eq-eqb (st.owner v) me own)
      (λ i inside. let n : 0 + i ≡ i = omega arith in ap (edge_of st.graph) n)
      (λ k d inside. (all_among st.graph is.graph k d inside).apart)

  pub lists_of_lines : AreListsOf st me lines.vertices.items lines.ghosts.items (halves_of_lines outline.directed lines.edges.items) outline.machines outline.edges
  lists_of_lines = record { lines = lines_are; rows = halves_are; count = are.machines; as_many = are.edges }

  -- ---- what `play` asks

  pub can_be_played : CanBePlayed lines outline
  can_be_played =
      record {
        vertices = λ k d low. let p = own_lines st me lines.vertices.items lines.ghosts.items is lines_are k d low in let n = are.vertices in let v = p.low in omega arith;
        ghosts = λ k d low. let p = ghost_lines_are st me lines.vertices.items lines.ghosts.items is lines_are k d low in let n = are.vertices in let v = p.low in omega arith;
        few =
            let few = few_lines st me lines.vertices.items lines.ghosts.items is lines_are in
            let n = are.vertices in
            omega arith;
        edges = subst (All (λ (e : EdgeLine). e.edge.0 < outline.edges)) (sym edges_are) (All-filter (touches all_owners me) (λ (e : EdgeLine). e.edge.0 < outline.edges) (edge_lines st.graph (length st.graph.edges)) edges_low);
        few_edges =
            let passing = few_passing (touches all_owners me) (edge_lines st.graph (length st.graph.edges)) in
            let a = ap length edges_are in
            let b : length (edge_lines st.graph (length st.graph.edges)) ≡ length st.graph.edges = length-map (range_with_len 0 (length st.graph.edges)) (line_of_edge st.graph) ∙ length-range_with_len 0 (length st.graph.edges) in
            let few = is.graph.few_edges in
            omega arith;
        limit = let n = are.vertices in let few = is.graph.few in omega arith;
      }
    where
      edges_low : All (λ (e : EdgeLine). e.edge.0 < outline.edges) (edge_lines st.graph (length st.graph.edges))
      edges_low =
          All-map (λ (e : EdgeLine). e.edge.0 < outline.edges) (line_of_edge st.graph) (range_with_len 0 (length st.graph.edges))
          (λ k d low. let at = get_or-range_with_len 0 (length st.graph.edges) k d (omega (arith, length-range_with_len 0 (length st.graph.edges))) in let n = are.edges in omega (arith, length-range_with_len 0 (length st.graph.edges)))
