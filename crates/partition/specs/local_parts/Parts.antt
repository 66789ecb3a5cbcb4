-- A machine's part of a graph, for a setting of a cluster.
pub use Rattle.cluster_laws.specs.cluster_core.Settings.{Setting, IsSetting, is_in_scope, nth_edge}
pub use Rattle.cluster_laws.specs.cluster_core.Scopes.{machines_from}
pub use Rattle.cluster_laws.specs.cluster_core.Effects.{is_shared}
pub use Rattle.local_graph.specs.Locals.{LocalView, place_at, is_placed, is_own, id_at, links_at, sides_at, parts_at, part_at, machine_numbers}
pub use Rattle.local_graph.specs.Played.{IsMadeOf, IsPlayedFrom, graph_halves, numbers_of}
pub use Rattle.local_graph.specs.Works.{IsRow}
use Rattle.std.specs.Prelude.{◌≡◌, ℕ, ◌+◌, ◌^◌, ◌<◌, ◌≤◌, ◌==◌, ◌&&◌, ◌||◌, Bool, true, false, not, Some, is_some, nat_lt, List, [], ◌∷◌, length, map, slice_index}
use Rattle.std.specs.List.{All, AllByRecursion, list_any, range_with_len}
use Rattle.gl_base.specs.declared.atoms.GhostLine.{GhostLine}
use Rattle.gl_base.specs.declared.atoms.Lines.{Lines}
use Rattle.gl_base.specs.declared.atoms.VertexLine.{VertexLine}
use Rattle.gl_base.specs.declared.limits.TheConstants.{MAX_VERTICES}
use Rattle.graph_core.specs.DataGraph.{size}
use Rattle.graph_core.specs.Neighbours.{neighbours_of}
use Rattle.graph_core.specs.Halves.{DataHalf, halves_of}
use Rattle.update_api.specs.Directions.{leads_out, leads_into}
use Rattle.update_api.specs.declared.links.Link.{Link}
use Rattle.graph_atoms.specs.atom_file.Atoms.{atom_of}
use Rattle.graph_atoms.specs.atom_cut.Atoms.{graph_atom}
use Rattle.cluster_laws.specs.cluster_core.Ranges.{all_passing}
use Rattle.local_graph.specs.declared.outlines.Outline.{Outline}
use Rattle.local_graph.specs.declared.sides.Side.{Side}

-- ---- the lines of a machine

-- the owner of each vertex
abbrev pub owner_numbers : Setting → List ℕ
owner_numbers st = map st.owner (range_with_len 0 (size st.graph))

-- These are the lines of machine `me`: its atom, where each vertex is in the atom with the number of its owner; and the outline
-- is the graph's.
pub record AreLinesOf (st : Setting) (me : ℕ) (lines : Lines) (outline : Outline) : Type 0 where
  pub machine : me < st.machines
  pub atom : atom_of me lines ≡ graph_atom st.graph (owner_numbers st) me
  pub machines : outline.machines ≡ st.machines
  pub vertices : outline.vertices ≡ size st.graph
  pub edges : outline.edges ≡ length st.graph.edges
  pub directed : outline.directed ≡ st.graph.directed

-- these are the lines of the vertices of machine `me`, and of the ghosts beside them
pub record AreVerticesOf (st : Setting) (me : ℕ) (own : List VertexLine) (ghosts : List GhostLine) : Type 0 where
  pub machine : me < st.machines
  pub vertices : own ≡ (graph_atom st.graph (owner_numbers st) me).vertices
  pub beside : ghosts ≡ (graph_atom st.graph (owner_numbers st) me).ghosts

-- ---- rows

-- what a side and its link tell of the half-edge
abbrev pub half_along : Side → Link → DataHalf
half_along s link = record { edge = s.edge.0; other = s.other.0; weight = link.weight; out = leads_out link.direction; into = leads_into link.direction }

-- the half-edges of a row
abbrev pub halves_along : List Side → List Link → List DataHalf
halves_along [] links = []
halves_along (s ∷ sides) [] = []
halves_along (s ∷ sides) (link ∷ links) = half_along s link ∷ halves_along sides links

-- the row is that of v in the graph: its edges in their order, each link at its own place
pub record IsRowOf (st : Setting) (v : ℕ) (sides : List Side) (links : List Link) : Type 0 where
  pub row : IsRow links (length sides)
  pub halves : halves_along sides links ≡ halves_of st.graph v

-- ---- parts

-- the vertices of the scope of v that machine a owns, ascending
abbrev pub own_in_scope : Setting → ℕ → ℕ → List ℕ
own_in_scope st v a = all_passing (λ x. is_in_scope st v x && st.owner x == a) 0 (size st.graph)

-- machine a doesn't own x, and owns a vertex of its scope
abbrev pub is_ghost_of : Setting → ℕ → ℕ → Bool
is_ghost_of st a x = not (st.owner x == a) && list_any (λ u. st.owner u == a) (neighbours_of st.graph x)

-- What a machine holds is its part of the graph. It stays so while rows are out and numbers change.
pub record IsLocalOf (st : Setting) (l : LocalView) : Type 0 where
  pub machine : l.me.0 < st.machines
  pub owned : numbers_of l.owned ≡ all_passing (λ x. st.owner x == l.me.0) 0 (size st.graph)
  pub own : (x : ℕ) → is_own l x ≡ (nat_lt x (size st.graph) && st.owner x == l.me.0)
  pub ghosts : map (λ g. g.vertex.0) l.ghosts ≡ all_passing (is_ghost_of st l.me.0) 0 (size st.graph)
  pub known : (x : ℕ) → is_placed l x ≡ (nat_lt x (size st.graph) && (st.owner x == l.me.0 || is_ghost_of st l.me.0 x))
  pub ids : (x : ℕ) → is_own l x ≡ true → id_at l x ≡ slice_index st.graph.ids x
  pub edges : length l.numbers ≡ length st.graph.edges
  -- the row of each own vertex, where it is not out
  pub rows : (v : ℕ) (links : List Link) → is_own l v ≡ true → links_at l v ≡ Some links → IsRowOf st v (sides_at l v) links
  -- each side leads to an edge of the graph, names the owner of its other end, and tells the place of that
  pub sides : (v : ℕ) → is_own l v ≡ true → length (sides_at l v) ≡ length (halves_of st.graph v)
  pub owners : (v : ℕ) → is_own l v ≡ true → All (λ s. s.owner.0 ≡ st.owner s.other.0) (sides_at l v)
  pub places : (v : ℕ) → is_own l v ≡ true → All (λ s. place_at l s.other.0 ≡ Some s.place) (sides_at l v)
  -- the machines of the scope of an own vertex, and of each scope the own vertices, ascending
  pub parts : (v : ℕ) → is_own l v ≡ true → machine_numbers (parts_at l v) ≡ machines_from st v 0
  pub part : (v : ℕ) → v < size st.graph → numbers_of (part_at l v) ≡ own_in_scope st v l.me.0

-- each row is in
abbrev pub AreIn : LocalView → Type 0
AreIn l = (v : ℕ) → is_own l v ≡ true → is_some (links_at l v) ≡ true

-- ---- edges that two machines hold

-- one end of edge e is v, and machine q owns the other one
abbrev pub is_shared_by : Setting → ℕ → ℕ → ℕ → Bool
is_shared_by st v q e = is_shared st v q (nth_edge st e)

-- no two half-edges have one edge
abbrev pub AreOfTwoEdges : List DataHalf → Type 0
AreOfTwoEdges [] = Unit {0}
AreOfTwoEdges (h ∷ halves) = AllByRecursion (λ g. (h.edge == g.edge) ≡ false) halves × AreOfTwoEdges halves

-- the edge of each half-edge at v is shared with the owner of the other end alone, and no two have one edge
pub record ShareEdges (st : Setting) (v : ℕ) (halves : List DataHalf) : Type 0 where
  pub shared : (q : ℕ) → AllByRecursion (λ h. is_shared_by st v q h.edge ≡ (st.owner h.other == q)) halves
  pub apart : AreOfTwoEdges halves

-- ---- what `play` asks

-- the numbers in the lines are below those of the outline, and there are few
pub record CanBePlayed (lines : Lines) (outline : Outline) : Type 0 where
  pub vertices : All (λ v. v.vertex.0 < outline.vertices) lines.vertices.items
  pub ghosts : All (λ g. g.vertex.0 < outline.vertices) lines.ghosts.items
  pub few : length lines.vertices.items + length lines.ghosts.items ≤ outline.vertices
  pub edges : All (λ e. e.edge.0 < outline.edges) lines.edges.items
  pub few_edges : length lines.edges.items < 2 ^ 31
  pub limit : outline.vertices ≤ MAX_VERTICES
