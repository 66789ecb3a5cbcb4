-- The edges of lines, at their ends.
use Rattle.std.specs.Prelude.{ℕ, suc, ◌==◌, Bool, true, false, not, if◌then◌else◌, List, [], ◌∷◌, ◌++◌}
use Rattle.std.specs.List.{flat_map}
use Rattle.gl_base.specs.declared.atoms.EdgeLine.{EdgeLine}
use Rattle.graph_core.specs.Halves.{DataHalf}
use Rattle.graph_core.specs.declared.halves.Half.{Half}
use Rattle.update_api.specs.declared.links.Direction.{Direction}
use Rattle.update_api.specs.declared.links.Direction.TheVariants.{Out, Into, Both}
use Rattle.update_api.specs.declared.links.Link.{Link}

-- the edge of a line where it begins
abbrev pub line_out : Bool → EdgeLine → Half
line_out directed e = record { edge = e.edge; other = e.to; weight = e.weight; out = true; into = not directed }

-- the edge of a line where it ends
abbrev pub line_into : Bool → EdgeLine → Half
line_into directed e = record { edge = e.edge; other = e.from; weight = e.weight; out = not directed; into = true }

-- the edge of a line, at v where that is one of its ends
abbrev pub half_of_line : Bool → ℕ → EdgeLine → List Half
half_of_line directed v e = (if e.from.0 == v then line_out directed e ∷ [] else []) ++ (if e.to.0 == v then line_into directed e ∷ [] else [])

-- the edges of lines at v, in their order
abbrev pub halves_of_lines : Bool → List EdgeLine → ℕ → List Half
halves_of_lines directed edges v = flat_map (half_of_line directed v) edges

-- a half-edge of a graph, as machines have it
abbrev pub half_of : DataHalf → Half
half_of h = record { edge = record { 0 = h.edge }; other = record { 0 = h.other }; weight = h.weight; out = h.out; into = h.into }

-- how an edge leads that leads out of the vertex, into it, or both
abbrev pub direction_of : Bool → Bool → Direction
direction_of true true = Both
direction_of true false = Out
direction_of false into = Into

-- a half-edge as the link at place k of a row
abbrev pub link_of : ℕ → Half → Link
link_of k h = record { near = k; edge = k; weight = h.weight; direction = direction_of h.out h.into }

-- half-edges as the links of a row, the first at place k
abbrev pub links_from : ℕ → List Half → List Link
links_from k [] = []
links_from k (h ∷ halves) = link_of k h ∷ links_from (suc k) halves
