-- What is kept of the links of rows.
use Rattle.std.specs.Prelude.{◌≡◌, ℕ, suc, ◌==◌, ◌≤◌, Bool, false, Option, Some, None, if◌then◌else◌, List, [], ◌∷◌, length, replicate}
use Rattle.std.specs.List.{All}
use Rattle.graph_core.specs.declared.halves.Half.{Half}
use Rattle.update_api.specs.declared.links.Direction.{Direction}
use Rattle.update_api.specs.declared.links.Direction.TheVariants.{Out, Into, Both}
use Rattle.update_api.specs.declared.links.Link.{Link}
use Rattle.local_graph.specs.declared.links.Way.{Way}
use Rattle.local_graph.specs.Lines.{direction_of}

-- what a half-edge tells as a link
abbrev pub way_of : Half → Way
way_of h = record { weight = h.weight; direction = direction_of h.out h.into }

-- the link at place k of a row
abbrev pub link_along : ℕ → Way → Link
link_along k w = record { near = k; edge = k; weight = w.weight; direction = w.direction }

-- the links of a row, the first at place k
abbrev pub links_along : ℕ → List Way → List Link
links_along k [] = []
links_along k (w ∷ ways) = link_along k w ∷ links_along (suc k) ways

-- an edge with the weight 1 and no direction
abbrev pub plain_way : Way
plain_way = record { weight = 1; direction = Both }

abbrev pub is_plain_with : ℕ → Direction → Bool
is_plain_with weight Both = weight == 1
is_plain_with weight Out = false
is_plain_with weight Into = false

abbrev pub is_plain : Way → Bool
is_plain w = is_plain_with w.weight w.direction

-- what is told of so many edges, where nothing is kept of plain ones
abbrev pub ways_kept : ℕ → List Way → List Way
ways_kept count [] = replicate count plain_way
ways_kept count (w ∷ ways) = w ∷ ways

-- the links of rows of which this is kept
abbrev pub rows_kept : List ℕ → List (List Way) → List (List Link)
rows_kept [] rows = []
rows_kept (count ∷ counts) [] = []
rows_kept (count ∷ counts) (ways ∷ rows) = links_along 0 (ways_kept count ways) ∷ rows_kept counts rows

-- each row has its number of links, which are few
pub record AreWaysKept (counts : List ℕ) (rows : List (List Way)) : Type 0 where
  pub many : length counts ≡ length rows
  pub few : All (λ (ways : List Way). length ways ≤ 4294967295) rows

-- the rows with these links, where each is either in or out
abbrev pub rows_in : List Bool → List (List Link) → List (Option (List Link))
rows_in [] rows = []
rows_in (out ∷ outs) [] = []
rows_in (out ∷ outs) (links ∷ rows) = (if out then None else Some links) ∷ rows_in outs rows
