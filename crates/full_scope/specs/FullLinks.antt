-- The edges at a vertex as a full scope lends them, and what an update leaves of the numbers along them.
use Rattle.std.specs.Prelude.{◌≡◌, ℕ, suc, ◌+◌, ◌<◌, List, [], ◌∷◌, length, slice_index, slice_index_or, slice_set}
use Rattle.std.proofs.Common.{◌∙◌}
use Rattle.std.proofs.Math.ListN.{length-set}
use Rattle.update_api.specs.declared.links.Direction.TheVariants.{Out}
use Rattle.update_api.specs.Directions.{leads_out, leads_into}
use Rattle.full_scope.specs.declared.links.FullLink.{FullLink}
use Rattle.full_scope.specs.FullUpdates.{Neighbour, Surroundings}

-- each link has two numbers: those of the other ends stand first, each at its link's place, and behind them those of the edges
abbrev pub IsFull : List FullLink → List ℕ → Type 0
IsFull links numbers = length numbers ≡ length links + length links

-- it stays so when a number is written
pub full_after : (links : List FullLink) (numbers : List ℕ) (place x : ℕ) → IsFull links numbers → IsFull links (slice_set numbers place x)
full_after links numbers place x full = length-set numbers place x ∙ full

-- no link
abbrev pub no_full_link : FullLink
no_full_link = record { id = 0; weight = 0; direction = Out }

-- the neighbour along this link, with these numbers of it and of the edge
abbrev pub neighbour_along : FullLink → ℕ → ℕ → Neighbour
neighbour_along link number mark =
    record {
      id = link.id;
      near = record { number = number; mark = mark; weight = link.weight; out = leads_out link.direction; into = leads_into link.direction };
    }

-- the neighbour along the i-th of these links
abbrev pub neighbour_in : List FullLink → List ℕ → ℕ → Neighbour
neighbour_in links numbers i = neighbour_along (slice_index_or links i no_full_link) (slice_index numbers i) (slice_index numbers (length links + i))

-- the neighbours along these links, of which the first has place k among `count` in all
abbrev pub neighbours_from : ℕ → ℕ → List ℕ → List FullLink → List Neighbour
neighbours_from count k numbers [] = []
neighbours_from count k numbers (link ∷ links) =
    neighbour_along link (slice_index numbers k) (slice_index numbers (count + k)) ∷ neighbours_from count (suc k) numbers links

-- what an update sees in these lists
abbrev pub seen_in : ℕ → ℕ → List FullLink → List ℕ → Surroundings
seen_in id own links numbers = record { id = id; own = own; neighbours = neighbours_from (length links) 0 numbers links }

-- The new numbers: these of each neighbour, these of the edge to it, and no others.
pub record AreWritten (near mark : Neighbour → ℕ) (links : List FullLink) (old new : List ℕ) : Type 0 where
  pub as_many : length new ≡ length old
  pub nears : (i : ℕ) → i < length links → slice_index new i ≡ near (neighbour_in links old i)
  pub marks : (i : ℕ) → i < length links → slice_index new (length links + i) ≡ mark (neighbour_in links old i)
