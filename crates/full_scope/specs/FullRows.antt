-- The edges and the numbers around a vertex, as lists that can be lent.
use Rattle.std.specs.Prelude.{◌≡◌, ℕ, ◌+◌, ◌<◌, List, length, slice_index, slice_index_or}
use Rattle.graph_core.specs.DataGraph.{DataGraph}
use Rattle.graph_core.specs.Halves.{DataHalf, halves_of}
use Rattle.seq_run.specs.States.{GraphState}
use Rattle.update_api.specs.Directions.{leads_out, leads_into}
use Rattle.full_scope.specs.declared.links.FullLink.{FullLink}
use Rattle.full_scope.specs.FullLinks.{no_full_link, IsFull}

-- the link is that of this half
pub record IsFullLink (g : DataGraph) (link : FullLink) (h : DataHalf) : Type 0 where
  pub id : link.id ≡ slice_index g.ids h.other
  pub weight : link.weight ≡ h.weight
  pub out : leads_out link.direction ≡ h.out
  pub into : leads_into link.direction ≡ h.into

-- The lists have a link for each edge at v, and the numbers of its other end and of the edge.
pub record AreAround (g : DataGraph) (s : GraphState) (v : ℕ) (links : List FullLink) (numbers : List ℕ) : Type 0 where
  pub count : length links ≡ length (halves_of g v)
  pub full : IsFull links numbers
  pub link : (i : ℕ) (d : DataHalf) → i < length links → IsFullLink g (slice_index_or links i no_full_link) (slice_index_or (halves_of g v) i d)
  pub near : (i : ℕ) (d : DataHalf) → i < length links → slice_index numbers i ≡ s.vertex (slice_index_or (halves_of g v) i d).other
  pub edge : (i : ℕ) (d : DataHalf) → i < length links → slice_index numbers (length links + i) ≡ s.edge (slice_index_or (halves_of g v) i d).edge
