-- The edges at a vertex, and what lies near along them.
use Rattle.std.specs.Prelude.{◌≢◌, ℕ, ◌<◌, List, length, map, slice_index, slice_set, All, AllPairs}
use Rattle.std.proofs.Common.{sym, subst}
use Rattle.std.proofs.Math.ListN.{length-set}
use Rattle.update_api.specs.declared.links.Link.{Link}
use Rattle.update_api.specs.Directions.{leads_out, leads_into}
use Rattle.update_api.specs.Near.{Near}

-- each link leads to a vertex other than the centre, and no two have the same edge
pub record AreLinks (links : List Link) (centre vertices edges : ℕ) : Type 0 where
  pub near : All (λ link. link.near < vertices) links
  pub not_centre : All (λ link. link.near ≢ centre) links
  pub edge : All (λ link. link.edge < edges) links
  pub apart : AllPairs (λ one other. one.edge ≢ other.edge) links

-- what lies near along this link, where these are the numbers of the vertices and of the edges
abbrev pub near_at : List ℕ → List ℕ → Link → Near
near_at values edges link =
    record {
      number = slice_index values link.near;
      mark = slice_index edges link.edge;
      weight = link.weight;
      out = leads_out link.direction;
      into = leads_into link.direction;
    }

-- what lies near along each link
abbrev pub nears_at : List ℕ → List ℕ → List Link → List Near
nears_at values edges links = map (near_at values edges) links

-- links stay so where the number of an edge is written
pub links_after : {links : List Link} {centre vertices : ℕ} (edges : List ℕ) (place x : ℕ) → AreLinks links centre vertices (length edges) → AreLinks links centre vertices (length (slice_set edges place x))
links_after {links} {centre} {vertices} edges place x fit = subst (AreLinks links centre vertices) (sym (length-set edges place x)) fit
