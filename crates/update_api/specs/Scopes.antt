-- What a scope lends.
use Rattle.std.specs.Prelude.{ℕ, [], ◌∷◌, ◌++◌, List, slice_index_or, slice_set}
use Rattle.std.specs.Borrow.{Lends, MutBor, Fml, u64}
use mir.Syntax.{named}
use Rattle.update_api.specs.contracts.scopes.Scope.{the_row}
use Rattle.update_api.specs.declared.links.Direction.TheVariants.{Out}
use Rattle.update_api.specs.declared.links.Link.{Link}
use Rattle.update_api.specs.declared.scopes.Scope.{Scope}
use Rattle.update_api.specs.Links.{links_after, nears_at}
use Rattle.update_api.specs.Near.{Near}

-- the numbers of the vertices, that of the centre among them
abbrev pub numbers : Scope → List ℕ
numbers s = s.low.now ++ s.centre.now ∷ s.high.now

-- a link to nowhere
abbrev pub no_link : Link
no_link = record { near = 0; edge = 0; weight = 0; direction = Out }

-- the i-th link
abbrev pub link_at : Scope → ℕ → Link
link_at s i = slice_index_or s.links.now i no_link

-- what lies near along each link
abbrev pub nears : Scope → List Near
nears s = nears_at (numbers s) s.edges.now s.links.now

-- the scope, where the centre has this number
abbrev pub with_centre : Scope → ℕ → Scope
with_centre s x = record s { centre = record s.centre { now = x } }

-- the scope, where the edge at this place has this number
abbrev pub with_edge_at : Scope → ℕ → ℕ → Scope
with_edge_at s place x =
    record s {
      edges = record s.edges { now = slice_set s.edges.now place x };
      fit = links_after s.edges.now place x s.fit;
    }

-- the scope ends with the number that is left in its centre
abbrev pub LendsCentre : MutBor Scope → MutBor ℕ → Fml
LendsCentre s r = Lends (the_row (record { mir = named 1; lft = [] })) u64 s r (with_centre s.now)

-- the scope ends with the number that is left at this place of the edges
abbrev pub LendsEdgeAt : MutBor Scope → ℕ → MutBor ℕ → Fml
LendsEdgeAt s place r = Lends (the_row (record { mir = named 1; lft = [] })) u64 s r (with_edge_at s.now place)

-- the scope ends with the number that is left at the edge of link i
abbrev pub LendsEdge : MutBor Scope → ℕ → MutBor ℕ → Fml
LendsEdge s i r = LendsEdgeAt s (link_at s.now i).edge r
