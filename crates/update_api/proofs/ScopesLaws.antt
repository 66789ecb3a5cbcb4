-- Scopes are the same where what they lend is.
use Rattle.std.proofs.Common.{◌≡◌, ℕ, ◌+◌, List, length}
use Rattle.std.proofs.Props.{props}
use Rattle.update_api.specs.declared.links.Link.{Link}
use Rattle.update_api.specs.declared.scopes.Scope.{Scope}
use Rattle.update_api.specs.Links.{AreLinks}
use Rattle.update_api.specs.Scopes.{with_centre}

links_one : {links : List Link} {centre vertices edges : ℕ} → IsProp (AreLinks links centre vertices edges)
links_one = hlevel props

-- what the ghost field `fit` says of a scope
abbrev pub IsFit : Scope → Type 0
IsFit s = AreLinks s.links.now (length s.low.now) (length s.low.now + 1 + length s.high.now) (length s.edges.now)

pub same_with_centre : (s : Scope) (x : ℕ) (fit : IsFit (with_centre s x)) → record (with_centre s x) { fit = fit } ≡ with_centre s x
same_with_centre s x fit = λ i. record (with_centre s x) { fit = links_one fit (with_centre s x).fit i }
