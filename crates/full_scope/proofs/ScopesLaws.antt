-- Full scopes are the same where what they lend is.
use Rattle.std.proofs.Common.{◌≡◌, ℕ, List}
use Rattle.std.proofs.Props.{props}
use Rattle.full_scope.specs.declared.links.FullLink.{FullLink}
use Rattle.full_scope.specs.declared.scopes.FullScope.{FullScope}
use Rattle.full_scope.specs.FullLinks.{IsFull}
use Rattle.full_scope.specs.FullScopes.{with_full_centre}

full_one : (links : List FullLink) (numbers : List ℕ) → IsProp (IsFull links numbers)
full_one links numbers = hlevel props

pub same_with_full_centre : (s : FullScope) (x : ℕ) (fit : IsFull s.links.now s.numbers.now) → record (with_full_centre s x) { fit = fit } ≡ with_full_centre s x
same_with_full_centre s x fit = λ i. record (with_full_centre s x) { fit = full_one s.links.now s.numbers.now fit s.fit i }
