-- Lists that are looked up by scope.
use Rattle.std.specs.Prelude.{◌≡◌, ℕ, ◌<◌, true, false, Option, Some, None, List, [], ◌∷◌, length, slice_index_or, if◌then◌else◌}
use Rattle.gl_base.specs.declared.scopes.ScopeId.{ScopeId}
use Rattle.gl_base.specs.scope_lists.Scopes.{is_scope}

-- the first element of the scope, where there is one
abbrev pub by_scope : {E : Type 0} → (E → ScopeId) → List E → ScopeId → Option E
by_scope scope_of [] s = None
by_scope scope_of (e ∷ es) s = if is_scope (scope_of e) s then Some e else by_scope scope_of es s

-- the two are of different scopes
abbrev pub AreOfTwoScopes : {E : Type 0} → (E → ScopeId) → E → E → Type 0
AreOfTwoScopes scope_of one other = is_scope (scope_of one) (scope_of other) ≡ false

-- the element at this place is of the scope
pub record StandsAt {E : Type 0} (scope_of : E → ScopeId) (es : List E) (s : ScopeId) (i : ℕ) : Type 0 where
  pub inside : i < length es
  pub is : (d : E) → is_scope (scope_of (slice_index_or es i d)) s ≡ true
