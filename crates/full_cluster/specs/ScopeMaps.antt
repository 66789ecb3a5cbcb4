-- Values by scope, as a list of pairs.
use Rattle.std.specs.List.{AllPairs}
use Rattle.std.specs.Option.{option_map}
use Rattle.std.specs.Prelude.{◌≡◌, ℕ, ◌<◌, List, Option, length, slice_index_or}
use Rattle.gl_base.specs.declared.numbers.Vertex.{Vertex}
use Rattle.gl_base.specs.declared.scopes.ScopeId.{ScopeId}
use Rattle.gl_base.specs.scope_lists.Found.{AreOfTwoScopes, by_scope}

-- the scope that an entry is of
abbrev pub entry_scope : {T : Type 0} → ScopeId × T → ScopeId
entry_scope entry = entry.0

-- the value of the scope, where it has one
abbrev pub value_of : {T : Type 0} → List (ScopeId × T) → ScopeId → Option T
value_of entries s = option_map (λ entry. entry.1) (by_scope entry_scope entries s)

-- no scope has two values
abbrev pub AreOnce : {T : Type 0} → List (ScopeId × T) → Type 0
AreOnce entries = AllPairs (AreOfTwoScopes entry_scope) entries

-- the entry at this place has the vertex
pub record HasVertexAt (entries : List (ScopeId × Vertex)) (v : Vertex) (i : ℕ) : Type 0 where
  pub inside : i < length entries
  pub is : (d : ScopeId × Vertex) → (slice_index_or entries i d).1.0 ≡ v.0
