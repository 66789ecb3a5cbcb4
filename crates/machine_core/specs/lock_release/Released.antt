-- The locks of a scope.
pub use Rattle.gl_base.specs.scope_lists.Scopes.{set_for}
pub use Rattle.scope_locks.specs.vertex_locks.Tables.{is_owned, holder_at, queue_at}
use Rattle.std.specs.Prelude.{ℕ, ◌==◌, Bool, Option, List, [], ◌∷◌}
use Rattle.std.specs.List.{list_any}
use Rattle.gl_base.specs.declared.numbers.Vertex.{Vertex}
use Rattle.gl_base.specs.declared.scopes.ScopeId.{ScopeId}
use Rattle.scope_locks.specs.vertex_locks.Locks.{LockView}
use Rattle.scope_locks.specs.vertex_locks.Tables.{released_at}

-- the vertex is one of these
abbrev pub is_one_of : List Vertex → ℕ → Bool
is_one_of vertices x = list_any (λ v. v.0 == x) vertices

-- the scope has let the lock of each of these go, one after another
abbrev pub released_all : ScopeId → List Vertex → List (Option LockView) → List (Option LockView)
released_all s [] table = table
released_all s (v ∷ vertices) table = released_all s vertices (released_at table v.0 s)
