-- Scopes of updates, and the canonical order in which a scope takes its locks: by the owner machine, and then by the vertex.
pub use Rattle.gl_base.specs.scope_lists.Scopes.{is_scope, mode_at, set_for}
use Rattle.std.specs.Prelude.{Bool, List, None, Option, Some, false, nat_lt, true, ℕ, ◌&&◌, ◌-◌, ◌==◌, ◌||◌}
use Rattle.cluster_laws.specs.cluster_core.Ranges.{all_passing, first_passing}
use Rattle.cluster_laws.specs.cluster_core.Settings.{Setting, is_in_scope}
use Rattle.graph_core.specs.DataGraph.{size}

-- the first vertex from k on that machine a owns in the scope of v
abbrev pub own_from : Setting → ℕ → ℕ → ℕ → Option ℕ
own_from st v a k = first_passing (λ x. is_in_scope st v x && st.owner x == a) k (size st.graph - k)

-- there is one
abbrev pub is_found : Option ℕ → Bool
is_found None = false
is_found (Some x) = true

-- machine a owns a vertex in the scope of v
abbrev pub takes_part : Setting → ℕ → ℕ → Bool
takes_part st v a = is_found (own_from st v a 0)

-- the machines from a on that own a vertex in the scope of v, ascending
abbrev pub machines_from : Setting → ℕ → ℕ → List ℕ
machines_from st v a = all_passing (takes_part st v) a (st.machines - a)

-- the lock of y comes before that of vertex k at machine a, in canonical order
abbrev pub is_before : Setting → ℕ → ℕ → ℕ → Bool
is_before st y a k = nat_lt (st.owner y) a || (st.owner y == a && nat_lt y k)
