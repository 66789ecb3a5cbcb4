-- Numbers of a range that pass a test, and functions that are changed at one place.
pub use Rattle.gl_base.specs.scope_lists.Scopes.{set_at}
use Rattle.std.specs.Prelude.{Bool, List, None, Option, Some, [], if◌then◌else◌, suc, zero, ℕ, ◌∷◌}

-- the first of k, k + 1, .. (so many numbers) that passes
unfoldable pub first_passing : (ℕ → Bool) → ℕ → ℕ → Option ℕ
first_passing test k zero = None
first_passing test k (suc many) = if test k then Some k else first_passing test (suc k) many

-- those of k, k + 1, .. (so many numbers) that pass, ascending
unfoldable pub all_passing : (ℕ → Bool) → ℕ → ℕ → List ℕ
all_passing test k zero = []
all_passing test k (suc many) = if test k then k ∷ all_passing test (suc k) many else all_passing test (suc k) many
