-- Scopes by their two numbers, how they hold locks, and functions that are changed at one scope or one number.
use Rattle.std.specs.Prelude.{◌≡◌, ℕ, Bool, ◌==◌, ◌&&◌, if◌then◌else◌}
use Rattle.gl_base.specs.declared.scopes.Mode.{Mode}
use Rattle.gl_base.specs.declared.scopes.Mode.TheVariants.{Reader, Writer}
use Rattle.gl_base.specs.declared.scopes.ScopeId.{ScopeId}

-- the two are one scope
abbrev pub is_scope : ScopeId → ScopeId → Bool
is_scope s t = s.home.0 == t.home.0 && s.serial == t.serial

-- x for s, and f for each other scope
abbrev pub set_for : {X : Type 0} → (ScopeId → X) → ScopeId → X → ScopeId → X
set_for f s x t = if is_scope t s then x else f t

-- x at k, and f at each other number
abbrev pub set_at : {X : Type 0} → (ℕ → X) → ℕ → X → ℕ → X
set_at f k x i = if i == k then x else f i

-- the scope of v locks v as a writer, and its neighbours as a reader
abbrev pub mode_at : ℕ → ℕ → Mode
mode_at v x = if x == v then Writer else Reader

-- two that hold one lock: only readers stand beside one another
abbrev pub GoTogether : Mode → Mode → Type 0
GoTogether one other = (one ≡ Reader) × (other ≡ Reader)
