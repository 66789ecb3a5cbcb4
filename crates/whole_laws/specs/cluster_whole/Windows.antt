-- What a machine keeps by itself: how many of its scopes are in flight, and that its window is never passed.
use Rattle.std.specs.Prelude.{Bool, None, Option, Some, false, suc, true, zero, ℕ, ◌+◌, ◌<◌, ◌≡◌, ◌≤◌}
use Rattle.gl_base.specs.declared.scopes.ScopeId.{ScopeId}
use Rattle.cluster_laws.specs.cluster_core.Settings.{Setting}
use Rattle.cluster_laws.specs.cluster_model.Clusters.{Cluster}
use Rattle.cluster_laws.specs.cluster_model.Machines.{Machine, outside}

-- f 0 + f 1 + .., so many numbers
abbrev pub sum_below : (ℕ → ℕ) → ℕ → ℕ
sum_below f zero = 0
sum_below f (suc n) = f n + sum_below f n

-- 1 where the scope is in flight
abbrev pub one_where : Option ℕ → ℕ
one_where None = 0
one_where (Some v) = 1

-- 1 where it is in flight and was planned
abbrev pub plan_where : Option ℕ → Bool → ℕ
plan_where None planned = 0
plan_where (Some v) true = 1
plan_where (Some v) false = 0

-- the scope of this number
abbrev pub scope_at : ℕ → ℕ → ScopeId
scope_at a n = record { home = record { 0 = a }; serial = n }

-- Machine a counts its scopes right, and keeps its window.
pub record StaysWithin (st : Setting) (a : ℕ) (m : Machine) : Type 0 where
  -- scopes in flight were admitted here, and so many are
  pub own : (s : ScopeId) (v : ℕ) → m.part.flight s ≡ Some v → (s.home.0 ≡ a) × (s.serial < m.part.serial)
  pub flying : m.part.flying ≡ sum_below (λ n. one_where (m.part.flight (scope_at a n))) m.part.serial
  -- no two of them have one vertex
  pub single : (s t : ScopeId) (v : ℕ) → m.part.flight s ≡ Some v → m.part.flight t ≡ Some v → s ≡ t
  -- so many were admitted for an update, and the vertices of the others are pending
  pub plans : m.plans ≡ sum_below (λ n. plan_where (m.part.flight (scope_at a n)) (m.planned (scope_at a n))) m.part.serial
  pub pending : (s : ScopeId) (v : ℕ) → m.part.flight s ≡ Some v → m.planned s ≡ false → m.part.pending v ≡ true
  -- the window is never passed
  pub window : st.stored ≡ true → outside m + m.plans ≤ st.window

-- each machine does
abbrev pub AreWithin : Setting → Cluster → Type 0
AreWithin st c = (a : ℕ) → StaysWithin st a (c.machine a)
