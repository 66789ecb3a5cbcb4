-- The order in which a scope takes its locks at a machine.
use Rattle.std.specs.Prelude.{◌≡◌, ℕ, suc, List, Some, slice_get}
use Rattle.cluster_laws.specs.cluster_core.Scopes.{own_from}
use Rattle.cluster_laws.specs.cluster_core.Settings.{Setting}

-- the scope of v takes the locks of machine a one after another as they stand here
pub record IsLockOrder (st : Setting) (v a : ℕ) (numbers : List ℕ) : Type 0 where
  pub first : own_from st v a 0 ≡ slice_get numbers 0
  pub next : (i x : ℕ) → slice_get numbers i ≡ Some x → own_from st v a (suc x) ≡ slice_get numbers (suc i)
