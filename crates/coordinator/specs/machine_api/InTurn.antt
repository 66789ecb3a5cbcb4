-- Locks that a machine that takes snapshots grants one after another, as what it does by itself in turn.
pub use Rattle.coordinator.specs.machine_api.AtOnce.{AreDone, Grant, Machine, OfEach, Setting}
use Rattle.std.specs.Prelude.{List, map, ℕ, ◌∷◌}

-- Machine a may grant the locks of these vertices in turn, each to the first that waits for it then; and what has become of the code stands
-- for what that makes of it.
pub record AreGrantedInTurn {M : Type 0} (represents : Setting → ℕ → Machine → M → Type 0) (locks : List ℕ) (new : M) (st : Setting) (a : ℕ) (m : Machine) : Type 0 where
  pub after : Machine
  pub done : AreDone st a (map Grant locks) m after
  pub here : represents st a after new

-- the lock of x was granted, and then in turn those of some other vertices: the same ones at each machine of the law that it is
abbrev pub HasGrantedInTurn : {M : Type 0} → (Setting → ℕ → Machine → M → Type 0) → M → ℕ → M → Type 0
HasGrantedInTurn represents old x new = (more : List ℕ) × OfEach represents old (AreGrantedInTurn represents (x ∷ more) new)
