-- What always holds of what the coordinator knows of snapshots, and of steps.
use Rattle.std.specs.Prelude.{false, length, ℕ, ◌*◌, ◌+◌, ◌^◌, ◌<◌, ◌≡◌, ◌≤◌}
use Rattle.coordinator.specs.coord_core.Saving.{IsApartWhereCome, SavingView, come_at}
use Rattle.coordinator.specs.coord_core.Steps.{StepsView}
use Rattle.coordinator.specs.declared.coord_core.steps.Engine.{Engine}
use Rattle.coordinator.specs.declared.coord_core.steps.Engine.TheVariants.{Chromatic, Locking}

-- No more than one snapshot is under way, and none where none are taken; the updates of the snapshots are in the store's file; and
-- in the sections that have come no vertex and no edge stands twice.
pub record IsSavingKept (s : SavingView) : Type 0 where
  pub near : s.begun ≤ s.acknowledged + 1
  pub few : s.acknowledged + 1 < 2 ^ 32
  pub plain : s.stored ≡ false → s.acknowledged ≡ s.begun
  pub fits : 16 * s.entries ≤ s.store_end
  pub short : s.store_end < 2 ^ 32
  pub machines : length s.come < 65536
  pub lone : length s.come ≡ 0 → s.entries ≡ 0
  pub first : s.saved ≡ false → s.entries ≡ 0
  pub apart : (a : ℕ) → IsApartWhereCome (come_at s.come a)

-- the greatest colour, 0 with locks
abbrev pub greatest_colour : Engine → ℕ
greatest_colour Locking = 0
greatest_colour (Chromatic colours) = colours

-- The newest step is of one of the colours, and no more than two waves are counted.
pub record AreStepsKept (s : StepsView) : Type 0 where
  pub colour : s.colour ≤ greatest_colour s.engine
  pub since : s.since ≤ 2
