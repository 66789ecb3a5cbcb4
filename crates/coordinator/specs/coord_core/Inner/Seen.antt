-- What the coordinator sees by itself.
use Rattle.std.specs.Prelude.{[], false, length, sum_by, true, ℕ, ⊤, ◌≡◌, ◌⊎◌}
use Rattle.cluster_laws.specs.cluster_model.Leading.{updates_told}
use Rattle.cluster_laws.specs.cluster_model.TwoWaves.{ShowTheEnd}
use Rattle.coordinator.specs.coord_core.Coordinators.{Counting, CoordinatorView, SavingView, first_counting, waiting_at}
use Rattle.coordinator.specs.coord_core.Steps.{HasColours, first_steps}
use Rattle.coordinator.specs.declared.coord_core.steps.Engine.{Engine}
use Rattle.coordinator.specs.declared.coord_core.steps.Engine.TheVariants.{Chromatic, Locking}
use Rattle.coordinator.specs.quiet_waves.Waves.{AreEvenWaves}

-- all answers have come, and the last two waves showed the end
pub record HasShownTheEnd (counting : Counting) : Type 0 where
  pub whole : counting.waiting ≡ false
  pub shown : ShowTheEnd counting.waves

-- the next snapshot is to begin
pub record WantsSnapshot (view : CoordinatorView) : Type 0 where
  pub stored : view.saving.stored ≡ true
  pub none : view.saving.acknowledged ≡ view.saving.begun
  pub wanted : (view.saving.wanted ≡ true) ⊎ (HasShownTheEnd view.counting
      × ((sum_by updates_told view.counting.waves.wave ≡ view.saving.entries → ⊥) ⊎ (view.saving.saved ≡ false)))

-- no snapshot is under way, and the last two waves showed the end
pub record SeesEnd (view : CoordinatorView) : Type 0 where
  pub none : view.saving.acknowledged ≡ view.saving.begun
  pub seen : HasShownTheEnd view.counting

-- the next step is to begin, as far as snapshots go
pub record WantsStep (view : CoordinatorView) : Type 0 where
  pub some : HasColours view.steps.engine
  pub whole : view.counting.waiting ≡ false
  pub over : (view.steps.colour ≡ 0) ⊎ ((view.steps.since ≡ 2) × AreEvenWaves view.counting.waves)

-- with locks waves and snapshots take turns
abbrev pub IsWaveTurn : Engine → SavingView → Type 0
IsWaveTurn Locking saving = saving.acknowledged ≡ saving.begun
IsWaveTurn (Chromatic colours) saving = ⊤

-- an attempt with so many machines begins with this
pub record IsFirstSaving (machines : ℕ) (engine : Engine) (first : SavingView) (view : CoordinatorView) : Type 0 where
  pub counting : view.counting ≡ first_counting machines
  pub steps : view.steps ≡ first_steps engine
  pub saving : view.saving ≡ first
  pub many : length view.out.machines ≡ machines
  pub none : (a : ℕ) → waiting_at view.out a ≡ []
