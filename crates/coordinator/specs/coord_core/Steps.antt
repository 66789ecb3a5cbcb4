-- What the coordinator knows of its steps.
use Rattle.std.specs.Prelude.{Bool, if◌then◌else◌, min, suc, true, ℕ, ⊤, ◌<◌, ◌==◌, ◌≡◌, ◌↔◌, ◌⊎◌}
use Rattle.cluster_laws.specs.cluster_core.Settings as law
use Rattle.cluster_laws.specs.cluster_model.Rounds.{Rounds}
use Rattle.coordinator.specs.declared.coord_core.steps.Engine.{Engine}
use Rattle.coordinator.specs.declared.coord_core.steps.Engine.TheVariants.{Chromatic, Locking}

pub record StepsView : Type 0 where
  -- how updates are kept apart
  pub engine : Engine
  -- the colour of the newest step, 0 where none was put out
  pub colour : ℕ
  -- how many waves were put out since: 2 where there were more
  pub since : ℕ

-- no step was put out
abbrev pub first_steps : Engine → StepsView
first_steps engine = record { engine = engine; colour = 0; since = 0 }

-- ---- whose they are

-- the law's engine is this one
abbrev pub IsEngineOf : Engine → law.Engine → Type 0
IsEngineOf Locking engine = engine ≡ law.Locking
IsEngineOf (Chromatic colours) engine = (colour : ℕ → ℕ) × (engine ≡ law.Chromatic colour colours)

-- by colours the coordinator knows this of its steps
pub record IsStepOf (s : StepsView) (rounds : Rounds) : Type 0 where
  pub first : (rounds.steps ≡ 0) ↔ (s.colour ≡ 0)
  pub colour : rounds.colour ≡ s.colour
  pub since : min 2 rounds.since ≡ s.since

-- and with locks nothing
abbrev pub AreStepsOf : Engine → StepsView → Rounds → Type 0
AreStepsOf Locking s rounds = ⊤
AreStepsOf (Chromatic colours) s rounds = IsStepOf s rounds

-- ---- when a step is due

-- there are colours
abbrev pub HasColours : Engine → Type 0
HasColours Locking = ⊥
HasColours (Chromatic colours) = 0 < colours

-- There are colours, and no step was put out yet, or two waves were since and the last two were even.
pub record IsStepDue (s : StepsView) (even : Bool) : Type 0 where
  pub some : HasColours s.engine
  pub over : (s.colour ≡ 0) ⊎ ((s.since ≡ 2) × (even ≡ true))

-- the colours come in turn: after the greatest one 1 again
abbrev pub colour_in_turn : Engine → ℕ → ℕ
colour_in_turn Locking colour = 1
colour_in_turn (Chromatic colours) colour = if colour == colours then 1 else suc colour

-- ---- what changes it

-- the next step begins
abbrev pub steps_begun : StepsView → StepsView
steps_begun s = record s { colour = colour_in_turn s.engine s.colour; since = 0 }

-- one wave more is put out
abbrev pub steps_asked : StepsView → StepsView
steps_asked s = record s { since = min 2 (suc s.since) }
