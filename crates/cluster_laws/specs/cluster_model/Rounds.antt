-- What the coordinator knows of its waves and steps, and when the next step is due.
use Rattle.std.specs.Prelude.{false, if◌then◌else◌, suc, ℕ, ◌<◌, ◌==◌, ◌≡◌, ◌≤◌, ◌⊎◌}
use Rattle.gl_base.specs.declared.scopes.Counted.{Counted}
use Rattle.cluster_laws.specs.cluster_core.Settings.{Chromatic, Engine, Locking}
use Rattle.cluster_laws.specs.cluster_model.Counting.{Counting, count_answer, count_wave, first_counting}
use Rattle.cluster_laws.specs.cluster_model.TwoWaves.{total_received, total_sent}

-- Waves and steps so far.
pub record Rounds : Type 0 where
  -- what it knows of its waves
  pub counting : Counting
  -- how many steps it put out, the colour of the newest one, and how many waves it put out since
  pub steps : ℕ
  pub colour : ℕ
  pub since : ℕ

-- no wave and no step was put out
abbrev pub first_rounds : ℕ → Rounds
first_rounds machines = record { counting = first_counting machines; steps = 0; colour = 0; since = 0 }

-- ---- what it puts out

-- one wave more is put out
abbrev pub with_wave : Rounds → Rounds
with_wave c = record { counting = count_wave c.counting; steps = c.steps; colour = c.colour; since = suc c.since }

-- the colours come in turn: after the greatest one 1 again
abbrev pub next_colour : Engine → ℕ → ℕ
next_colour Locking c = c
next_colour (Chromatic colour colours) c = if c == colours then 1 else suc c

-- one step more is put out
abbrev pub with_step : Engine → Rounds → Rounds
with_step engine c = record { counting = c.counting; steps = suc c.steps; colour = next_colour engine c.colour; since = 0 }

-- ---- what it receives

-- the counts of machine a have come
abbrev pub with_counts : Rounds → ℕ → Counted → Rounds
with_counts c a counts = record { counting = count_answer c.counting a counts; steps = c.steps; colour = c.colour; since = c.since }

-- ---- when the next step is due

-- The last two waves were put out after the newest step, and both times as many messages had been sent, and as many received:
-- the same number.
pub record AreEven (c : Rounds) : Type 0 where
  pub two : 2 ≤ c.since
  pub received_before : total_received c.counting.waves.before ≡ total_sent c.counting.waves.before
  pub sent : total_sent c.counting.waves.wave ≡ total_sent c.counting.waves.before
  pub received : total_received c.counting.waves.wave ≡ total_sent c.counting.waves.before

-- there are colours, all counts of the last wave have come, and no step was put out yet or the newest one is over
pub record StepIsDue (engine : Engine) (c : Rounds) : Type 0 where
  pub colour : ℕ → ℕ
  pub colours : ℕ
  pub by : engine ≡ Chromatic colour colours
  pub some : 0 < colours
  pub whole : c.counting.waiting ≡ false
  pub over : (c.steps ≡ 0) ⊎ AreEven c
