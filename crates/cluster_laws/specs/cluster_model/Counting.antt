-- What the coordinator knows of its waves, and what is due.
use Rattle.std.specs.Prelude.{Bool, None, false, length, not, slice_index_or, suc, true, ℕ, ◌<◌, ◌≡◌}
use Rattle.gl_base.specs.declared.scopes.Counted.{Counted}
use Rattle.cluster_laws.specs.cluster_model.TwoWaves.{TwoWaves, answered, all_answered, no_waves, turned}

-- What the coordinator has counted.
pub record Counting : Type 0 where
  -- how many waves were put out, and whether counts of the newest are missing
  pub put_out : ℕ
  pub waiting : Bool
  pub waves : TwoWaves

-- no wave was put out
abbrev pub first_counting : ℕ → Counting
first_counting machines = record { put_out = 0; waiting = false; waves = no_waves machines }

-- one wave more is put out
abbrev pub count_wave : Counting → Counting
count_wave c = record { put_out = suc c.put_out; waiting = true; waves = c.waves }

-- the counts of machine a have come
abbrev pub count_answer : Counting → ℕ → Counted → Counting
count_answer c a counts =
    let waves = answered c.waves a counts in
    record { put_out = c.put_out; waiting = not (all_answered waves.wave); waves = waves }

-- Counts of machine a for wave k may be received: it is the newest wave, and those of machine a are missing.
pub record MayBeCounted (c : Counting) (a k : ℕ) : Type 0 where
  pub newest : suc k ≡ c.put_out
  pub waiting : c.waiting ≡ true
  pub machine : a < length c.waves.wave
  pub missing : slice_index_or (turned c.waves).wave a None ≡ None
