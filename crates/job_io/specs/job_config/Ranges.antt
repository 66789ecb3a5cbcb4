-- Where the numbers of a job lie.
use Rattle.std.specs.Prelude.{◌≡◌, ◌≤◌, [], ℕ, Option, None, is_some, true}
use Rattle.gl_base.specs.declared.jobs.Algorithm.{Algorithm}
use Rattle.job_io.specs.job_config.Failures.{first_faulty}
use Rattle.job_io.specs.job_config.Fields.{JobFields, needs_source}
use Rattle.job_io.specs.job_config.Jobs.{JobSayings}

abbrev pub IsWithin : ℕ → ℕ → ℕ → Type 0
IsWithin least most n = (least ≤ n) × (n ≤ most)

-- levels and paths have a source
abbrev pub HasSource : Algorithm → Option ℕ → Type 0
HasSource algorithm source = needs_source algorithm ≡ true → is_some source ≡ true

pub record HasNumbers (f : JobFields) : Type 0 where
  pub source : HasSource f.algorithm f.source
  pub machines : IsWithin 1 16 f.machines
  pub atoms : IsWithin 1 1024 f.atoms
  pub pipeline : IsWithin 1 256 f.pipeline
  pub budget : IsWithin 1 16777216 f.budget
  pub window : IsWithin 1 16777216 f.window

-- each number is in its range, and no failure is faulty
pub record IsInRanges (s : JobSayings) : Type 0 where
  pub numbers : HasNumbers s.fields
  pub failures : first_faulty s.fields.machines [] s.failures ≡ None
