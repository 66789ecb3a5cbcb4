-- Which bytes are a job that a verb can do.
use Rattle.std.specs.Prelude.{ℕ, Bool, true, false, List, length, nat_lt, Option, None, Some, is_some, Result, Ok, Err, if◌then◌else◌}
use Rattle.gl_base.specs.Results.{and_then}
use Rattle.gl_base.specs.declared.job_faults.JobFault.{JobFault}
use Rattle.gl_base.specs.declared.job_faults.JobFault.TheVariants.{Missing, Clash}
use Rattle.gl_base.specs.declared.job_faults.Key.{Key}
use Rattle.gl_base.specs.declared.job_faults.Key.TheVariants as key
use Rattle.gl_base.specs.declared.jobs.Algorithm.{Algorithm}
use Rattle.gl_base.specs.declared.jobs.Algorithm.TheVariants.{Levels, Components, Paths, Colours, Cores, Pairs}
use Rattle.gl_base.specs.declared.jobs.EngineKind.{EngineKind}
use Rattle.gl_base.specs.declared.jobs.EngineKind.TheVariants.{Locking, Chromatic}
use Rattle.job_io.specs.job_config.Jobs.{JobSayings, job_of}
use Rattle.job_io.specs.declared.job_files.jobs.JobVerb.{JobVerb}
use Rattle.job_io.specs.declared.job_files.jobs.JobVerb.TheVariants.{Run, Resume, Cut, Init}

-- updates are kept apart by colours
abbrev pub is_chromatic : EngineKind → Bool
is_chromatic Locking = false
is_chromatic Chromatic = true

-- The first key whose value does not go with pairs, if there is one: they are of edges that have no direction, and
-- are found without colours, a store or failures.
abbrev pub clash_of_pairs : JobSayings → Option Key
clash_of_pairs job =
    if job.fields.directed then Some key.Directed
    else (if is_chromatic job.fields.engine then Some key.Engine
    else (if is_some job.fields.store then Some key.Store
    else (if nat_lt 0 (length job.failures) then Some key.Failures else None)))

-- the first key whose value does not go with the algorithm, if there is one: core numbers are of edges
-- that have no direction
abbrev pub clash_of : Algorithm → JobSayings → Option Key
clash_of Levels job = None
clash_of Components job = None
clash_of Paths job = None
clash_of Colours job = None
clash_of Cores job = if job.fields.directed then Some key.Directed else None
clash_of Pairs job = clash_of_pairs job

-- the job, unless such a key is told
abbrev pub unless_key : JobSayings → Option Key → Result JobSayings JobFault
unless_key job None = Ok job
unless_key job (Some k) = Err (Clash k)

-- the job, where each key goes with its algorithm
abbrev pub agreeing : JobSayings → Result JobSayings JobFault
agreeing job = unless_key job (clash_of job.fields.algorithm job)

-- The job, where it has the key that the verb needs: `cut` needs the name for its files, and `resume` and
-- `init` the store's. Behind that each key has to go with the algorithm; but `cut` is of the graph alone.
abbrev pub doable : JobVerb → JobSayings → Result JobSayings JobFault
doable Run job = agreeing job
doable Resume job = if is_some job.fields.store then agreeing job else Err (Missing key.Store)
doable Cut job = if is_some job.fields.atoms_at then Ok job else Err (Missing key.AtomsAt)
doable Init job = if is_some job.fields.store then agreeing job else Err (Missing key.Store)

-- the job that the bytes say and that the verb can do, or else the first fault
abbrev pub job_for : JobVerb → List ℕ → Result JobSayings JobFault
job_for verb bytes = and_then (job_of bytes) (doable verb)
