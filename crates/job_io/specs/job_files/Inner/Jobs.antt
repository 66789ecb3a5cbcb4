-- What reading a job's file answers.
use Rattle.std.specs.Prelude.{◌≡◌, ℕ, List, ⊤, Option, None, Some, Result, Ok, Err}
use Rattle.gl_base.specs.declared.job_faults.JobFault.{JobFault}
use Rattle.gl_base.specs.declared.jobs.Job.{Job}
use Rattle.gl_outside.specs.Faults.{Rose}
use Rattle.gl_outside.specs.FilesState.{FilesState}
use Rattle.job_io.specs.job_config.Jobs.{JobSayings}
use Rattle.job_io.specs.job_config.Views.{job_view}
use Rattle.job_io.specs.whole_files.FilesUsed.{OfText}
use Rattle.job_io.specs.declared.job_files.jobs.JobVerb.{JobVerb}
use Rattle.job_io.specs.declared.job_files.jobs.NoJob.{NoJob}
use Rattle.job_io.specs.declared.job_files.jobs.NoJob.TheVariants as job
use Rattle.job_io.specs.job_files.DoableJobs.{job_for}
use Rattle.job_io.specs.job_files.Inputs.{IsReady}
use Rattle.job_io.specs.job_files.JobTexts.{SaysJob}

-- the job, unless it is refused
abbrev pub said_unless : JobSayings → Option JobFault → Result JobSayings JobFault
said_unless said None = Ok said
said_unless said (Some fault) = Err fault

-- what reading the job's file answers
abbrev pub TakesJob : JobVerb → FilesState → ℕ → List ℕ → Result Job NoJob → Type 0
TakesJob verb files now name (Ok job) = IsReady verb (job_view job) × SaysJob verb files name (job_view job)
TakesJob verb files now name (Err (job.Refused fault)) = OfText files name (λ bytes. job_for verb bytes ≡ Err fault)
TakesJob verb files now name (Err job.ReadFault) = Rose files.sources.faults now
TakesJob verb files now name (Err job.NoMemory) = ⊤
