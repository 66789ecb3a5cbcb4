-- What a job's file tells from which a job was read.
use Rattle.std.proofs.Common.{◌≡◌, ◌≤◌, ◌<◌, ℕ, List, length, Result, Ok, Err, cond, refl, sym, ap, ◌∙◌, arith, ⊎_elim, length-take}
use Rattle.std.proofs.lemmas.Bool.{cases_lt, lt-ltb}
use Rattle.gl_base.specs.declared.job_faults.JobFault.{JobFault}
use Rattle.gl_base.specs.declared.job_faults.JobFault.TheVariants.{TooLong}
use Rattle.gl_base.specs.declared.limits.TheConstants.{MAX_JOB_BYTES}
use Rattle.gl_base.specs.declared.jobs.Job.{Job}
use Rattle.job_io.specs.job_config.Jobs.{JobSayings, job_of, job_of_json, json_of}
use Rattle.job_io.specs.job_config.Ranges.{IsInRanges}
use Rattle.job_io.specs.job_config.Views.{job_view}
use Rattle.gl_base.specs.declared.memory.OrNoMemory.{OrNoMemory}
use Rattle.gl_base.specs.declared.memory.OrNoMemory.TheVariants.{Fault, NoMemory as NoMemoryForJob}
use Rattle.gl_outside.specs.FilesState.{FilesState}
use Rattle.gl_base.specs.Results.{and_then}
use Rattle.job_io.specs.declared.job_files.jobs.NoJob.TheVariants.{Refused}
use Rattle.job_io.specs.declared.whole_files.reading.NotRead.{NotRead}
use Rattle.job_io.specs.job_files.Inner.Causes.{no_job_of_bytes, no_job_of_file}
use Rattle.job_io.specs.whole_files.FilesUsed.{OfText}
use Rattle.job_io.specs.whole_files.FilesRead.{IsFront, ReadsFront}
use Rattle.job_io.specs.job_files.Inner.Jobs.{TakesJob}
use Rattle.job_io.proofs.whole_files.TextsRead.{OfRead-map}
use Rattle.job_io.specs.job_files.DoableJobs.{job_for, doable}
use Rattle.job_io.specs.declared.job_files.jobs.JobVerb.{JobVerb}
use Rattle.job_io.specs.declared.whole_files.reading.NotRead.TheVariants as file

-- too many bytes are no job
too_long : (bytes : List ℕ) → MAX_JOB_BYTES < length bytes → job_of bytes ≡ Err TooLong
too_long bytes many = ap (λ b. cond b (Err TooLong) (job_of_json (json_of bytes))) (lt-ltb MAX_JOB_BYTES (length bytes) many)

-- the front of a job's file says what the file says
front-job : (text bytes : List ℕ) → IsFront MAX_JOB_BYTES text bytes → job_of text ≡ job_of bytes
front-job text bytes front =
    ⊎_elim
    (λ many.
    let fewer : length bytes ≤ length text = omega (arith, ap length front.front, length-take (length bytes) text) in
    too_long text (omega (arith, many, fewer)) ∙ sym (too_long bytes many))
    (λ few. ap job_of (sym (front.whole few)))
    (cases_lt MAX_JOB_BYTES (length bytes))

-- the file was not read
pub job-unread : (verb : JobVerb) (files : FilesState) (now : ℕ) (name : List ℕ) (why : NotRead)
    → ReadsFront MAX_JOB_BYTES files.sources.names (files.contents name) files.sources.faults now (Err why) → TakesJob verb files now name (Err (no_job_of_file why))
job-unread verb files now name file.ReadFault takes = takes
job-unread verb files now name file.NoMemory takes = tt

-- the bytes are no job
pub job-refused : (verb : JobVerb) (files : FilesState) (now : ℕ) (name bytes : List ℕ) (reading : OrNoMemory JobFault) → OfText files name (λ t. IsFront MAX_JOB_BYTES t bytes)
    → ((f : JobFault) → reading ≡ Fault f → job_of bytes ≡ Err f) → TakesJob verb files now name (Err (no_job_of_bytes reading))
job-refused verb files now name bytes (Fault fault) front refused =
    OfRead-map files.sources.names (files.contents name) (λ t. IsFront MAX_JOB_BYTES t bytes) (λ t. job_for verb t ≡ Err fault) (λ t f. ap (λ (r : Result JobSayings JobFault). and_then r (doable verb)) (front-job t bytes f ∙ refused fault refl)) front
job-refused verb files now name bytes NoMemoryForJob front refused = tt

-- the verb can't do the job
pub job-not-doable : (verb : JobVerb) (files : FilesState) (now : ℕ) (name bytes : List ℕ) (job : JobSayings) (fault : JobFault) → OfText files name (λ t. IsFront MAX_JOB_BYTES t bytes)
    → job_of bytes ≡ Ok job → doable verb job ≡ Err fault → TakesJob verb files now name (Err (Refused fault))
job-not-doable verb files now name bytes job fault front is refused =
    OfRead-map files.sources.names (files.contents name) (λ t. IsFront MAX_JOB_BYTES t bytes) (λ t. job_for verb t ≡ Err fault)
    (λ t f. ap (λ (r : Result JobSayings JobFault). and_then r (doable verb)) (front-job t bytes f ∙ is) ∙ refused) front

-- the verb can do the job
pub job-ready : (verb : JobVerb) (files : FilesState) (now : ℕ) (name bytes : List ℕ) (job : Job) → OfText files name (λ t. IsFront MAX_JOB_BYTES t bytes)
    → job_of bytes ≡ Ok (job_view job) → IsInRanges (job_view job) → doable verb (job_view job) ≡ Ok (job_view job) → TakesJob verb files now name (Ok job)
job-ready verb files now name bytes job front is ranges ready = (
  record { doable = ready; numbers = ranges.numbers; failures = ranges.failures },
  OfRead-map files.sources.names (files.contents name) (λ t. IsFront MAX_JOB_BYTES t bytes) (λ t. job_for verb t ≡ Ok (job_view job))
      (λ t f. ap (λ (r : Result JobSayings JobFault). and_then r (doable verb)) (front-job t bytes f ∙ is) ∙ ready) front,
)
