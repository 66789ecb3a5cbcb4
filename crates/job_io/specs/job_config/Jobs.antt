-- Which bytes are a job.
use Rattle.std.specs.Prelude.{◌≡◌, ℕ, List, Option, Some, None, Result, Ok, Err, codes, if◌then◌else◌, length, nat_lt}
use Rattle.std.specs.Str.{is_utf8}
use Rattle.gl_base.specs.declared.limits.TheConstants.{MAX_JOB_BYTES}
use Rattle.gl_base.specs.declared.job_faults.JobFault.{JobFault}
use Rattle.gl_base.specs.declared.job_faults.JobFault.TheVariants as fault
use Rattle.gl_base.specs.declared.jobs.FailureAt.{FailureAt}
use Rattle.serde_json.specs.Data.{Data, Members}
use Rattle.serde_json.specs.Find.{as_object, get}
use Rattle.serde_json.specs.Read.{read}
use Rattle.job_io.specs.declared.job_config.values.KeyFault.{KeyFault}
use Rattle.job_io.specs.declared.job_config.values.KeyFault.TheVariants.{Missing, WrongKind, OutOfRange}
use Rattle.job_io.specs.job_config.Failures.{failures_of, keys_in}
use Rattle.job_io.specs.job_config.Fields.{JobFields, fields_of}
use Rattle.job_io.specs.job_config.Keys.{least_unknown}
use Rattle.gl_base.specs.Results.{and_then}
use Rattle.gl_base.specs.Texts.{Text}

-- what a job says
pub record JobSayings : Type 0 where
  pub fields : JobFields
  pub failures : List FailureAt

abbrev pub job_fault : KeyFault → JobFault
job_fault (Missing k) = fault.Missing k
job_fault (WrongKind k) = fault.WrongKind k
job_fault (OutOfRange k n) = fault.OutOfRange k n

abbrev pub as_job : Result JobSayings KeyFault → Result JobSayings JobFault
as_job (Ok s) = Ok s
as_job (Err f) = Err (job_fault f)

-- the values key by key, the failures last
abbrev pub sayings_of : Data → Result JobSayings KeyFault
sayings_of d = and_then (fields_of d) (λ fields.
    and_then (failures_of fields.machines (get (codes "failures") d)) (λ failures.
    Ok (record { fields = fields; failures = failures })))

-- the least key that is none of a job comes first
abbrev pub job_with_keys : Option Text → Data → Result JobSayings JobFault
job_with_keys (Some k) d = Err (fault.UnknownKey k)
job_with_keys None d = as_job (sayings_of d)

abbrev pub job_of_object : Option Members → Data → Result JobSayings JobFault
job_of_object None d = Err fault.NotJson
job_of_object (Some ms) d = job_with_keys (least_unknown (keys_in ms)) d

abbrev pub job_of_json : Option Data → Result JobSayings JobFault
job_of_json None = Err fault.NotJson
job_of_json (Some d) = job_of_object (as_object d) d

-- what the bytes are as JSON, as `serde_json` reads them
abbrev pub json_of : List ℕ → Option Data
json_of bytes = if is_utf8 bytes then read bytes else None

-- what the bytes say as a job, or else their first fault
abbrev pub job_of : List ℕ → Result JobSayings JobFault
job_of bytes =
    if nat_lt MAX_JOB_BYTES (length bytes) then Err fault.TooLong else job_of_json (json_of bytes)

abbrev pub IsJob : List ℕ → JobSayings → Type 0
IsJob bytes said = job_of bytes ≡ Ok said
