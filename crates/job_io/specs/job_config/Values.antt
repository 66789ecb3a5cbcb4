-- One value of a job.
use Rattle.std.specs.Prelude.{◌&&◌, ℕ, Bool, Option, Some, None, Result, Ok, Err, codes, if◌then◌else◌, length, nat_le, nat_lt, option_and_then}
use Rattle.std.specs.Str.{bytes_eq}
use Rattle.gl_base.specs.Results.{and_then}
use Rattle.gl_base.specs.Texts.{Text}
use Rattle.gl_base.specs.declared.job_faults.Key.{Key}
use Rattle.gl_base.specs.declared.job_faults.Key.TheVariants as key
use Rattle.gl_base.specs.declared.jobs.Algorithm.{Algorithm}
use Rattle.gl_base.specs.declared.jobs.Algorithm.TheVariants.{Levels, Components, Paths, Colours, Cores, Pairs}
use Rattle.gl_base.specs.declared.jobs.EngineKind.{EngineKind}
use Rattle.gl_base.specs.declared.jobs.EngineKind.TheVariants.{Locking, Chromatic}
use Rattle.serde_json.specs.Data.{Data}
use Rattle.serde_json.specs.Find.{as_bool, as_number, as_str, as_u64}
use Rattle.job_io.specs.declared.job_config.values.KeyFault.{KeyFault}
use Rattle.job_io.specs.declared.job_config.values.KeyFault.TheVariants.{Missing, WrongKind, OutOfRange}

-- a text of one byte to `most`
abbrev pub text_at : Key → ℕ → Option Text → Result Text KeyFault
text_at k most None = Err (WrongKind k)
text_at k most (Some s) =
    if nat_lt 0 (length s) && nat_le (length s) most then Ok s else Err (OutOfRange k (length s))

abbrev pub text_in : Key → ℕ → Data → Result Text KeyFault
text_in k most d = text_at k most (as_str d)

-- a whole number in a range
abbrev pub number_at : Key → ℕ → ℕ → Option ℕ → Result ℕ KeyFault
number_at k least most None = Err (WrongKind k)
number_at k least most (Some n) =
    if nat_le least n && nat_le n most then Ok n else Err (OutOfRange k n)

abbrev pub whole_number : Data → Option ℕ
whole_number d = option_and_then as_u64 (as_number d)

abbrev pub whole_number_in : Key → ℕ → ℕ → Data → Result ℕ KeyFault
whole_number_in k least most d = number_at k least most (whole_number d)

abbrev pub flag_at : Key → Option Bool → Result Bool KeyFault
flag_at k None = Err (WrongKind k)
flag_at k (Some b) = Ok b

abbrev pub flag_in : Key → Data → Result Bool KeyFault
flag_in k d = flag_at k (as_bool d)

abbrev pub chosen : {A : Type 0} → Key → ℕ → Option A → Result A KeyFault
chosen k size None = Err (OutOfRange k size)
chosen k size (Some x) = Ok x

-- one of a few names
abbrev pub choice_at : {A : Type 0} → Key → (Text → Option A) → Option Text → Result A KeyFault
choice_at k named None = Err (WrongKind k)
choice_at k named (Some s) = chosen k (length s) (named s)

abbrev pub algorithm_named : Text → Option Algorithm
algorithm_named s = if bytes_eq s (codes "levels") then Some Levels
    else (if bytes_eq s (codes "components") then Some Components
    else (if bytes_eq s (codes "paths") then Some Paths
    else (if bytes_eq s (codes "colours") then Some Colours
    else (if bytes_eq s (codes "cores") then Some Cores
    else (if bytes_eq s (codes "pairs") then Some Pairs else None)))))

abbrev pub algorithm_in : Data → Result Algorithm KeyFault
algorithm_in d = choice_at key.Algorithm algorithm_named (as_str d)

abbrev pub engine_named : Text → Option EngineKind
engine_named s = if bytes_eq s (codes "locking") then Some Locking
    else (if bytes_eq s (codes "chromatic") then Some Chromatic else None)

abbrev pub engine_in : Data → Result EngineKind KeyFault
engine_in d = choice_at key.Engine engine_named (as_str d)

-- a key that has to be there
abbrev pub required : {A : Type 0} → Key → (Data → Result A KeyFault) → Option Data → Result A KeyFault
required k read None = Err (Missing k)
required k read (Some d) = read d

-- a key that may be absent
abbrev pub optional : {A : Type 0} → (Data → Result A KeyFault) → Option Data → Result (Option A) KeyFault
optional read None = Ok None
optional read (Some d) = and_then (read d) (λ x. Ok (Some x))

-- a key that stands for this value where it is absent
abbrev pub or_default : {A : Type 0} → A → (Data → Result A KeyFault) → Option Data → Result A KeyFault
or_default value read None = Ok value
or_default value read (Some d) = read d
