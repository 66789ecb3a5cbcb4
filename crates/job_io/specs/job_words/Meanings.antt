-- What a line means.
use Rattle.std.specs.Prelude.{◌==◌, ◌&&◌, ◌*◌, ◌-◌, ◌/◌, ◌||◌, ℕ, Bool, Option, Some, None, Result, Ok, Err, codes, false, if◌then◌else◌, is_some, length, min, nat_lt, not}
use Rattle.std.specs.Option.{option_map_or}
use Rattle.std.specs.Char.{is_ascii_digit}
use Rattle.std.specs.List.{list_all}
use Rattle.std.specs.Str.{bytes_eq}
use Rattle.std.specs.Str.Parse.{digits_value}
use Rattle.gl_base.specs.declared.limits.TheConstants.{MAX_VERTICES, MAX_EDGES}
use Rattle.gl_base.specs.declared.jobs.MakePlan.{MakePlan}
use Rattle.gl_base.specs.declared.usage_faults.Opt.{Opt}
use Rattle.gl_base.specs.declared.usage_faults.Opt.TheVariants as opt
use Rattle.gl_base.specs.declared.usage_faults.UsageFault.{UsageFault}
use Rattle.gl_base.specs.declared.usage_faults.UsageFault.TheVariants as fault
use Rattle.job_io.specs.declared.job_words.words.Words.{Words}
use Rattle.job_io.specs.declared.job_words.words.Words.TheVariants.{Run, Resume, Make, Cut, Init}
use Rattle.job_io.specs.job_words.Lines.{Sayings}
use Rattle.gl_base.specs.Results.{and_then}
use Rattle.gl_base.specs.Texts.{Text}

-- one digit or more
abbrev pub is_number : Text → Bool
is_number text = not (length text == 0) && list_all is_ascii_digit text

-- how many edges a generated graph of so many vertices may have
abbrev pub most_edges : ℕ → ℕ
most_edges vertices = min MAX_EDGES (vertices * ((vertices - 1) / 2))

-- the plan, where each number is in its range
abbrev pub plan_in_range : ℕ → ℕ → ℕ → Option ℕ → Result MakePlan UsageFault
plan_in_range number vertices edges weight =
    if nat_lt 4294967295 number then Err (fault.Range opt.Number)
    else (if nat_lt MAX_VERTICES vertices then Err (fault.Range opt.Vertices)
    else (if nat_lt (most_edges vertices) edges then Err (fault.Range opt.Edges)
    else (if option_map_or (nat_lt 4294967295) weight false then Err (fault.Range opt.Weight)
    else Ok (record { number = number; vertices = vertices; edges = edges; weight = weight }))))

-- the number of an option's text; one above the greatest `u64` is out of each range, and counts as it
abbrev pub option_number : Opt → Text → Result ℕ UsageFault
option_number option text = if is_number text then Ok (min (digits_value 10 text) 18446744073709551615)
    else Err (fault.Number option)

abbrev pub option_weight : Option Text → Result (Option ℕ) UsageFault
option_weight None = Ok None
option_weight (Some text) = and_then (option_number opt.Weight text) (λ n. Ok (Some n))

-- all but the weight are needed; each is a number before one is out of its range
abbrev pub plan_of : Option Text → Option Text → Option Text → Option Text
    → Result MakePlan UsageFault
plan_of (Some number) (Some vertices) (Some edges) weight =
    and_then (option_number opt.Number number) (λ n. and_then (option_number opt.Vertices vertices) (λ v.
    and_then (option_number opt.Edges edges) (λ e. and_then (option_weight weight) (plan_in_range n v e))))
plan_of _ _ _ weight = Err fault.Missing

abbrev pub make_words : Text → Result MakePlan UsageFault → Result Words UsageFault
make_words prefix (Ok plan) = Ok (Make prefix plan)
make_words prefix (Err f) = Err f

-- an option stands there that only `make` takes
abbrev pub has_option : Sayings → Bool
has_option s = is_some s.number || (is_some s.vertices || (is_some s.edges || is_some s.weight))

-- what the line means, or its first fault
abbrev pub meaning_of : Sayings → Result Words UsageFault
meaning_of s = if bytes_eq s.verb (codes "run")
    then (if has_option s then Err fault.NotHere else Ok (Run s.file s.report))
    else (if bytes_eq s.verb (codes "resume")
    then (if has_option s then Err fault.NotHere else Ok (Resume s.file s.report))
    else (if bytes_eq s.verb (codes "make")
    then (if s.report then Err fault.NotHere
    else make_words s.file (plan_of s.number s.vertices s.edges s.weight))
    else (if bytes_eq s.verb (codes "cut")
    then (if s.report || has_option s then Err fault.NotHere else Ok (Cut s.file))
    else (if bytes_eq s.verb (codes "init")
    then (if s.report || has_option s then Err fault.NotHere else Ok (Init s.file))
    else Err fault.Verb))))
