-- The failures that a job orders.
use Rattle.std.specs.Prelude.{◌==◌, ◌∷◌, ◌++◌, ◌&&◌, ◌||◌, [], ℕ, Bool, List, Option, Some, None, Result, Ok, Err, codes, filter_map, if◌then◌else◌, is_some, length, min, nat_le, nat_lt, option_and_then, option_map}
use Rattle.std.specs.List.{list_all, list_any}
use Rattle.gl_base.specs.declared.job_faults.Key.TheVariants as key
use Rattle.gl_base.specs.declared.jobs.FailureAt.{FailureAt}
use Rattle.serde_json.specs.Data.{Data, Items, Members, no_items, item, no_members, member}
use Rattle.serde_json.specs.Find.{as_array, as_object, get}
use Rattle.job_io.specs.declared.job_config.values.KeyFault.{KeyFault}
use Rattle.job_io.specs.declared.job_config.values.KeyFault.TheVariants.{OutOfRange, WrongKind}
use Rattle.gl_base.specs.Texts.{Text}
use Rattle.job_io.specs.job_config.Values.{whole_number}

-- the keys of an object
abbrev pub keys_in : Members → List Text
keys_in no_members = []
keys_in (member k d ms) = k ∷ keys_in ms

-- the values of a list
abbrev pub values_in : Items → List Data
values_in no_items = []
values_in (item d ds) = d ∷ values_in ds

-- a failure; a machine above the greatest `u16` is out of each range, and counts as it
abbrev pub failure : ℕ → ℕ → FailureAt
failure machine after = record { machine = record { 0 = min machine 65535 }; after = after }

-- an object with exactly the two keys, both whole numbers
abbrev pub failure_in : Data → Option FailureAt
failure_in d = option_and_then (λ ms. if length (keys_in ms) == 2
    then option_and_then (λ machine. option_map (failure machine)
    (option_and_then whole_number (get (codes "after") d)))
    (option_and_then whole_number (get (codes "machine") d))
    else None) (as_object d)

abbrev pub same_failure : FailureAt → FailureAt → Bool
same_failure a b = (a.machine.0 == b.machine.0) && (a.after == b.after)

-- the failure is of no machine of the job, comes at no count, stands there already, or is one too many
abbrev pub is_faulty : ℕ → List FailureAt → FailureAt → Bool
is_faulty machines earlier f = nat_le 64 (length earlier) || (nat_le machines f.machine.0
    || (f.after == 0 || (nat_lt 16777216 f.after || list_any (same_failure f) earlier)))

-- the place of the first that is faulty, after the earlier ones
abbrev pub first_faulty : ℕ → List FailureAt → List FailureAt → Option ℕ
first_faulty machines earlier [] = None
first_faulty machines earlier (f ∷ fs) = if is_faulty machines earlier f then Some (length earlier)
    else first_faulty machines (earlier ++ f ∷ []) fs

abbrev pub unless_faulty : Option ℕ → List FailureAt → Result (List FailureAt) KeyFault
unless_faulty None fs = Ok fs
unless_faulty (Some place) fs = Err (OutOfRange key.Failures place)

-- each value has to be a failure before one is out of its range
abbrev pub failure_list : ℕ → List Data → Result (List FailureAt) KeyFault
failure_list machines ds = if list_all (λ d. is_some (failure_in d)) ds
    then unless_faulty (first_faulty machines [] (filter_map failure_in ds)) (filter_map failure_in ds)
    else Err (WrongKind key.Failures)

abbrev pub listed_failures : ℕ → Option Items → Result (List FailureAt) KeyFault
listed_failures machines None = Err (WrongKind key.Failures)
listed_failures machines (Some items) = failure_list machines (values_in items)

-- the failures, by the number of machines
abbrev pub failures_of : ℕ → Option Data → Result (List FailureAt) KeyFault
failures_of machines None = Ok []
failures_of machines (Some d) = listed_failures machines (as_array d)
