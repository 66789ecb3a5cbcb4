-- Which snapshots the bytes of a store stand for.
use Rattle.std.specs.Prelude.{◌≡◌, ◌⊎◌, ℕ, ◌+◌, List, [], ◌∷◌, ◌++◌, length, take, drop, Option, Some, None, Result, Ok, Err}
use Rattle.std.specs.Result.{result_unwrap_or}
use Rattle.store.specs.declared.store_format.header.Header.{Header}
use Rattle.store.specs.declared.store_format.faults.StoreFault.{StoreFault}
use Rattle.store.specs.store_format.Headers.{store_header_fault}
use Rattle.store.specs.store_format.Records.{bodies_from}

-- the fault, or else the records
abbrev pub unless_refused : Option StoreFault → Result (List (List ℕ)) StoreFault → Result (List (List ℕ)) StoreFault
unless_refused (Some fault) records = Err fault
unless_refused None records = records

-- the snapshots of a store for this header, each by the body of its record, or else the first fault of the store
abbrev pub read_store : Header → List ℕ → Result (List (List ℕ)) StoreFault
read_store header bytes =
    unless_refused (store_header_fault header (take 64 bytes)) (bodies_from header 1 64 0 (drop 64 bytes))

-- the bytes stand for these snapshots
abbrev pub DecodesTo : Header → List (List ℕ) → List ℕ → Type 0
DecodesTo header bodies bytes = read_store header bytes ≡ Ok bodies

-- the snapshots that the bytes stand for, none where they have a fault
abbrev pub stored_in : Header → List ℕ → List (List ℕ)
stored_in header bytes = result_unwrap_or (read_store header bytes) []

-- how many bytes records take, with their gates and lengths
abbrev pub records_size : List (List ℕ) → ℕ
records_size [] = 0
records_size (body ∷ bodies) = 9 + length body + records_size bodies

-- the bytes stand for these snapshots, or for these and one more
abbrev pub IsBeforeOrAfter : Header → List (List ℕ) → List ℕ → List ℕ → Type 0
IsBeforeOrAfter header bodies body bytes = DecodesTo header bodies bytes ⊎ DecodesTo header (bodies ++ body ∷ []) bytes
