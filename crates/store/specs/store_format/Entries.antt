-- The entries of a record, and the first of their fields that hasn't a value that it may have.
use Rattle.std.specs.Prelude.{ℕ, zero, suc, ◌+◌, ◌*◌, ◌==◌, if◌then◌else◌, nat_le, List, slice_index, Option, Some, None}
use Rattle.std.specs.Option.{option_or}
use Rattle.store.specs.declared.store_format.header.Header.{Header}
use Rattle.store.specs.store_format.Fields.{field, bad_outside}

-- an entry of kind 1 is a Go, and one of kind 2 a Restart
abbrev pub kind_at : List ℕ → ℕ → ℕ
kind_at body at = slice_index body at

-- entries stand by their tickets, and at one ticket a Restart stands before a Go
abbrev pub rank : ℕ → ℕ → ℕ
rank kind ticket = 2 * ticket + (if kind == 1 then 1 else 0)

abbrev pub rank_at : List ℕ → ℕ → ℕ
rank_at body at = rank (kind_at body at) (field body (at + 8) 8)

-- a Restart has machine 0 and vertex 0
abbrev pub limit_of_kind : ℕ → ℕ → ℕ
limit_of_kind kind limit = if kind == 1 then limit else 1

-- The first bad field of the entry at this place of the body of snapshot `number`. Its ticket is below 33554432 times the
-- number, and its rank is not below that of the entry before it.
abbrev pub entry_fault : Header → ℕ → ℕ → List ℕ → ℕ → Option ℕ
entry_fault header number least body at =
    option_or (bad_outside 1 3 (kind_at body at) at)
    (option_or (bad_outside 0 1 (slice_index body (at + 1)) (at + 1))
    (option_or (bad_outside 0 (limit_of_kind (kind_at body at) header.machines) (field body (at + 2) 2) (at + 2))
    (option_or (bad_outside 0 (limit_of_kind (kind_at body at) header.n) (field body (at + 4) 4) (at + 4))
    (option_or (bad_outside 0 (33554432 * number) (field body (at + 8) 8) (at + 8))
    (if nat_le least (rank_at body at) then None else Some (at + 8))))))

-- the first bad field of so many entries, one behind the other
abbrev pub entries_fault : Header → ℕ → ℕ → ℕ → List ℕ → ℕ → Option ℕ
entries_fault header number least zero body at = None
entries_fault header number least (suc count) body at =
    option_or (entry_fault header number least body at)
    (entries_fault header number (rank_at body at) count body (at + 16))
