-- The first fault of an atom file that is read from front to back.
use Rattle.std.specs.Prelude.{ℕ, zero, suc, ◌+◌, ◌*◌, ◌^◌, ◌==◌, nat_lt, nat_le, if◌then◌else◌, List, length, slice_index, Option, Some, None, codes}
use Rattle.std.specs.Option.{option_or}
use Rattle.byteorder.specs.Endian.{big_number}
use Rattle.graph_atoms.specs.declared.atom_file.faults.AtomFault.{AtomFault}
use Rattle.graph_atoms.specs.declared.atom_file.faults.AtomFault.TheVariants.{Torn, BadTag, OutOfOrder, Trailing}
use Rattle.graph_atoms.specs.atom_file.Fields.{field}

-- the file ends before this place
abbrev pub torn_fault : List ℕ → ℕ → Option AtomFault
torn_fault bytes end = if nat_lt (length bytes) end then Some (Torn (length bytes)) else None

-- the n bytes from this place on are there, and are those of the number x
abbrev pub value_fault : List ℕ → ℕ → ℕ → ℕ → Option AtomFault
value_fault bytes at n x =
    option_or (torn_fault bytes (at + n)) (if field bytes at n == x then None else Some (BadTag at))

-- the word in front, the version, the atom's number, zero, and the number of records, in this order
abbrev pub header_fault : List ℕ → Option AtomFault
header_fault bytes =
    option_or (value_fault bytes 0 8 (big_number 8 (codes "GLABATOM")))
    (option_or (value_fault bytes 8 4 1) (option_or (value_fault bytes 14 2 0) (torn_fault bytes 20)))

-- how many bytes a record with this tag has, and 0 where no record has it
abbrev pub record_size : ℕ → ℕ
record_size tag = if tag == 1 then 13 else if tag == 2 then 15 else if tag == 3 then 17 else 0

-- the records of a file rise by this number: by tag, and within a tag by the number of the vertex or edge
abbrev pub record_key : List ℕ → ℕ → ℕ
record_key bytes at = slice_index bytes at * 2 ^ 32 + field bytes (at + 1) 4

-- what is wrong with the record at this place, where its key has to be at least this one
abbrev pub record_fault : List ℕ → ℕ → ℕ → Option AtomFault
record_fault bytes least at =
    if nat_le (length bytes) at then Some (Torn (length bytes))
    else if record_size (slice_index bytes at) == 0 then Some (BadTag at)
    else if nat_lt (length bytes) (at + record_size (slice_index bytes at)) then Some (Torn (length bytes))
    else if nat_lt (record_key bytes at) least then Some (OutOfOrder at)
    else None

-- the first fault of so many records from this place on, and of what follows them
abbrev pub records_fault : List ℕ → ℕ → ℕ → ℕ → Option AtomFault
records_fault bytes zero least at = if nat_lt at (length bytes) then Some (Trailing at) else None
records_fault bytes (suc left) least at =
    option_or (record_fault bytes least at)
    (records_fault bytes left (record_key bytes at + 1) (at + record_size (slice_index bytes at)))

-- the first fault of a file: of its header, or else of its records, as many as the header says
abbrev pub atom_fault : List ℕ → Option AtomFault
atom_fault bytes = option_or (header_fault bytes) (records_fault bytes (field bytes 16 4) 0 20)
