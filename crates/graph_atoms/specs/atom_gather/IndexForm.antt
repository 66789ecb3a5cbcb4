-- The first fault of the form of an index file that is read from front to back.
use Rattle.std.specs.Prelude.{ℕ, zero, suc, ◌+◌, ◌*◌, nat_lt, if◌then◌else◌, List, length, Option, Some, None, codes}
use Rattle.std.specs.Option.{option_or}
use Rattle.byteorder.specs.Endian.{big_number}
use Rattle.graph_atoms.specs.declared.atom_file.faults.AtomFault.{AtomFault}
use Rattle.graph_atoms.specs.declared.atom_file.faults.AtomFault.TheVariants.{BadTag, OutOfOrder, Trailing}
use Rattle.graph_atoms.specs.atom_file.Fields.{field}
use Rattle.graph_atoms.specs.atom_file.Faults.{torn_fault, value_fault}

-- the number of the n bytes from this place on is in a range
abbrev pub range_fault : List ℕ → ℕ → ℕ → ℕ → ℕ → Option AtomFault
range_fault bytes at n low high =
    option_or (torn_fault bytes (at + n))
    (if nat_lt (field bytes at n) low then Some (BadTag at) else if nat_lt high (field bytes at n) then Some (BadTag at) else None)

-- how many atoms the index tells, and where its meta-edges begin
abbrev pub atoms_in : List ℕ → ℕ
atoms_in bytes = field bytes 46 2

abbrev pub metas_at : List ℕ → ℕ
metas_at bytes = 52 + 12 * atoms_in bytes

-- the word in front, the version, a digest, 0 or 1, zero, the number of atoms, their counts, and the number of meta-edges
abbrev pub head_fault : List ℕ → Option AtomFault
head_fault bytes =
    option_or (value_fault bytes 0 8 (big_number 8 (codes "GLABINDX")))
    (option_or (value_fault bytes 8 4 1)
    (option_or (range_fault bytes 44 1 0 1)
    (option_or (value_fault bytes 45 1 0) (option_or (range_fault bytes 46 2 1 1024) (torn_fault bytes (metas_at bytes))))))

-- the first fault of so many meta-edges from this place on, whose pairs of atoms rise, and of what follows them
abbrev pub metas_fault : List ℕ → ℕ → ℕ → ℕ → Option AtomFault
metas_fault bytes zero least at = if nat_lt at (length bytes) then Some (Trailing at) else None
metas_fault bytes (suc left) least at =
    option_or (torn_fault bytes (at + 8))
    (if nat_lt (field bytes at 4) least then Some (OutOfOrder at) else metas_fault bytes left (field bytes at 4 + 1) (at + 8))

-- the first fault of the index
abbrev pub index_fault : List ℕ → Option AtomFault
index_fault bytes =
    option_or (head_fault bytes) (metas_fault bytes (field bytes (48 + 12 * atoms_in bytes) 4) 0 (metas_at bytes))
