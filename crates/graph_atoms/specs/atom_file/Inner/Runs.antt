-- Records of one kind that stand one after another, and where their reader stands.
use Rattle.std.specs.Prelude.{◌≡◌, ℕ, ◌+◌, ◌*◌, ◌^◌, ◌<◌, ◌≤◌, ◌⊎◌, List, length, slice_index, Option}
use Rattle.graph_atoms.specs.declared.atom_file.faults.AtomFault.{AtomFault}
use Rattle.graph_atoms.specs.declared.atom_file.runs.RecordKind.{RecordKind}
use Rattle.graph_atoms.specs.declared.atom_file.runs.RecordKind.TheVariants.{Vertices, Ghosts, Edges}
use Rattle.graph_atoms.specs.declared.atom_file.runs.Place.{Place}
use Rattle.graph_atoms.specs.atom_file.Fields.{field}
use Rattle.graph_atoms.specs.atom_file.Faults.{record_size, record_key, records_fault}

-- the tag of a record of this kind
abbrev pub tag_of : RecordKind → ℕ
tag_of Vertices = 1
tag_of Ghosts = 2
tag_of Edges = 3

-- how many bytes it has
abbrev pub size_of : RecordKind → ℕ
size_of Vertices = 13
size_of Ghosts = 15
size_of Edges = 17

-- the first fault of what is still to be read
abbrev pub fault_from : List ℕ → Place → Option AtomFault
fault_from bytes place = records_fault bytes place.left place.least place.at

-- from this place on stand n records with this tag and size, and their numbers rise
pub record IsRecordRun (bytes : List ℕ) (tag size at n : ℕ) : Type 0 where
  pub within : at + size * n ≤ length bytes
  pub tags : (i : ℕ) → i < n → slice_index bytes (at + size * i) ≡ tag
  pub rising : (i : ℕ) → i + 1 < n → field bytes (at + size * i + 1) 4 < field bytes (at + size * (i + 1) + 1) 4

-- n records of the kind lead from one place to the other
pub record IsRunBetween (bytes : List ℕ) (kind : RecordKind) (start : Place) (n : ℕ) (end : Place) : Type 0 where
  pub left : end.left + n ≡ start.left
  pub at : end.at ≡ start.at + size_of kind * n
  pub run : IsRecordRun bytes (tag_of kind) (size_of kind) start.at n
  pub passed : (end ≡ start) ⊎ (tag_of kind * 2 ^ 32 < end.least)

-- a record that begins here has a key below the least one
abbrev pub IsBelow : List ℕ → Place → Type 0
IsBelow bytes place =
    place.at < length bytes → 0 < record_size (slice_index bytes place.at) → record_key bytes place.at < place.least
