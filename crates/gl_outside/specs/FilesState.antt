-- Files by name, as callers see them.
use Rattle.std.specs.Prelude.{ℕ, Bool, nat_lt, List, [], length, Option, None, Some, slice_index_or}
use Rattle.gl_outside.specs.Disk.{DiskPast, at_rest}

-- The files that were opened in one way: how many faults of opening and of using them there were, the names that were
-- handed to the open in turn, where they are told, and what is known of each file, by its number.
pub record Opened (File : Type 0) : Type 0 where
  pub faults : ℕ
  pub names : Option (List (List ℕ))
  pub files : List File

-- a file that is open for writing: the name that gives what was written to it, until a newer file has that name, and what was
-- written, each where it is told
pub record Written : Type 0 where
  pub name : Option (List ℕ)
  pub bytes : Option (List ℕ)

-- What each name gives to a source, where that is told, and the files that were opened: for reading, each with what it has
-- left where that is told, and for writing. The states of the disk of each name, also before it is opened, and the disks
-- that were opened, each with its name where that is told.
pub record FilesState : Type 0 where
  pub contents : List ℕ → Option (List ℕ)
  pub sources : Opened (Option (List ℕ))
  pub sinks : Opened Written
  pub pasts : List ℕ → DiskPast
  pub disks : Opened (Option (List ℕ))

-- whether the number is that of a file that was opened
abbrev pub is_opened : {File : Type 0} → Opened File → ℕ → Bool
is_opened opened file = nat_lt file (length opened.files)

-- what a file that is open for reading has left
abbrev pub left_of : FilesState → ℕ → Option (List ℕ)
left_of state file = slice_index_or state.sources.files file None

-- a file that is open for writing
abbrev pub sink_of : FilesState → ℕ → Written
sink_of state file = slice_index_or state.sinks.files file (record { name = None; bytes = None })

-- what was written to it
abbrev pub written_of : FilesState → ℕ → Option (List ℕ)
written_of state file = (sink_of state file).bytes

-- the name of a file that is open as a disk
abbrev pub disk_name : FilesState → ℕ → Option (List ℕ)
disk_name state file = slice_index_or state.disks.files file None

-- the states of the disk of this name; where it is not told, of one without bytes
abbrev pub past_under : (List ℕ → DiskPast) → Option (List ℕ) → DiskPast
past_under pasts None = at_rest []
past_under pasts (Some name) = pasts name

-- the states of a file that is open as a disk
abbrev pub disk_past : FilesState → ℕ → DiskPast
disk_past state file = past_under state.pasts (disk_name state file)
