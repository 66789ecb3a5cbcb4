-- Disks in memory by name, as their callers see them.
use Rattle.std.specs.Prelude.{◌≤◌, ℕ, ◌^◌, List, [], ◌∷◌, length, map, None, Option, Some, bytes_eq, if◌then◌else◌, slice_index_or}
use Rattle.gl_outside.specs.Calls.{CallCounts}
use Rattle.gl_outside.specs.Disk.{DiskPast, at_rest}
use Rattle.gl_outside.specs.FilesState.{Opened, past_under}
use Rattle.gl_outside.specs.MemDisk.{KeptDisk, past_of}

-- a disk: its name, and what it keeps
pub record NamedDisk : Type 0 where
  pub name : List ℕ
  pub kept : KeptDisk

-- The disks, no two of one name. Of those that were opened the place of each, by its number, and the names that were
-- handed to `open_disk`. All calls on disks, opens included, and after how many of them all fail.
pub record DisksState : Type 0 where
  pub disks : List NamedDisk
  pub places : List ℕ
  pub names : List (List ℕ)
  pub calls : CallCounts
  pub stop : ℕ

-- the states of the disk of this name; where there is none, those of one without bytes
abbrev pub past_among : List NamedDisk → List ℕ → DiskPast
past_among [] name = at_rest []
past_among (disk ∷ disks) name = if bytes_eq disk.name name then past_of disk.kept else past_among disks name

-- the disk at this place, one without a name and bytes past the last
abbrev pub disk_at : List NamedDisk → ℕ → NamedDisk
disk_at disks place = slice_index_or disks place (record { name = []; kept = record { first = []; done = [] } })

-- its name, as that of an open disk
abbrev pub told_name : List NamedDisk → ℕ → Option (List ℕ)
told_name disks place = Some (disk_at disks place).name

-- the disks that are open, as every caller of `Files` sees them
abbrev pub opened_disks : DisksState → Opened (Option (List ℕ))
opened_disks store = record { faults = store.calls.faults; names = Some store.names; files = map (told_name store.disks) store.places }

-- the states of an open disk
abbrev pub past_in : DisksState → ℕ → DiskPast
past_in store file = past_under (past_among store.disks) (slice_index_or (opened_disks store).files file None)

-- as many disks were opened as there are numbers for them
abbrev pub HasNoDiskNumber : DisksState → Type 0
HasNoDiskNumber store = 2 ^ 32 ≤ length store.places
