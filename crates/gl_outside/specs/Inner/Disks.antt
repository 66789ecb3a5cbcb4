-- Disks in memory, inside `MemFiles`.
use Rattle.std.specs.Prelude.{◌≢◌, ℕ, ◌<◌, List, length}
use Rattle.gl_outside.specs.DiskStore.{NamedDisk, disk_at}

-- no two disks have one name
abbrev pub HaveOwnNames : List NamedDisk → Type 0
HaveOwnNames disks = (i j : ℕ) → i < j → j < length disks → (disk_at disks i).name ≢ (disk_at disks j).name

-- no disk has this name
abbrev pub IsUnknown : List NamedDisk → List ℕ → Type 0
IsUnknown disks name = (i : ℕ) → i < length disks → (disk_at disks i).name ≢ name
