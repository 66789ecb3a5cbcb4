-- A disk in memory, as its callers see it.
use Rattle.std.specs.Prelude.{◌⊎◌, ℕ, ◌<◌, List, length, fold}
use Rattle.gl_outside.specs.Calls.{CallCounts, NextFails, raised}
use Rattle.gl_outside.specs.Disk.{DiskPast, at_rest, after_sync, after_write, followed_by, with_piece}
use Rattle.gl_outside.specs.declared.disk_bytes.DiskCall.{DiskCall}
use Rattle.gl_outside.specs.declared.disk_bytes.DiskCall.TheVariants.{Wrote, Synced}

-- the states after one call more
abbrev pub after_disk_call : DiskPast → DiskCall → DiskPast
after_disk_call past (Wrote at piece) = followed_by past (after_write past.now at (length piece.items) (with_piece past.now.seen at piece.items))
after_disk_call past Synced = followed_by past (after_sync past.now)

-- bytes in memory as a disk: the first ones, and the calls that changed what is there or what a crash may leave
pub record KeptDisk : Type 0 where
  pub first : List ℕ
  pub done : List DiskCall

-- the states through which the calls led
abbrev pub past_of : KeptDisk → DiskPast
past_of disk = fold after_disk_call (at_rest disk.first) disk.done

-- a disk in memory: what it keeps, all its calls, and after how many of them all fail
pub record MemDiskState : Type 0 where
  pub kept : KeptDisk
  pub calls : CallCounts
  pub stop : ℕ

-- the next call fails: its number is listed, or it is past the first `stop` calls
abbrev pub NextStops : CallCounts → ℕ → Type 0
NextStops calls stop = NextFails calls ⊎ (stop < raised calls.count)
