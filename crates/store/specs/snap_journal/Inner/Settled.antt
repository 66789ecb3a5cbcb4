-- What a journal knows of its disk.
use Rattle.std.specs.Prelude.{◌≡◌, ℕ, ◌+◌, ◌-◌, ◌^◌, ◌<◌, Bool, false, List, length, take, drop, is_ok, IsTrue}
use Rattle.store.specs.declared.store_format.header.Header.{Header}
use Rattle.store.specs.snap_journal.Disks.{DiskPast, DiskState}
use Rattle.store.specs.snap_journal.Formats.{read_store, stored_in, records_size, IsBody}
use Rattle.store.specs.store_format.Records.{stored_bytes}

-- all of what a read gives is on the disk, and these are the bytes
pub record IsAtRest (now : DiskState) (bytes : List ℕ) : Type 0 where
  pub seen : now.seen ≡ bytes
  pub synced : now.synced ≡ bytes
  pub quiet : length now.written ≡ 0

-- The bytes that a disk reads stand for so many snapshots, the gate behind them stands at this place, and a crash leaves just
-- what a read gives.
pub record IsSettled (header : Header) (count gate : ℕ) (past : DiskPast) : Type 0 where
  pub reads : IsTrue (is_ok (read_store header past.now.seen))
  pub counts : count ≡ length (stored_in header past.now.seen)
  pub place : gate ≡ 64 + records_size (stored_in header past.now.seen)
  pub synced : past.now.synced ≡ past.now.seen
  pub quiet : length past.now.written ≡ 0

-- a journal that has not failed knows its disk, where that is told
pub record KnowsDisk (told : Type 0) (header : Header) (count gate : ℕ) (failed : Bool) (past : DiskPast) : Type 0 where
  pub within : gate + 1 < 2 ^ 64
  pub settled : told → failed ≡ false → IsSettled header count gate past

-- the body between a length and a closed gate
abbrev pub body_between : List ℕ → List ℕ
body_between piece = take (length piece - 9) (drop 8 piece)

-- the piece holds the body of the next snapshot, with its length and a closed gate
pub record FollowsOn (header : Header) (count : ℕ) (piece : List ℕ) : Type 0 where
  pub bytes : piece ≡ stored_bytes (body_between piece)
  pub form : IsBody header (1 + count) (body_between piece)
