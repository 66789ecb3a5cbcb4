-- Why a call on a store was refused.
use Rattle.std.specs.Prelude.{◌≡◌, ◌⊎◌, ℕ, ◌+◌, ◌^◌, ◌<◌, ◌≤◌, Bool, true, false, List, Err, ⊤}
use Rattle.store.specs.declared.store_format.header.Header.{Header}
use Rattle.store.specs.declared.store_format.faults.StoreFault.TheVariants.{NotEmpty}
use Rattle.store.specs.declared.snap_journal.faults.JournalFault.{JournalFault}
use Rattle.store.specs.declared.snap_journal.faults.JournalFault.TheVariants.{DiskFault, BadStore, Full, Failed, NoMemory}
use Rattle.store.specs.snap_journal.Disks.{Rose}
use Rattle.store.specs.snap_journal.Formats.{read_store}

-- a store of so many snapshots and bytes has no room for a record of so many bytes with its length and its next gate
abbrev pub IsFullFor : ℕ → ℕ → ℕ → Type 0
IsFullFor count length size = (4096 ≤ count) ⊎ (2 ^ 30 < length + size)

-- why no store was made: it has bytes already, or there was a fault of the disk
abbrev pub InitErrorCause : Type 0 → ℕ → ℕ → ℕ → JournalFault → Type 0
InitErrorCause told length before now DiskFault = Rose before now
InitErrorCause told length before now (BadStore fault) = told → (0 < length) × (fault ≡ NotEmpty length)
InitErrorCause told length before now (Full stored bytes) = ⊥
InitErrorCause told length before now Failed = ⊥
InitErrorCause told length before now NoMemory = ⊥

-- why a store was not opened: it has this first fault, or there was a fault of the disk or want of memory
abbrev pub OpenErrorCause : Type 0 → Header → List ℕ → ℕ → ℕ → JournalFault → Type 0
OpenErrorCause told header seen before now DiskFault = Rose before now
OpenErrorCause told header seen before now (BadStore fault) = told → read_store header seen ≡ Err fault
OpenErrorCause told header seen before now (Full stored bytes) = ⊥
OpenErrorCause told header seen before now Failed = ⊥
OpenErrorCause told header seen before now NoMemory = ⊤

-- Why a record of so many bytes was not added to a store of so many snapshots and bytes. `old` and `new` tell whether an earlier
-- call had found a fault of the disk, and whether one has now; `same` says that nothing changed.
abbrev pub JournalAppendErrorCause : Type 0 → Bool → Bool → ℕ → ℕ → ℕ → ℕ → ℕ → JournalFault → Type 0
JournalAppendErrorCause same old new before now count length size DiskFault = (old ≡ false) × (new ≡ true) × Rose before now
JournalAppendErrorCause same old new before now count length size (BadStore fault) = ⊥
JournalAppendErrorCause same old new before now count length size (Full stored bytes) = (old ≡ false) × (stored ≡ count) × (bytes ≡ length) × IsFullFor count length size × same
JournalAppendErrorCause same old new before now count length size Failed = (old ≡ true) × same
JournalAppendErrorCause same old new before now count length size NoMemory = same
