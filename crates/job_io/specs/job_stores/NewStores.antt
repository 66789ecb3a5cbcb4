-- What making a store leaves.
use Rattle.std.specs.Prelude.{◌≡◌, ◌≢◌, ◌<◌, ◌≤◌, ◌++◌, ℕ, Bool, IsTrue, List, [], ◌∷◌, length, IfSome}
use Rattle.gl_outside.specs.Disk.{DiskPast, images_now}
use Rattle.gl_outside.specs.Faults.{Rose}
use Rattle.gl_outside.specs.FilesState.{FilesState}
use Rattle.store.specs.snap_journal.Journals.{AllDecodeTo}
use Rattle.store.specs.declared.store_format.faults.StoreFault.{StoreFault}
use Rattle.store.specs.declared.store_format.faults.StoreFault.TheVariants.{NotEmpty}
use Rattle.store.specs.declared.store_format.header.Header.{Header}
use Rattle.store.specs.store_format.Headers.{store_header}
use Rattle.job_io.specs.whole_files.FilesUsed.{OpensInOrder}
use Rattle.job_io.specs.declared.job_stores.making.StoreError.{StoreError}
use Rattle.job_io.specs.declared.job_stores.making.StoreError.TheVariants as no

-- this is said where the names of disks are told, and what disks hold
abbrev pub IfDisksTold : Bool → FilesState → Type 0 → Type 0
IfDisksTold told files P = IfSome files.disks.names (λ names. IsTrue told → P)

-- the bytes of a store without snapshots: its header and a closed gate
abbrev pub empty_store : Header → List ℕ
empty_store header = store_header header ++ 0 ∷ []

-- A disk that had no bytes is a store without snapshots now, and a crash leaves just that.
pub record IsNewStore (header : Header) (old new : DiskPast) : Type 0 where
  pub empty : length old.now.seen ≡ 0
  pub bytes : new.now.seen ≡ empty_store header
  pub images : (image : List ℕ) → images_now new image → image ≡ empty_store header
  pub stands : AllDecodeTo header [] new

-- a disk has bytes, and the fault tells how many
abbrev pub HasBytes : DiskPast → StoreFault → Type 0
HasBytes past fault = (0 < length past.now.seen) × (fault ≡ NotEmpty (length past.now.seen))

-- why no store was made under this name
abbrev pub MakeStoreErrorCause : Bool → List ℕ → FilesState → FilesState → StoreError → Type 0
MakeStoreErrorCause told name old new (no.BadStore fault) = IfDisksTold told old (HasBytes (old.pasts name) fault)
MakeStoreErrorCause told name old new no.DiskFault = Rose old.disks.faults new.disks.faults
MakeStoreErrorCause told name old new no.NoMemory = new.pasts ≡ old.pasts

-- no disk that has bytes changes
abbrev pub KeepsFilledDisks : Bool → FilesState → FilesState → Type 0
KeepsFilledDisks told old new = (name : List ℕ) → IfDisksTold told old (0 < length (old.pasts name).now.seen → new.pasts name ≡ old.pasts name)

-- at most the files that are open as disks changed, and what disks hold
abbrev pub ChangesDisks : FilesState → FilesState → Type 0
ChangesDisks old new = new ≡ record old { pasts = new.pasts; disks = new.disks }

-- at most this file was opened as a disk, all but disks stayed, and no other name's disk changed
pub record UsesDisk (name : List ℕ) (old new : FilesState) : Type 0 where
  pub frame : ChangesDisks old new
  pub handed : OpensInOrder old.disks.names new.disks.names (name ∷ [])
  pub others : (other : List ℕ) → other ≢ name → new.pasts other ≡ old.pasts other
  pub later : old.disks.faults ≤ new.disks.faults
