-- Files in memory, as their callers see them.
use Rattle.std.specs.Prelude.{◌≡◌, ℕ, zero, suc, ◌+◌, ◌^◌, ◌<◌, ◌≤◌, List, [], ◌∷◌, length, map, Option, None, Some, is_some, Result, Ok, Err, bytes_eq, fold, slice_index, slice_index_or, if◌then◌else◌}
use Rattle.gl_outside.specs.Calls.{CallCounts, called, faulted}
use Rattle.gl_outside.specs.DiskStore.{DisksState, opened_disks, past_among}
use Rattle.gl_outside.specs.FilesState.{FilesState, Written}
use Rattle.gl_outside.specs.declared.files.OpenFault.{OpenFault}
use Rattle.gl_outside.specs.declared.files.OpenFault.TheVariants.{Failed, NoMemory}

-- a file: its name, its bytes, and how many it can hold before it takes memory
pub record NamedBytes : Type 0 where
  pub name : List ℕ
  pub bytes : List ℕ
  pub ready : ℕ

-- The files, in the order in which they were put or made. Of reading: the names that were handed to `open_source`, what
-- each file that was opened has left, by its number, and the calls. Of writing: the names that were handed to
-- `open_sink`, the place of each file that was opened, by its number, and the calls. The disks are files apart.
pub record StoreState : Type 0 where
  pub files : List NamedBytes
  pub source_names : List (List ℕ)
  pub opened : List (List ℕ)
  pub reads : CallCounts
  pub sink_names : List (List ℕ)
  pub sinks : List ℕ
  pub writes : CallCounts
  pub disks : DisksState

-- this file's bytes where it has the name, else those found before
abbrev pub newer : List ℕ → Option (List ℕ) → NamedBytes → Option (List ℕ)
newer name found file = if bytes_eq file.name name then Some file.bytes else found

-- the bytes of the newest file of this name
abbrev pub bytes_of : List NamedBytes → List ℕ → Option (List ℕ)
bytes_of files name = fold (newer name) None files

-- the file at this place, an empty one past the last
abbrev pub file_at : List NamedBytes → ℕ → NamedBytes
file_at files place = slice_index_or files place (record { name = []; bytes = []; ready = 0 })

-- its bytes
abbrev pub bytes_at : List NamedBytes → ℕ → List ℕ
bytes_at files place = (file_at files place).bytes

-- its name
abbrev pub name_at_place : List NamedBytes → ℕ → List ℕ
name_at_place files place = (file_at files place).name

-- how many it can hold before it takes memory
abbrev pub ready_at : List NamedBytes → ℕ → ℕ
ready_at files place = (file_at files place).ready

-- its name, where no newer file has it
abbrev pub newest_name : List NamedBytes → ℕ → Option (List ℕ)
newest_name [] place = None
newest_name (file ∷ files) zero = if is_some (bytes_of files file.name) then None else Some file.name
newest_name (file ∷ files) (suc place) = newest_name files place

-- the file at this place, as one that is open for writing
abbrev pub sink_at : List NamedBytes → ℕ → Written
sink_at files place = record { name = newest_name files place; bytes = Some (bytes_at files place) }

-- the files as every caller of `Files` sees them: all is told
abbrev pub files_of_store : StoreState → FilesState
files_of_store store =
    record {
      contents = bytes_of store.files;
      sources = record { faults = store.reads.faults; names = Some store.source_names; files = map (λ left. Some left) store.opened };
      sinks = record { faults = store.writes.faults; names = Some store.sink_names; files = map (sink_at store.files) store.sinks };
      pasts = past_among store.disks.disks;
      disks = opened_disks store.disks;
    }

-- how many bytes the file of this number that was opened for writing can hold before it takes memory
abbrev pub ready_in : StoreState → ℕ → ℕ
ready_in store file = ready_at store.files (slice_index store.sinks file)

-- the piece behind the bytes of the file at this place asks for memory
abbrev pub WantsMemoryAt : List NamedBytes → ℕ → List ℕ → Type 0
WantsMemoryAt files place piece = ready_at files place < length (bytes_at files place) + length piece

-- the piece behind what was written to this file asks for memory
abbrev pub WantsMemoryIn : StoreState → ℕ → List ℕ → Type 0
WantsMemoryIn store file piece = WantsMemoryAt store.files (slice_index store.sinks file) piece

-- no file has this name
abbrev pub IsMissing : StoreState → List ℕ → Type 0
IsMissing store name = bytes_of store.files name ≡ None

-- as many files were opened for reading as there are numbers for them
abbrev pub HasNoNumber : StoreState → Type 0
HasNoNumber store = 2 ^ 32 ≤ length store.opened

-- as many were opened for writing
abbrev pub HasNoSinkNumber : StoreState → Type 0
HasNoSinkNumber store = 2 ^ 32 ≤ length store.sinks

-- one call more, which was a fault where the open failed
abbrev pub after_open : {T : Type 0} → CallCounts → Result T OpenFault → CallCounts
after_open calls (Ok file) = called calls
after_open calls (Err Failed) = faulted (called calls)
after_open calls (Err NoMemory) = called calls
