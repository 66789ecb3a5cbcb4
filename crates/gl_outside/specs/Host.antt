-- What callers see of the objects over the system. Content is told as far as the system's own files and writers tell it.
use Rattle.std.specs.Prelude.{◌≡◌, ℕ, List, ◌∷◌, [], ◌++◌, Option, None, Some, length, map, slice_get, slice_set, take, Result, Ok, Err}
use Rattle.std.specs.Io.KnownBytes.{Appends}
use Rattle.gl_outside.specs.Calls.{raised}
use Rattle.gl_outside.specs.Disk.{at_rest}
use Rattle.gl_outside.specs.FilesState.{FilesState}
use Rattle.gl_outside.specs.Fronts.{AppendsFront}
use Rattle.gl_outside.specs.declared.files.FileNo.{FileNo}
use Rattle.gl_outside.specs.declared.files.OpenFault.{OpenFault}
use Rattle.gl_outside.specs.declared.files.OpenFault.TheVariants.{Failed, NoMemory}

-- files: those that were opened for reading, for writing and as disks, by their numbers, and how many faults of each there
-- were
pub record HostState (F : Type 0) : Type 0 where
  pub sources : List F
  pub sinks : List F
  pub disks : List F
  pub reads : ℕ
  pub writes : ℕ
  pub disk_faults : ℕ

-- the files as every caller of `Files` sees them: how many were opened, and how many faults there were, is all that is told
abbrev pub files_of_host : {F : Type 0} → HostState F → FilesState
files_of_host host =
    record {
      contents = λ name. None;
      sources = record { faults = host.reads; names = None; files = map (λ file. None) host.sources };
      sinks = record { faults = host.writes; names = None; files = map (λ file. record { name = None; bytes = None }) host.sinks };
      pasts = λ name. at_rest [];
      disks = record { faults = host.disk_faults; names = None; files = map (λ file. None) host.disks };
    }

-- a writer as a sink: the writer, and how many faults there were
pub record WriterState (W : Type 0) : Type 0 where
  pub writer : W
  pub faults : ℕ

-- one fault more where the call failed
abbrev pub faults_after : {T E : Type 0} → ℕ → Result T E → ℕ
faults_after faults (Ok value) = faults
faults_after faults (Err fault) = raised faults

-- one fault more where the open failed, and none where there was no memory for it
abbrev pub faults_after_open : {T : Type 0} → ℕ → Result T OpenFault → ℕ
faults_after_open faults (Ok file) = faults
faults_after_open faults (Err Failed) = raised faults
faults_after_open faults (Err NoMemory) = faults

-- of the open files that of this number alone changes
pub record ChangesAt {F : Type 0} (file : ℕ) (old new : List F) (Change : F → F → Type 0) : Type 0 where
  pub was : F
  pub now : F
  pub open_file : slice_get old file ≡ Some was
  pub others : new ≡ slice_set old file now
  pub change : Change was now

-- a writer took the front of the piece that it tells as taken; where it failed it took a front of the piece or nothing
abbrev pub TakesFront : {E : Type 0} → Option (List ℕ) → Option (List ℕ) → Result ℕ E → List ℕ → Type 0
TakesFront old new (Ok count) piece = Appends old new (take count piece)
TakesFront old new (Err fault) piece = AppendsFront old new piece

-- an open adds one file behind those that are open, whose number is next, and none where it fails
abbrev pub OpensOne : {F : Type 0} → List F → List F → Result FileNo OpenFault → Type 0
OpensOne {F} old new (Ok file) = (opened : F) × (new ≡ old ++ opened ∷ []) × (file.0 ≡ length old)
OpensOne old new (Err fault) = new ≡ old
