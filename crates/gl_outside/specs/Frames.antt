-- What each call on the files leaves: each is an equation of states, and all that it doesn't name stays.
use Rattle.std.specs.Prelude.{◌≡◌, ◌≢◌, ℕ, if◌then◌else◌, List, [], ◌∷◌, ◌++◌, map, length, Option, None, Some, Result, Ok, Err, bytes_eq, slice_set}
use Rattle.std.specs.Option.{option_and_then, option_map}
use Rattle.gl_outside.specs.FilesState.{FilesState, Opened, Written, disk_name, left_of, sink_of}
use Rattle.gl_outside.specs.declared.files.FileNo.{FileNo}
use Rattle.gl_outside.specs.declared.files.OpenFault.{OpenFault}

-- at most the files that are open for reading changed
abbrev pub ChangesSources : FilesState → FilesState → Type 0
ChangesSources old new = new ≡ record old { sources = new.sources }

-- at most the files that are open for writing changed, and what names give
abbrev pub ChangesSinks : FilesState → FilesState → Type 0
ChangesSinks old new = new ≡ record old { contents = new.contents; sinks = new.sinks }

-- An open for reading adds a file that has left what the name gives, and its number is the next one. Where it fails no file
-- is added. Only the count of faults of reading and the names are left open here.
abbrev pub OpensSource : FilesState → FilesState → List ℕ → Result FileNo OpenFault → Type 0
OpensSource old new name (Ok file) =
    (file.0 ≡ length old.sources.files)
    × (new ≡ record old { sources = record new.sources { files = old.sources.files ++ old.contents name ∷ [] } })
OpensSource old new name (Err fault) = new ≡ record old { sources = record new.sources { files = old.sources.files } }

-- a read changes the count of faults of reading and what its own file has left
abbrev pub ReadsOnly : ℕ → FilesState → FilesState → Type 0
ReadsOnly file old new =
    new ≡ record old { sources = record old.sources { faults = new.sources.faults; files = slice_set old.sources.files file (left_of new file) } }

-- the name, unless it is this one
abbrev pub unless : List ℕ → List ℕ → Option (List ℕ)
unless taken name = if bytes_eq taken name then None else Some name

-- a file whose name a newer one took, if it is this name
abbrev pub without_name : List ℕ → Written → Written
without_name taken file = record file { name = option_and_then (unless taken) file.name }

-- a file that is new and empty, and has the name, where names are told
abbrev pub new_sink : Opened Written → List ℕ → Written
new_sink sinks name = record { name = option_map (λ told. name) sinks.names; bytes = option_map (λ told. []) sinks.names }

-- An open for writing adds an empty file that takes the name from older ones, and its number is the next one; no other name
-- gives anything else. Where it fails no file is added, and each name gives what it gave.
abbrev pub OpensSink : FilesState → FilesState → List ℕ → Result FileNo OpenFault → Type 0
OpensSink old new name (Ok file) =
    (file.0 ≡ length old.sinks.files)
    × (new ≡ record old {
      contents = new.contents;
      sinks = record new.sinks { files = map (without_name name) old.sinks.files ++ new_sink old.sinks name ∷ [] };
    })
    × ((other : List ℕ) → other ≢ name → new.contents other ≡ old.contents other)
OpensSink old new name (Err fault) = new ≡ record old { sinks = record new.sinks { files = old.sinks.files } }

-- a write changes the count of faults of writing, what was written to its own file, and what the name gives that the file has
pub record WritesOnly (file : ℕ) (old new : FilesState) : Type 0 where
  pub state : new ≡ record old {
    contents = new.contents;
    sinks = record old.sinks {
      faults = new.sinks.faults;
      files = slice_set old.sinks.files file (record (sink_of old file) { bytes = (sink_of new file).bytes });
    };
  }
  pub others : (name : List ℕ) → (sink_of old file).name ≢ Some name → new.contents name ≡ old.contents name

-- An open as a disk adds a file that has the name, where names are told, and its number is the next one; the disks are what
-- they were. Where it fails no file is added. Only the count of faults of disks and the names are left open here.
abbrev pub OpensDisk : FilesState → FilesState → List ℕ → Result FileNo OpenFault → Type 0
OpensDisk old new name (Ok file) =
    (file.0 ≡ length old.disks.files)
    × (new ≡ record old { disks = record new.disks { files = old.disks.files ++ option_map (λ told. name) old.disks.names ∷ [] } })
OpensDisk old new name (Err fault) = new ≡ record old { disks = record new.disks { files = old.disks.files } }

-- what only reads a disk changes the count of faults of disks alone
abbrev pub LooksAtDisk : FilesState → FilesState → Type 0
LooksAtDisk old new = new ≡ record old { disks = record old.disks { faults = new.disks.faults } }

-- a call on a disk changes the count of faults of disks, and the states of the disk that the file is
pub record ChangesDisk (file : ℕ) (old new : FilesState) : Type 0 where
  pub state : new ≡ record old { pasts = new.pasts; disks = record old.disks { faults = new.disks.faults } }
  pub others : (name : List ℕ) → disk_name old file ≢ Some name → new.pasts name ≡ old.pasts name
