-- The files that were opened in memory, inside `MemFiles`.
use Rattle.std.specs.Prelude.{◌≡◌, ℕ, ◌<◌, ◌≤◌, [], ◌∷◌, ◌++◌, List, Some, Result, Ok, Err, length, map, take, drop, slice_index, slice_set, All}
use Rattle.gl_outside.specs.Store.{NamedBytes, bytes_at, bytes_of, name_at_place}
use Rattle.gl_outside.specs.declared.files.FileNo.{FileNo}
use Rattle.gl_outside.specs.declared.files.OpenFault.{OpenFault}
use Rattle.gl_outside.specs.declared.mem_files.OpenFile.{OpenFile}

-- what an open file has left, of the bytes that it had as it was opened
abbrev pub left_in : List NamedBytes → OpenFile → List ℕ
left_in files open_file = drop open_file.at (take open_file.end (bytes_at files open_file.place))

-- an open file is one of the files, and its bytes are still there
pub record IsOpenInside (files : List NamedBytes) (open_file : OpenFile) : Type 0 where
  pub known : open_file.place < length files
  pub order : open_file.at ≤ open_file.end
  pub within : open_file.end ≤ length (bytes_at files open_file.place)

-- each file that was opened for writing is a file of its own, later ones behind earlier ones
pub record AreSinks (files : List NamedBytes) (sinks : List ℕ) : Type 0 where
  pub known : All (λ place. place < length files) sinks
  pub ascending : (i j : ℕ) → i < j → j < length sinks → slice_index sinks i < slice_index sinks j

-- the piece behind the bytes of the file at this place, which can hold so many then before it takes memory
abbrev pub appended : List NamedBytes → ℕ → List ℕ → ℕ → List NamedBytes
appended files place piece ready = slice_set files place (record { name = name_at_place files place; bytes = bytes_at files place ++ piece; ready = ready })

-- an open for reading adds a file that has left what the name gives, and its number is the next one; where it fails it adds none
abbrev pub AddsSource : List NamedBytes → List OpenFile → List OpenFile → List ℕ → Result FileNo OpenFault → Type 0
AddsSource files old new name (Ok file) =
    (file.0 ≡ length old)
    × ((left : List ℕ) × (bytes_of files name ≡ Some left) × (map (left_in files) new ≡ map (left_in files) old ++ left ∷ []))
AddsSource files old new name (Err fault) = new ≡ old

-- an empty file of this name was added, and its place to those of the files that are open for writing
pub record AddsFile (files files_now : List NamedBytes) (sinks sinks_now : List ℕ) (name : List ℕ) : Type 0 where
  pub file : NamedBytes
  pub named : file.name ≡ name
  pub empty : file.bytes ≡ []
  pub files_grow : files_now ≡ files ++ file ∷ []
  pub sinks_grow : sinks_now ≡ sinks ++ length files ∷ []

-- an open for writing adds such a file, whose number is the next one; where it fails it adds none
abbrev pub AddsSink : List NamedBytes → List NamedBytes → List ℕ → List ℕ → List ℕ → Result FileNo OpenFault → Type 0
AddsSink files files_now sinks sinks_now name (Ok file) = (file.0 ≡ length sinks) × AddsFile files files_now sinks sinks_now name
AddsSink files files_now sinks sinks_now name (Err fault) = (files_now ≡ files) × (sinks_now ≡ sinks)
