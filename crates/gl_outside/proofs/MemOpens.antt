-- What opens for writing leave of files in memory, by their answers.
use Rattle.std.proofs.Common.{◌≡◌, ℕ, [], ◌∷◌, List, map, Some, Result, Ok, Err, ap, sym, subst, ◌∙◌}
use Rattle.std.specs.Prelude.{All, OnOk}
use Rattle.gl_outside.specs.Frames.{OpensSink}
use Rattle.gl_outside.specs.Store.{NamedBytes, StoreState, bytes_of, files_of_store}
use Rattle.gl_outside.specs.Inner.OpenFiles.{AddsSink, AreSinks, IsOpenInside, left_in}
use Rattle.gl_outside.specs.declared.files.FileNo.{FileNo}
use Rattle.gl_outside.specs.declared.files.OpenFault.{OpenFault}
use Rattle.gl_outside.specs.declared.mem_files.OpenFile.{OpenFile}
use Rattle.gl_outside.proofs.StoredFiles.{bytes_of_put, map-left_in-append}
use Rattle.gl_outside.proofs.Sinks.{all_inside-append, opens_no_sink, opens_sink, sinks_pushed}

pub sink_opened : (old new : StoreState) (name : List ℕ) (result : Result FileNo OpenFault) → AddsSink old.files new.files old.sinks new.sinks name result → AreSinks old.files old.sinks
    → new.reads ≡ old.reads → new.source_names ≡ old.source_names → new.opened ≡ old.opened → new.disks ≡ old.disks
    → OpensSink (files_of_store old) (files_of_store new) name result
sink_opened old new name (Ok file) adds are reads names opened disks =
    let added = adds.1 in
    opens_sink old new added.file name file.0 added.named added.empty adds.0 added.files_grow added.sinks_grow are reads names opened disks
sink_opened old new name (Err fault) adds are reads names opened disks = opens_no_sink old new name fault adds.0 adds.1 reads names opened disks

-- the name gives an empty file
pub sink_gives : (files now : List NamedBytes) (sinks sinks_now : List ℕ) (name : List ℕ) (result : Result FileNo OpenFault)
    → AddsSink files now sinks sinks_now name result → OnOk result (bytes_of now name ≡ Some [])
sink_gives files now sinks sinks_now name (Ok file) adds =
    let added = adds.1 in
    bytes_of_put files now added.file name added.files_grow added.named ∙ ap (λ (bytes : List ℕ). Some bytes) added.empty
sink_gives files now sinks sinks_now name (Err fault) adds = tt

-- what was opened for reading stays
pub opened_kept : (files now : List NamedBytes) (sinks sinks_now : List ℕ) (name : List ℕ) (result : Result FileNo OpenFault) (opened : List OpenFile)
    → AddsSink files now sinks sinks_now name result → All (IsOpenInside files) opened → map (left_in now) opened ≡ map (left_in files) opened
opened_kept files now sinks sinks_now name (Ok file) opened adds are =
    let added = adds.1 in
    ap (λ (fs : List NamedBytes). map (left_in fs) opened) added.files_grow ∙ map-left_in-append files (added.file ∷ []) opened are
opened_kept files now sinks sinks_now name (Err fault) opened adds are = ap (λ (fs : List NamedBytes). map (left_in fs) opened) adds.0

-- each file that is open is still one of the files
pub open_after_make : (files now : List NamedBytes) (sinks sinks_now : List ℕ) (name : List ℕ) (result : Result FileNo OpenFault) (opened : List OpenFile)
    → AddsSink files now sinks sinks_now name result → All (IsOpenInside files) opened × AreSinks files sinks → All (IsOpenInside now) opened × AreSinks now sinks_now
open_after_make files now sinks sinks_now name (Ok file) opened adds are =
    let added = adds.1 in
    (all_inside-append files now (added.file ∷ []) opened added.files_grow are.0, sinks_pushed files now sinks sinks_now added.file added.files_grow added.sinks_grow are.1)
open_after_make files now sinks sinks_now name (Err fault) opened adds are =
    subst (λ (fs : List NamedBytes). All (IsOpenInside fs) opened × AreSinks fs sinks_now) (sym adds.0)
    (are.0, subst (AreSinks files) (sym adds.1) are.1)
