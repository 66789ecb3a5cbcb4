-- What calls on the files of the system leave.
use Rattle.std.proofs.Common.{◌≡◌, ℕ, ◌<◌, zero, suc, List, [], ◌∷◌, ◌++◌, map, length, get_or, Option, None, Result, Ok, Err, IsTrue, slice_set, refl, sym, ap, ◌∙◌, arith}
use Rattle.std.specs.Io.KnownBytes.{Consumes, IsAtEnd}
use Rattle.std.proofs.lemmas.Bool.Decides.{nat_tests}
use Rattle.std.proofs.lemmas.Option.{slice_get_read}
use Rattle.std.proofs.lemmas.List.{length-map, map-append, map-set}
use Rattle.gl_outside.specs.FilesState.{Opened, Written, is_opened, left_of, sink_of}
use Rattle.gl_outside.specs.Frames.{ChangesDisk, LooksAtDisk, OpensSink, ReadsOnly, WritesOnly, without_name}
use Rattle.gl_outside.specs.Host.{ChangesAt, HostState, OpensOne, files_of_host}
use Rattle.gl_outside.specs.Inner.Laws.{constant}
use Rattle.gl_outside.specs.declared.files.FileNo.{FileNo}
use Rattle.gl_outside.specs.declared.files.OpenFault.{OpenFault}
use Rattle.gl_outside.proofs.StoredFiles.{same_files, same_opened}

abbrev untold : Written
untold = record { name = None; bytes = None }

-- a number of an open file is a place in the list
pub number_inside : {X Y : Type 0} (f : X → Y) (xs : List X) (file : ℕ) → IsTrue (let opened : Opened Y = record { faults = 0; names = None; files = map f xs } in is_opened opened file) → file < length xs
number_inside f xs file opened =
    let below : file < length (map f xs) = grind (arith, nat_tests) in
    omega (arith, below, length-map xs f)

-- a read of what isn't told
pub consumes_untold : (old new : Option (List ℕ)) (bytes buf : List ℕ) (count : ℕ) → old ≡ None → new ≡ None
    → Consumes old new bytes × (count ≡ 0 → 0 < length buf → IsAtEnd new)
consumes_untold old new bytes buf count before now = rw (before, now) (tt, λ none room. tt)

-- the disks are the same
same_host_disks : {F : Type 0} (old new : HostState F) → new.disks ≡ old.disks → new.disk_faults ≡ old.disk_faults → (files_of_host new).disks ≡ (files_of_host old).disks
same_host_disks {F} old new disks faults = same_opened _ _ faults refl (ap (map (λ (f : F). let o : Option (List ℕ) = None in o)) disks)

-- a read of one file
pub reads_host : {F : Type 0} (old new : HostState F) (file : ℕ) (now : F) → new.sources ≡ slice_set old.sources file now
    → new.sinks ≡ old.sinks → new.writes ≡ old.writes → new.disks ≡ old.disks → new.disk_faults ≡ old.disk_faults → ReadsOnly file (files_of_host old) (files_of_host new)
reads_host {F} old new file now sources sinks writes disks faults =
    let none : F → Option (List ℕ) = λ f. None in
    let changed : map none new.sources ≡ slice_set (map none old.sources) file (left_of (files_of_host new) file) =
    ap (map none) sources ∙ map-set none old.sources file now
    ∙ ap (slice_set (map none old.sources) file) (sym (constant None new.sources file)) in
    same_files _ _ refl (same_opened _ _ refl refl changed) (same_opened _ _ writes refl (ap (map (λ (f : F). untold)) sinks)) refl (same_host_disks old new disks faults)

-- a write to one file
pub writes_host : {F : Type 0} (old new : HostState F) (file : ℕ) (now : F) → new.sinks ≡ slice_set old.sinks file now
    → new.sources ≡ old.sources → new.reads ≡ old.reads → new.disks ≡ old.disks → new.disk_faults ≡ old.disk_faults → WritesOnly file (files_of_host old) (files_of_host new)
writes_host {F} old new file now sinks sources reads disks faults =
    let none : F → Written = λ f. untold in
    let same : untold ≡ record (sink_of (files_of_host old) file) { bytes = (sink_of (files_of_host new) file).bytes } =
    ap (λ (w : Written). record w { bytes = None }) (sym (constant untold old.sinks file))
    ∙ ap (λ (w : Written). record (sink_of (files_of_host old) file) { bytes = w.bytes }) (sym (constant untold new.sinks file)) in
    let changed : map none new.sinks ≡ slice_set (map none old.sinks) file (record (sink_of (files_of_host old) file) { bytes = (sink_of (files_of_host new) file).bytes }) =
    ap (map none) sinks ∙ map-set none old.sinks file now ∙ ap (slice_set (map none old.sinks) file) same in
    record {
      state = same_files _ _ refl (same_opened _ _ reads refl (ap (map (λ (f : F). None)) sources)) (same_opened _ _ refl refl changed) refl (same_host_disks old new disks faults);
      others = λ name apart. refl;
    }

no_names : {F : Type 0} (name : List ℕ) (files : List F) → map (without_name name) (map (λ (f : F). untold) files) ≡ map (λ (f : F). untold) files
no_names name [] = refl
no_names name (f ∷ fs) = ap (λ (ws : List Written). untold ∷ ws) (no_names name fs)

-- a file more is open for writing
pub opens_host : {F : Type 0} (old new : HostState F) (name : List ℕ) (number : ℕ) (opened : F) → number ≡ length old.sinks
    → new.sinks ≡ old.sinks ++ opened ∷ [] → new.sources ≡ old.sources → new.reads ≡ old.reads → new.disks ≡ old.disks → new.disk_faults ≡ old.disk_faults
    → OpensSink (files_of_host old) (files_of_host new) name (Ok (record { 0 = number }))
opens_host {F} old new name number opened numbered sinks sources reads disks faults =
    let none : F → Written = λ f. untold in
    let grown : map none new.sinks ≡ map (without_name name) (map none old.sinks) ++ untold ∷ [] =
    ap (map none) sinks ∙ map-append none old.sinks (opened ∷ []) ∙ ap (λ (ws : List Written). ws ++ untold ∷ []) (sym (no_names name old.sinks)) in (
      numbered ∙ sym (length-map old.sinks none),
      same_files _ _ refl (same_opened _ _ reads refl (ap (map (λ (f : F). None)) sources)) (same_opened _ _ refl refl grown) refl (same_host_disks old new disks faults),
      λ other apart. refl,
    )

pub opens_host_by : {F : Type 0} (old new : HostState F) (name : List ℕ) (result : Result FileNo OpenFault) → OpensOne old.sinks new.sinks result
    → new.sources ≡ old.sources → new.reads ≡ old.reads → new.disks ≡ old.disks → new.disk_faults ≡ old.disk_faults → OpensSink (files_of_host old) (files_of_host new) name result
opens_host_by old new name (Ok file) one sources reads disks faults = opens_host old new name file.0 one.0 one.2 one.1 sources reads disks faults
opens_host_by {F} old new name (Err fault) one sources reads disks faults =
    same_files _ _ refl (same_opened _ _ reads refl (ap (map (λ (f : F). None)) sources)) (same_opened _ _ refl refl (ap (map (λ (f : F). untold)) one)) refl (same_host_disks old new disks faults)

-- the file of this number alone changed
pub changes_at : {F : Type 0} (old new : List F) (file : ℕ) (was now : F) (Change : F → F → Type 0) → file < length old → was ≡ get_or old file was
    → new ≡ slice_set old file now → Change was now → ChangesAt file old new Change
changes_at old new file was now Change inside read set change =
    record { was = was; now = now; open_file = slice_get_read old (length old) file was refl inside read; others = set; change = change }

-- a call on one disk
still_untold : {F : Type 0} (files : List F) (file : ℕ) (now : F) → map (λ (f : F). let o : Option (List ℕ) = None in o) (slice_set files file now) ≡ map (λ (f : F). let o : Option (List ℕ) = None in o) files
still_untold [] file now = refl
still_untold (f ∷ fs) zero now = refl
still_untold (f ∷ fs) (suc file) now = ap (λ (names : List (Option (List ℕ))). None ∷ names) (still_untold fs file now)

pub looks_host : {F : Type 0} (old new : HostState F) (file : ℕ) (now : F) → new.disks ≡ slice_set old.disks file now → new.sources ≡ old.sources → new.sinks ≡ old.sinks
    → new.reads ≡ old.reads → new.writes ≡ old.writes → LooksAtDisk (files_of_host old) (files_of_host new)
looks_host {F} old new file now disks sources sinks reads writes =
    same_files _ _ refl (same_opened _ _ reads refl (ap (map (λ (f : F). None)) sources)) (same_opened _ _ writes refl (ap (map (λ (f : F). untold)) sinks))
    refl (same_opened _ _ refl refl (ap (map (λ (f : F). let o : Option (List ℕ) = None in o)) disks ∙ still_untold old.disks file now))

pub changes_host : {F : Type 0} (old new : HostState F) (file : ℕ) (now : F) → new.disks ≡ slice_set old.disks file now → new.sources ≡ old.sources → new.sinks ≡ old.sinks
    → new.reads ≡ old.reads → new.writes ≡ old.writes → ChangesDisk file (files_of_host old) (files_of_host new)
changes_host old new file now disks sources sinks reads writes =
    record { state = looks_host old new file now disks sources sinks reads writes; others = λ name apart. refl }
