-- What is known of a file that was just opened, and what calls leave alone together.
use Rattle.std.proofs.Common.{◌≡◌, ◌≢◌, ℕ, List, [], ◌∷◌, ◌++◌, map, length, get_or, Option, None, Some, Result, Ok, Err, IsTrue, nat_lt, sym, ap, ◌∙◌, arith, length-append}
use Rattle.std.specs.Option.{option_map}
use Rattle.std.proofs.lemmas.Bool.{lt-ltb}
use Rattle.std.proofs.lemmas.List.{length-map}
use Rattle.std.proofs.Math.Seq.{get_or-append_seam}
use Rattle.gl_outside.specs.FilesState.{FilesState, Opened, Written, is_opened, left_of, sink_of}
use Rattle.gl_outside.specs.Frames.{ChangesSources, ChangesSinks, OpensSource, OpensSink, ReadsOnly, WritesOnly, new_sink, without_name}
use Rattle.gl_outside.specs.declared.files.FileNo.{FileNo}
use Rattle.gl_outside.specs.declared.files.OpenFault.{OpenFault}

last_inside : {X : Type 0} (xs now : List X) (x : X) (number : ℕ) → number ≡ length xs → now ≡ xs ++ x ∷ [] → IsTrue (nat_lt number (length now))
last_inside xs now x number is grown = lt-ltb number (length now) (omega (arith, is, ap (length {A = _}) grown, length-append xs (x ∷ [])))

last_read : {X : Type 0} (xs now : List X) (x d : X) (number : ℕ) → number ≡ length xs → now ≡ xs ++ x ∷ [] → get_or now number d ≡ x
last_read xs now x d number is grown = ap (λ (ys : List _). get_or ys number d) grown ∙ ap (λ (k : ℕ). get_or (xs ++ x ∷ []) k d) is ∙ get_or-append_seam xs x [] d

-- a file that was opened for reading has left what its name gives
pub source_opened : (old new : FilesState) (name : List ℕ) (file : FileNo) → OpensSource old new name (Ok file)
    → IsTrue (is_opened new.sources file.0) × (left_of new file.0 ≡ old.contents name)
source_opened old new name file opens =
    let files = ap (λ (s : FilesState). s.sources.files) opens.1 in
    (last_inside old.sources.files new.sources.files (old.contents name) file.0 opens.0 files, last_read old.sources.files new.sources.files (old.contents name) None file.0 opens.0 files)

-- a file that was opened for writing is empty, and has its name
pub sink_opened : (old new : FilesState) (name : List ℕ) (file : FileNo) → OpensSink old new name (Ok file)
    → IsTrue (is_opened new.sinks file.0) × (sink_of new file.0 ≡ new_sink old.sinks name)
sink_opened old new name file opens =
    let files = ap (λ (s : FilesState). s.sinks.files) opens.1 in
    let before = map (without_name name) old.sinks.files in
    let number = opens.0 ∙ sym (length-map old.sinks.files (without_name name)) in
    (last_inside before new.sinks.files (new_sink old.sinks name) file.0 number files, last_read before new.sinks.files (new_sink old.sinks name) _ file.0 number files)

-- what changes sources alone, one after another
pub ChangesSources-trans : (a b c : FilesState) → ChangesSources a b → ChangesSources b c → ChangesSources a c
ChangesSources-trans a b c p q = q ∙ ap (λ (s : FilesState). record s { sources = c.sources }) p

pub opens_sources : (old new : FilesState) (name : List ℕ) (result : Result FileNo OpenFault) → OpensSource old new name result → ChangesSources old new
opens_sources old new name (Ok file) opens = opens.1 ∙ ap (λ (s : Opened (Option (List ℕ))). record old { sources = s }) (sym (ap (λ (s : FilesState). s.sources) opens.1))
opens_sources old new name (Err fault) opens = opens ∙ ap (λ (s : Opened (Option (List ℕ))). record old { sources = s }) (sym (ap (λ (s : FilesState). s.sources) opens))

pub reads_sources : (file : ℕ) (old new : FilesState) → ReadsOnly file old new → ChangesSources old new
reads_sources file old new reads = reads ∙ ap (λ (s : Opened (Option (List ℕ))). record old { sources = s }) (sym (ap (λ (s : FilesState). s.sources) reads))

-- what changes sinks alone, one after another
pub ChangesSinks-trans : (a b c : FilesState) → ChangesSinks a b → ChangesSinks b c → ChangesSinks a c
ChangesSinks-trans a b c p q = q ∙ ap (λ (s : FilesState). record s { contents = c.contents; sinks = c.sinks }) p

pub opens_sinks : (old new : FilesState) (name : List ℕ) (result : Result FileNo OpenFault) → OpensSink old new name result → ChangesSinks old new
opens_sinks old new name (Ok file) opens =
    opens.1 ∙ ap (λ (s : Opened Written). record old { contents = new.contents; sinks = s }) (sym (ap (λ (s : FilesState). s.sinks) opens.1))
opens_sinks old new name (Err fault) opens =
    opens ∙ ap (λ (s : FilesState). record old { contents = s.contents; sinks = s.sinks }) (sym opens)

pub writes_sinks : (file : ℕ) (old new : FilesState) → WritesOnly file old new → ChangesSinks old new
writes_sinks file old new writes =
    writes.state ∙ ap (λ (s : Opened Written). record old { contents = new.contents; sinks = s }) (sym (ap (λ (s : FilesState). s.sinks) writes.state))

-- a name that an open for writing and then writes leave gives what it gave
pub others_stay : (old mid new : FilesState) (name : List ℕ) (file : FileNo) → OpensSink old mid name (Ok file) → WritesOnly file.0 mid new
    → (other : List ℕ) → other ≢ name → new.contents other ≡ old.contents other
others_stay old mid new name file opens writes other apart =
    writes.others other (λ is. apart (one_name old.sinks.names (sym (ap (λ (w : Written). w.name) (sink_opened old mid name file opens).1) ∙ is))) ∙ opens.2 other apart
  where
    one_name : (names : Option (List (List ℕ))) → option_map (λ told. name) names ≡ Some other → other ≡ name
    one_name None e = absurd (none e)
      where
        none : (let o : Option (List ℕ) = None in o) ≡ Some other → ⊥
        none e = cc
    one_name (Some told) e = cc
