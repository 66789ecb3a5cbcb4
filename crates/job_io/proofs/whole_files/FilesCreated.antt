-- Files that are created and written one after another.
use Rattle.std.proofs.Common.{◌≡◌, ℕ, zero, suc, List, [], ◌∷◌, Option, None, Some, Result, Ok, Err, OnOk, IfSome, ap, refl, sym, ◌∙◌, subst, arith, ◌≤◌, ◌≢◌}
use Rattle.std.specs.Prelude.{Contains}
use Rattle.std.specs.Io.KnownBytes.{Appends}
use Rattle.std.specs.Option.{option_map}
use Rattle.gl_outside.specs.declared.files.OpenFault.{OpenFault}
use Rattle.gl_outside.specs.Names.{AppendsNames, NotesName}
use Rattle.gl_outside.specs.FilesState.{FilesState, Written, sink_of, written_of}
use Rattle.gl_outside.specs.declared.files.FileNo.{FileNo}
use Rattle.gl_outside.specs.Frames.{OpensSink, WritesOnly}
use Rattle.gl_outside.specs.Inner.Laws.{name_kept}
use Rattle.gl_outside.proofs.Opening.{ChangesSinks-trans, opens_sinks, others_stay, sink_opened, writes_sinks}
use Rattle.job_io.proofs.whole_files.NamesHanded.{OpensInOrder-first, OpensInOrder-refused, OpensInOrder-none, OpensInOrder-then, contains-one}
use Rattle.job_io.specs.whole_files.Leaves.{GivesText}
use Rattle.job_io.specs.whole_files.FilesUsed.{WritesFiles}

-- what was written to a new file is what its name gives, where names are told
pub made-gives : (old mid new : FilesState) (name : List ℕ) (number : FileNo) (bytes : List ℕ) (P : List ℕ → Type 0) → OpensSink old mid name (Ok number) → WritesOnly number.0 mid new
    → ((n : List ℕ) → (sink_of new number.0).name ≡ Some n → new.contents n ≡ written_of new number.0)
    → Appends (written_of mid number.0) (written_of new number.0) bytes → P bytes → IfSome old.sinks.names (λ told. GivesText (new.contents name) P)
made-gives old mid new name number bytes P opens writes filled appends p =
    let was = (sink_opened old mid name number opens).1 in
    let named : (sink_of new number.0).name ≡ option_map (λ told. name) old.sinks.names = name_kept number.0 mid new writes ∙ ap (λ (w : Written). w.name) was in
    let empty : written_of mid number.0 ≡ option_map (λ told. []) old.sinks.names = ap (λ (w : Written). w.bytes) was in
    go old.sinks.names (written_of new number.0) named (subst (λ (w : Option (List ℕ)). Appends w (written_of new number.0) bytes) empty appends) filled
  where
    go : (names : Option (List (List ℕ))) (written : Option (List ℕ)) → (sink_of new number.0).name ≡ option_map (λ told. name) names
        → Appends (option_map (λ told. []) names) written bytes
        → ((n : List ℕ) → (sink_of new number.0).name ≡ Some n → new.contents n ≡ written) → IfSome names (λ told. GivesText (new.contents name) P)
    go None written named appends filled = tt
    go (Some told) None named appends filled = absurd appends
    go (Some told) (Some held) named appends filled = (bytes, filled name named ∙ ap (λ (z : List ℕ). Some z) appends, p)

-- a file was made and written, and no other name gives anything else
pub writes-file : (old mid new : FilesState) (name : List ℕ) (number : FileNo) → OpensSink old mid name (Ok number) → NotesName old.sinks.names mid.sinks.names name (Ok number)
    → old.sinks.faults ≤ mid.sinks.faults → WritesOnly number.0 mid new → mid.sinks.faults ≤ new.sinks.faults
    → WritesFiles (name ∷ []) old new × AppendsNames old.sinks.names new.sinks.names (name ∷ [])
writes-file old mid new name number opens notes first writes then =
    let names : new.sinks.names ≡ mid.sinks.names = ap (λ (s : FilesState). s.sinks.names) writes.state in
    let handed : AppendsNames old.sinks.names new.sinks.names (name ∷ []) = subst (λ (n : Option (List (List ℕ))). AppendsNames old.sinks.names n (name ∷ [])) (sym names) notes in (
      record {
        frame = ChangesSinks-trans old mid new (opens_sinks old mid name (Ok number) opens) (writes_sinks number.0 mid new writes);
        handed = (1, handed);
        others = λ other apart. others_stay old mid new name number opens writes other (λ e. apart (contains-one name other e));
        later = omega (arith, first, then);
      },
      handed,
    )

-- The same at the end of a call that wrote to the file as a sink of its own.
at-end : (mid was last : FilesState) (number : FileNo) (own : ℕ) → own ≡ number.0 → was ≡ mid → WritesOnly own was last → WritesOnly number.0 mid last
at-end mid was last number own own_is was_is writes =
    let K : ℕ → Type 0 = λ k. WritesOnly k was last in
    let M : FilesState → Type 0 = λ m. WritesOnly number.0 m last in
    subst M was_is (subst K own_is writes)

pub wrote-file : (old mid was last new : FilesState) (opened name : List ℕ) (number : FileNo) (own : ℕ) → opened ≡ name → OpensSink old mid opened (Ok number)
    → NotesName old.sinks.names mid.sinks.names opened (Ok number) → old.sinks.faults ≤ mid.sinks.faults
    → own ≡ number.0 → was ≡ mid → WritesOnly own was last → was.sinks.faults ≤ last.sinks.faults → new ≡ last → WritesFiles (name ∷ []) old new
wrote-file old mid was last new opened name number own name_is opens notes first own_is was_is writes then new_is =
    let more : mid.sinks.faults ≤ last.sinks.faults = omega (arith, then, ap (λ (s : FilesState). s.sinks.faults) was_is) in
    let wrote = writes-file old mid last opened number opens notes first (at-end mid was last number own own_is was_is writes) more in
    let N : List ℕ → Type 0 = λ n. WritesFiles (n ∷ []) old last in
    let E : FilesState → Type 0 = λ s. WritesFiles (name ∷ []) old s in
    subst E (sym new_is) (subst N name_is wrote.0)

pub hands-written : (old mid was last : FilesState) (now : Option (List (List ℕ))) (opened name : List ℕ) (number : FileNo) (own : ℕ) → opened ≡ name
    → NotesName old.sinks.names mid.sinks.names opened (Ok number) → was ≡ mid → WritesOnly own was last → now ≡ last.sinks.names → AppendsNames old.sinks.names now (name ∷ [])
hands-written old mid was last now opened name number own name_is notes was_is writes now_is =
    let names : now ≡ mid.sinks.names = now_is ∙ ap (λ (s : FilesState). s.sinks.names) writes.state ∙ ap (λ (s : FilesState). s.sinks.names) was_is in
    let N : List ℕ → Type 0 = λ n. AppendsNames old.sinks.names now (n ∷ []) in
    subst N name_is (subst (λ (n : Option (List (List ℕ))). AppendsNames old.sinks.names n (opened ∷ [])) (sym names) notes)

pub gives-written : (old mid was last : FilesState) (given : Option (List ℕ)) (opened name : List ℕ) (number : FileNo) (own again : ℕ) (bytes : List ℕ) (P : List ℕ → Type 0) → opened ≡ name
    → OpensSink old mid opened (Ok number) → own ≡ number.0 → was ≡ mid → WritesOnly own was last → given ≡ last.contents name
    → again ≡ own → ((n : List ℕ) → (sink_of last again).name ≡ Some n → last.contents n ≡ written_of last again)
    → Appends (written_of was own) (written_of last again) bytes → P bytes → IfSome old.sinks.names (λ told. GivesText given P)
gives-written old mid was last given opened name number own again bytes P name_is opens own_is was_is writes given_is again_is filled appends p =
    let F : ℕ → Type 0 = λ k. (n : List ℕ) → (sink_of last k).name ≡ Some n → last.contents n ≡ written_of last k in
    let A : ℕ → Type 0 = λ k. Appends (written_of mid k) (written_of last k) bytes in
    let M : FilesState → Type 0 = λ m. Appends (written_of m own) (written_of last own) bytes in
    let G : ℕ → Type 0 = λ k. Appends (written_of was own) (written_of last k) bytes in
    let E : Option (List ℕ) → Type 0 = λ x. IfSome old.sinks.names (λ told. GivesText x P) in
    let N : List ℕ → Type 0 = λ n. IfSome old.sinks.names (λ told. GivesText (last.contents n) P) in
    subst E (sym given_is) (subst N name_is
    (made-gives old mid last opened number bytes P opens (at-end mid was last number own own_is was_is writes) (subst F own_is (subst F again_is filled)) (subst A own_is (subst M was_is (subst G again_is appends))) p))

-- a name gives these bytes
pub only-these : (names : Option (List (List ℕ))) (given : Option (List ℕ)) (text : List ℕ) → IfSome names (λ told. GivesText given (λ bytes. bytes ≡ text)) → IfSome names (λ told. given ≡ Some text)
only-these None given text h = tt
only-these (Some told) given text h = h.1 ∙ ap (λ (z : List ℕ). Some z) h.2

-- what follows at `Ok`
pub OnOk-map : {X E : Type 0} (r : Result X E) (P Q : Type 0) → (P → Q) → OnOk r P → OnOk r Q
OnOk-map (Ok x) P Q go p = go p
OnOk-map (Err e) P Q go p = tt

-- a file was not made
pub writes-none : (old new : FilesState) (name : List ℕ) (fault : OpenFault) → OpensSink old new name (Err fault) → NotesName old.sinks.names new.sinks.names name (Err fault)
    → old.sinks.faults ≤ new.sinks.faults → WritesFiles (name ∷ []) old new
writes-none old new name fault opens notes later =
    record {
      frame = opens_sinks old new name (Err fault) opens;
      handed = OpensInOrder-refused old.sinks.names new.sinks.names name fault notes;
      others = λ other apart. ap (λ (s : FilesState). s.contents other) opens;
      later = later;
    }

-- nothing was written
pub writes-nothing : (names : List (List ℕ)) (files : FilesState) → WritesFiles names files files
writes-nothing names files = record { frame = refl; handed = OpensInOrder-none files.sinks.names names; others = λ other apart. refl; later = omega arith }

-- names that were told stay told
pub gives-before : (m0 m1 : Option (List (List ℕ))) (names : List (List ℕ)) (P : Type 0) → AppendsNames m0 m1 names
    → IfSome m1 (λ told. P) → IfSome m0 (λ told. P)
gives-before None m1 names P noted p = tt
gives-before (Some x) None names P noted p = absurd noted
gives-before (Some x) (Some y) names P noted p = p

-- the first of two files was written, and the second was not begun; or both were
pub writes-first : (first second : List ℕ) (old new : FilesState) → WritesFiles (first ∷ []) old new → WritesFiles (first ∷ second ∷ []) old new
writes-first first second old new wrote = record {
  frame = wrote.frame;
  handed = OpensInOrder-first old.sinks.names new.sinks.names first first (second ∷ []) refl wrote.handed;
  others = λ other apart. wrote.others other (one other apart);
  later = wrote.later;
}
  where
    one : (other : List ℕ) → (Contains (first ∷ second ∷ []) other → ⊥) → Contains (first ∷ []) other → ⊥
    one other apart (zero, inside, is) = apart (0, omega arith, is)
    one other apart (suc k, inside, is) = omega (arith, inside)

pub writes-both : (first second : List ℕ) (old mid new : FilesState) → WritesFiles (first ∷ []) old mid → AppendsNames old.sinks.names mid.sinks.names (first ∷ []) → WritesFiles (second ∷ []) mid new
    → WritesFiles (first ∷ second ∷ []) old new
writes-both first second old mid new wrote noted then =
    let one = wrote.later in
    let two = then.later in
    record {
      frame = ChangesSinks-trans old mid new wrote.frame then.frame;
      handed = OpensInOrder-then old.sinks.names mid.sinks.names new.sinks.names first first (second ∷ []) refl noted then.handed;
      others = λ other apart. then.others other (last other apart) ∙ wrote.others other (one_of other apart);
      later = omega (arith, one, two);
    }
  where
    one_of : (other : List ℕ) → (Contains (first ∷ second ∷ []) other → ⊥) → Contains (first ∷ []) other → ⊥
    one_of other apart (zero, inside, is) = apart (0, omega arith, is)
    one_of other apart (suc k, inside, is) = omega (arith, inside)

    last : (other : List ℕ) → (Contains (first ∷ second ∷ []) other → ⊥) → Contains (second ∷ []) other → ⊥
    last other apart (zero, inside, is) = apart (1, omega arith, is)
    last other apart (suc k, inside, is) = omega (arith, inside)

-- another name than the one that was written gives what it gave
pub other-kept : (name other : List ℕ) (old new : FilesState) → WritesFiles (name ∷ []) old new → other ≢ name → new.contents other ≡ old.contents other
other-kept name other old new wrote apart = wrote.others other (not other apart)
  where
    not : (other : List ℕ) → other ≢ name → Contains (name ∷ []) other → ⊥
    not other apart (zero, inside, is) = apart (sym is)
    not other apart (suc k, inside, is) = omega (arith, inside)
