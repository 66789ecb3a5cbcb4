-- A file that was opened as a disk and used.
use Rattle.std.proofs.Common.{◌≡◌, ◌≢◌, ℕ, ◌<◌, ◌≤◌, Bool, true, false, IsTrue, nat_lt, List, [], ◌∷◌, ◌++◌, length, get_or, Option, None, Some, IfSome, Result, Ok, Err, OnOk, refl, sym, ap, ◌∙◌, subst, arith, ⊎_elim, length-append}
use Rattle.std.specs.Option.{option_map}
use Rattle.std.proofs.lemmas.Bool.{lt-ltb}
use Rattle.std.proofs.lemmas.Slice.Eq.{bytes_eq-Decides}
use Rattle.std.specs.Prelude.{IfErr, bytes_eq}
use Rattle.std.proofs.Math.Seq.{get_or-append_seam}
use Rattle.gl_outside.specs.Disk.{DiskPast}
use Rattle.gl_outside.specs.FilesState.{FilesState, Opened, disk_name, disk_past, is_opened, past_under}
use Rattle.gl_outside.specs.Frames.{ChangesDisk, OpensDisk}
use Rattle.gl_outside.specs.Inner.Laws.{decide, differs}
use Rattle.gl_outside.specs.Names.{AppendsNames, NotesName}
use Rattle.gl_outside.specs.declared.files.FileNo.{FileNo}
use Rattle.gl_outside.specs.declared.files.OpenFault.{OpenFault}
use Rattle.gl_outside.specs.declared.files.OpenFault.TheVariants as open_fault
use Rattle.gl_outside.specs.Faults.{Rose}
use Rattle.gl_outside.proofs.Fronts.{Rose-later}
use Rattle.job_io.proofs.whole_files.NamesHanded.{OpensInOrder-refused}
use Rattle.job_io.specs.declared.job_stores.making.StoreError.{StoreError}
use Rattle.job_io.specs.declared.job_stores.making.StoreError.TheVariants as no
use Rattle.job_io.specs.job_stores.Inner.Making.{IsRefusedBy, no_store_of}
use Rattle.job_io.specs.job_stores.NewStores.{ChangesDisks, HasBytes, IfDisksTold, MakeStoreErrorCause, KeepsFilledDisks, UsesDisk}

-- the last file of those that are open
is_last : {X : Type 0} (xs now : List X) (x d : X) (number : ℕ) → number ≡ length xs → now ≡ xs ++ x ∷ [] → IsTrue (nat_lt number (length now)) × (get_or now number d ≡ x)
is_last xs now x d number is grown = (
  lt-ltb number (length now) (omega (arith, is, ap (length {A = _}) grown, length-append xs (x ∷ []))),
  ap (λ (ys : List _). get_or ys number d) grown ∙ ap (λ (k : ℕ). get_or (xs ++ x ∷ []) k d) is ∙ get_or-append_seam xs x [] d,
)

-- a file that was opened as a disk has its name
pub disk_opened : (old new : FilesState) (name : List ℕ) (file : FileNo) → OpensDisk old new name (Ok file)
    → IsTrue (is_opened new.disks file.0) × (disk_name new file.0 ≡ option_map (λ told. name) old.disks.names)
disk_opened old new name file opens =
    is_last old.disks.files new.disks.files (option_map (λ told. name) old.disks.names) None file.0 opens.0 (ap (λ (s : FilesState). s.disks.files) opens.1)

-- what changes disks alone
opens_disks : (old new : FilesState) (name : List ℕ) (result : Result FileNo OpenFault) → OpensDisk old new name result → ChangesDisks old new
opens_disks old new name (Ok file) opens = opens.1 ∙ ap (λ (s : FilesState). record old { pasts = s.pasts; disks = s.disks }) (sym opens.1)
opens_disks old new name (Err fault) opens = opens ∙ ap (λ (s : FilesState). record old { pasts = s.pasts; disks = s.disks }) (sym opens)

uses_disks : (file : ℕ) (old new : FilesState) → ChangesDisk file old new → ChangesDisks old new
uses_disks file old new uses =
    uses.state ∙ ap (λ (s : Opened (Option (List ℕ))). record old { pasts = new.pasts; disks = s }) (sym (ap (λ (s : FilesState). s.disks) uses.state))

-- one after another
ChangesDisks-trans : (a b c : FilesState) → ChangesDisks a b → ChangesDisks b c → ChangesDisks a c
ChangesDisks-trans a b c p q = q ∙ ap (λ (s : FilesState). record s { pasts = c.pasts; disks = c.disks }) p

-- what holds is said where disks are told
pub always-told : (told : Bool) (files : FilesState) (P : Type 0) → P → IfDisksTold told files P
always-told told files P p = go files.disks.names
  where
    go : (names : Option (List (List ℕ))) → IfSome names (λ n. IsTrue told → P)
    go None = tt
    go (Some n) = λ is. p

-- The file was opened under this name, and then used.
module _ (old mid new : FilesState) (name : List ℕ) (file : FileNo) (opens : OpensDisk old mid name (Ok file)) (uses : ChangesDisk file.0 mid new) where
  named : disk_name mid file.0 ≡ option_map (λ told. name) old.disks.names
  named = (disk_opened old mid name file opens).1

  pasts : (other : List ℕ) → mid.pasts other ≡ old.pasts other
  pasts other = ap (λ (s : FilesState). s.pasts other) opens.1

  others : (other : List ℕ) → other ≢ name → new.pasts other ≡ old.pasts other
  others other apart = uses.others other (λ is. apart (one_name old.disks.names (sym named ∙ is))) ∙ pasts other
    where
      one_name : (names : Option (List (List ℕ))) → option_map (λ told. name) names ≡ Some other → other ≡ name
      one_name None e = absurd (none e)
        where
          none : (let o : Option (List ℕ) = None in o) ≡ Some other → ⊥
          none e = cc
      one_name (Some told) e = cc

  pub used-disk : NotesName old.disks.names mid.disks.names name (Ok file) → old.disks.faults ≤ mid.disks.faults → mid.disks.faults ≤ new.disks.faults → UsesDisk name old new
  used-disk notes first then =
      let names : new.disks.names ≡ mid.disks.names = ap (λ (s : FilesState). s.disks.names) uses.state in
      record {
        frame = ChangesDisks-trans old mid new (opens_disks old mid name (Ok file) opens) (uses_disks file.0 mid new uses);
        handed = (1, subst (λ (n : Option (List (List ℕ))). AppendsNames old.disks.names n (name ∷ [])) (sym names) notes);
        others = others;
        later = omega (arith, first, then);
      }

  -- what holds of the states of the file holds of those of its name
  pub told-pasts : (told : Bool) (P : DiskPast → DiskPast → Type 0) → (IsTrue told → P (disk_past mid file.0) (disk_past new file.0)) → IfDisksTold told old (P (old.pasts name) (new.pasts name))
  told-pasts told P holds = go old.disks.names named
    where
      still : disk_name new file.0 ≡ disk_name mid file.0
      still = ap (λ (s : FilesState). disk_name s file.0) uses.state

      go : (names : Option (List (List ℕ))) → disk_name mid file.0 ≡ option_map (λ told. name) names → IfSome names (λ n. IsTrue told → P (old.pasts name) (new.pasts name))
      go None is = tt
      go (Some n) is = λ yes.
          let first : disk_past mid file.0 ≡ old.pasts name = ap (past_under mid.pasts) is ∙ pasts name in
          let second : disk_past new file.0 ≡ new.pasts name = ap (past_under new.pasts) (still ∙ is) in
          let Q : DiskPast → Type 0 = λ p. P p (disk_past new file.0) in
          subst (P (old.pasts name)) second (subst Q first (holds yes))

  -- a disk that has bytes stays
  pub kept-filled : (told : Bool) → (IsTrue told → 0 < length (disk_past mid file.0).now.seen → disk_past new file.0 ≡ disk_past mid file.0) → KeepsFilledDisks told old new
  kept-filled told kept other = ⊎_elim same apart (decide (bytes_eq other name))
    where
      own : IfDisksTold told old (0 < length (old.pasts name).now.seen → new.pasts name ≡ old.pasts name)
      own = told-pasts told (λ p q. 0 < length p.now.seen → q ≡ p) kept

      same : bytes_eq other name ≡ true → IfDisksTold told old (0 < length (old.pasts other).now.seen → new.pasts other ≡ old.pasts other)
      same is =
          let K : List ℕ → Type 0 = λ n. IfDisksTold told old (0 < length (old.pasts n).now.seen → new.pasts n ≡ old.pasts n) in
          subst K (sym ((bytes_eq-Decides other name).0 is)) own

      apart : bytes_eq other name ≡ false → IfDisksTold told old (0 < length (old.pasts other).now.seen → new.pasts other ≡ old.pasts other)
      apart isnt =
          always-told told old (0 < length (old.pasts other).now.seen → new.pasts other ≡ old.pasts other) (λ filled. others other (λ e. differs isnt ((bytes_eq-Decides other name).1 e)))

-- no file was opened
pub unused-disk : (old new : FilesState) (name : List ℕ) (fault : OpenFault) → OpensDisk old new name (Err fault) → NotesName old.disks.names new.disks.names name (Err fault)
    → old.disks.faults ≤ new.disks.faults → UsesDisk name old new
unused-disk old new name fault opens notes later =
    record {
      frame = opens_disks old new name (Err fault) opens;
      handed = OpensInOrder-refused old.disks.names new.disks.names name fault notes;
      others = λ other apart. ap (λ (s : FilesState). s.pasts other) opens;
      later = later;
    }

pub unused-filled : (told : Bool) (old new : FilesState) (name : List ℕ) (fault : OpenFault) → OpensDisk old new name (Err fault) → KeepsFilledDisks told old new
unused-filled told old new name fault opens other =
    always-told told old (0 < length (old.pasts other).now.seen → new.pasts other ≡ old.pasts other) (λ filled. ap (λ (s : FilesState). s.pasts other) opens)

-- The same at the end of a call that used the file as a disk of its own.
at-end : (mid was last : FilesState) (file : FileNo) (own : ℕ) → own ≡ file.0 → was ≡ mid → ChangesDisk own was last → ChangesDisk file.0 mid last
at-end mid was last file own own_is was_is uses =
    let K : ℕ → Type 0 = λ k. ChangesDisk k was last in
    let M : FilesState → Type 0 = λ m. ChangesDisk file.0 m last in
    subst M was_is (subst K own_is uses)

pub used-at-end : (old mid was last new : FilesState) (name : List ℕ) (file : FileNo) (own : ℕ) → OpensDisk old mid name (Ok file) → own ≡ file.0 → was ≡ mid → ChangesDisk own was last
    → new ≡ last → NotesName old.disks.names mid.disks.names name (Ok file) → old.disks.faults ≤ mid.disks.faults → was.disks.faults ≤ last.disks.faults → UsesDisk name old new
used-at-end old mid was last new name file own opens own_is was_is uses new_is notes first then =
    let more : mid.disks.faults ≤ last.disks.faults = omega (arith, then, ap (λ (s : FilesState). s.disks.faults) was_is) in
    subst (UsesDisk name old) (sym new_is) (used-disk old mid last name file opens (at-end mid was last file own own_is was_is uses) notes first more)

-- `used` names the files at the end.
module _ (old mid was last new : FilesState) (name : List ℕ) (file : FileNo) (own again : ℕ) (opens : OpensDisk old mid name (Ok file)) (own_is : own ≡ file.0) (was_is : was ≡ mid)
    (uses : ChangesDisk own was last) (again_is : again ≡ own) (used : UsesDisk name old new) (new_is : new ≡ last) where
  first_past : disk_past was own ≡ disk_past mid file.0
  first_past = ap (λ (m : FilesState). disk_past m own) was_is ∙ ap (disk_past mid) own_is

  last_past : disk_past last again ≡ disk_past last file.0
  last_past = ap (disk_past last) (again_is ∙ own_is)

  pub told-at-end : (told : Bool) (P : DiskPast → DiskPast → Type 0) → (IsTrue told → P (disk_past was own) (disk_past last again)) → IfDisksTold told old (P (old.pasts name) (new.pasts name))
  told-at-end told P holds =
      let A : DiskPast → Type 0 = λ p. P p (disk_past last again) in
      let E : FilesState → Type 0 = λ s. IfDisksTold told old (P (old.pasts name) (s.pasts name)) in
      subst E (sym new_is)
      (told-pasts old mid last name file opens (at-end mid was last file own own_is was_is uses) told P (λ yes. subst (P (disk_past mid file.0)) last_past (subst A first_past (holds yes))))

  pub filled-at-end : (told : Bool) → (IsTrue told → 0 < length (disk_past was own).now.seen → disk_past last again ≡ disk_past was own) → KeepsFilledDisks told old new
  filled-at-end told kept =
      let A : DiskPast → Type 0 = λ p. 0 < length p.now.seen → disk_past last again ≡ p in
      let B : DiskPast → Type 0 = λ p. 0 < length (disk_past mid file.0).now.seen → p ≡ disk_past mid file.0 in
      subst (KeepsFilledDisks told old) (sym new_is)
      (kept-filled old mid last name file opens (at-end mid was last file own own_is was_is uses) told (λ yes. subst B last_past (subst A first_past (kept yes))))

  pub made-at-end : {E : Type 0} (r : Result (Unit {0}) E) (told : Bool) (P : DiskPast → DiskPast → Type 0) → (IsTrue told → OnOk r (P (disk_past was own) (disk_past last again)))
      → OnOk r (IfDisksTold told old (P (old.pasts name) (new.pasts name)))
  made-at-end (Ok done) told P holds = told-at-end told P holds
  made-at-end (Err fault) told P holds = tt

  why-at-end : (told : Bool) (why : StoreError) → old.disks.faults ≤ mid.disks.faults → IsRefusedBy (IsTrue told) (disk_past was own) was.disks.faults last.disks.faults why → MakeStoreErrorCause told name old new why
  why-at-end told (no.BadStore fault) first refused = told-at-end told (λ p q. HasBytes p fault) refused
  why-at-end told no.DiskFault first rose =
      let before : old.disks.faults ≤ was.disks.faults = omega (arith, first, ap (λ (s : FilesState). s.disks.faults) was_is) in
      let R : FilesState → Type 0 = λ s. Rose old.disks.faults s.disks.faults in
      subst R (sym new_is) (Rose-later old.disks.faults was.disks.faults last.disks.faults before rose)
  why-at-end told no.NoMemory first refused = absurd refused

  pub refused-at-end : (r : Result (Unit {0}) StoreError) (told : Bool) → old.disks.faults ≤ mid.disks.faults → IfErr r (IsRefusedBy (IsTrue told) (disk_past was own) was.disks.faults last.disks.faults)
      → IfErr r (MakeStoreErrorCause told name old new)
  refused-at-end (Ok done) told first refused = tt
  refused-at-end (Err why) told first refused = why-at-end told why first refused

-- why no store was made where the file was not opened
pub why-unopened : (told : Bool) (old new : FilesState) (name : List ℕ) (fault : OpenFault) → OpensDisk old new name (Err fault)
    → ((let r : Result FileNo OpenFault = Err fault in r) ≡ Err open_fault.Failed → Rose old.disks.faults new.disks.faults) → MakeStoreErrorCause told name old new (no_store_of fault)
why-unopened told old new name open_fault.Failed opens failed = failed refl
why-unopened told old new name open_fault.NoMemory opens failed = ap (λ (s : FilesState). s.pasts) opens
