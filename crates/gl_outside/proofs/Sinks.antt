-- Lemmas on files in memory that are written.
use Rattle.std.proofs.Common.{◌≡◌, ◌≢◌, inl, inr, ℕ, ◌+◌, ◌<◌, ◌≤◌, Bool, List, [], ◌∷◌, ◌++◌, length, get_or, take, drop, map, Option, Some, None, Ok, Err, refl, sym, ap, ◌∙◌, subst, arith, length-append, length-set}
use Rattle.std.specs.Prelude.{bytes_eq, All, zero, suc, slice_get, slice_set, fold, is_some, IsTrue, if◌then◌else◌}
use Rattle.std.specs.Option.{option_and_then}
use Rattle.std.specs.Io.KnownBytes.{Appends}
use Rattle.std.proofs.lemmas.List.{ext_get_or, get_or_append_left, get_or-set_same, get_or-set_other, get_or-map, length-map, map-append, set-get_or, take_all, take-append-le}
use Rattle.std.proofs.Math.Seq.{get_or-append_seam}
use Rattle.std.proofs.lemmas.Option.{slice_get_within, get_or_from_slice_get, slice_get-get_or}
use Rattle.std.proofs.lemmas.Bool.{cases_eq, cases_lt}
use Rattle.std.proofs.lemmas.Bool.Decides.{nat_tests}
use Rattle.std.proofs.lemmas.List.Elements.{All-head, All-tail, All-get_or, All-from_get_or}
use Rattle.gl_outside.specs.FilesState.{Written, is_opened, sink_of}
use Rattle.gl_outside.specs.Frames.{OpensSink, WritesOnly, unless, without_name}
use Rattle.gl_outside.specs.Store.{NamedBytes, StoreState, bytes_at, name_at_place, bytes_of, newer, newest_name, sink_at, files_of_store}
use Rattle.gl_outside.specs.Inner.Laws.{decide, found, newer-other, newest-none}
use Rattle.gl_outside.specs.Inner.OpenFiles.{left_in, IsOpenInside, appended, AreSinks}
use Rattle.gl_outside.specs.declared.files.OpenFault.{OpenFault}
use Rattle.gl_outside.specs.declared.mem_files.OpenFile.{OpenFile}
use Rattle.gl_outside.proofs.StoredFiles.{bytes_at-append, bytes_of-push, bytes_of_other, IsOpenInside-append, same_contents, same_disks, same_files, same_opened, same_pasts, same_sources}

-- a file more takes its name from older ones
newest-push : (files : List NamedBytes) (file : NamedBytes) (place : ℕ) → place < length files
    → newest_name (files ++ file ∷ []) place ≡ option_and_then (unless file.name) (newest_name files place)
newest-push [] file place inside = absurd (omega (arith, inside))
newest-push (f ∷ fs) file zero inside =
    let more : bytes_of (fs ++ file ∷ []) f.name ≡ newer f.name (bytes_of fs f.name) file = bytes_of-push fs file f.name in
    elim (found fs f.name) [
      | inr some ↦ elim (decide (bytes_eq file.name f.name)) [
        | inl same ↦ rw (more, some.1 None, same) refl
        | inr isnt ↦ rw (more, some.1 None, isnt) refl
      ]
      | inl none ↦ elim (decide (bytes_eq file.name f.name)) [
        | inl same ↦ rw (more, none None, same) refl
        | inr isnt ↦ rw (more, none None, isnt) refl
      ]
    ]
newest-push (f ∷ fs) file (suc place) inside = newest-push fs file place (omega (arith, inside))

-- and has it
newest-pushed : (files : List NamedBytes) (file : NamedBytes) → newest_name (files ++ file ∷ []) (length files) ≡ Some file.name
newest-pushed [] file = refl
newest-pushed (f ∷ fs) file = newest-pushed fs file

-- a file that isn't the newest of a name is nothing to what the name gives
set-replaced : (files : List NamedBytes) (place : ℕ) (new : NamedBytes) (name : List ℕ) (a : Option (List ℕ)) → new.name ≡ name_at_place files place
    → newest_name files place ≢ Some name → fold (newer name) a (slice_set files place new) ≡ fold (newer name) a files
set-replaced [] place new name a same not = refl
set-replaced (f ∷ fs) zero new name a same not = elim (found fs name) [
  | inr some ↦ some.1 (newer name a new) ∙ sym (some.1 (newer name a f))
  | inl none ↦
      let apart : f.name ≢ name = λ e. not (newest-none f fs (ap (bytes_of fs) e ∙ none None) ∙ ap (λ (n : List ℕ). Some n) e) in
      let apart_new : new.name ≢ name = λ e. apart (sym same ∙ e) in
      ap (λ (x : Option (List ℕ)). fold (newer name) x fs) (newer-other new name a apart_new ∙ sym (newer-other f name a apart))
]
set-replaced (f ∷ fs) (suc place) new name a same not = set-replaced fs place new name (newer name a f) same not

-- a file that keeps its name leaves all names to the files that have them
same-some : (f g : NamedBytes) (name : List ℕ) (a b : Option (List ℕ)) → f.name ≡ g.name → is_some a ≡ is_some b → is_some (newer name a f) ≡ is_some (newer name b g)
same-some f g name a b named some = elim (decide (bytes_eq g.name name)) [
  | inl same ↦ rw (named, same) refl
  | inr isnt ↦ rw (named, isnt) some
]

fold-some : (files : List NamedBytes) (name : List ℕ) (a b : Option (List ℕ)) → is_some a ≡ is_some b → is_some (fold (newer name) a files) ≡ is_some (fold (newer name) b files)
fold-some [] name a b some = some
fold-some (f ∷ fs) name a b some = fold-some fs name (newer name a f) (newer name b f) (same-some f f name a b refl some)

set-some : (files : List NamedBytes) (place : ℕ) (new : NamedBytes) (name : List ℕ) (a : Option (List ℕ)) → new.name ≡ name_at_place files place
    → is_some (fold (newer name) a (slice_set files place new)) ≡ is_some (fold (newer name) a files)
set-some [] place new name a same = refl
set-some (f ∷ fs) zero new name a same = fold-some fs name (newer name a new) (newer name a f) (same-some new f name a a same refl)
set-some (f ∷ fs) (suc place) new name a same = set-some fs place new name (newer name a f) same

newest-set : (files : List NamedBytes) (place k : ℕ) (new : NamedBytes) → new.name ≡ name_at_place files place → newest_name (slice_set files place new) k ≡ newest_name files k
newest-set [] place k new same = refl
newest-set (f ∷ fs) zero zero new same = ap (λ (n : List ℕ). if is_some (bytes_of fs n) then None else Some n) same
newest-set (f ∷ fs) zero (suc k) new same = refl
newest-set (f ∷ fs) (suc place) zero new same = ap (λ (b : Bool). if b then None else Some f.name) (set-some fs place new f.name None same)
newest-set (f ∷ fs) (suc place) (suc k) new same = newest-set fs place k new same

-- the names stay as a piece is added to a file
name_at_place-appended : (files : List NamedBytes) (place k : ℕ) (piece : List ℕ) (ready : ℕ) → place < length files → name_at_place (appended files place piece ready) k ≡ name_at_place files k
name_at_place-appended files place k piece ready inside = elim (cases_eq k place) [
  | inl e ↦ rw e (ap (λ (f : NamedBytes). f.name) (get_or-set_same files place _ _ inside))
  | inr apart ↦ ap (λ (f : NamedBytes). f.name) (get_or-set_other files place k _ _ apart)
]

pub bytes_at-appended : (files : List NamedBytes) (place : ℕ) (piece : List ℕ) (ready : ℕ) → place < length files → bytes_at (appended files place piece ready) place ≡ bytes_at files place ++ piece
bytes_at-appended files place piece ready inside = ap (λ (f : NamedBytes). f.bytes) (get_or-set_same files place _ _ inside)

pub bytes_at-appended_other : (files : List NamedBytes) (place k : ℕ) (piece : List ℕ) (ready : ℕ) → k ≢ place → bytes_at (appended files place piece ready) k ≡ bytes_at files k
bytes_at-appended_other files place k piece ready apart = ap (λ (f : NamedBytes). f.bytes) (get_or-set_other files place k _ _ apart)

pub length-appended : (files : List NamedBytes) (place : ℕ) (piece : List ℕ) (ready : ℕ) → length (appended files place piece ready) ≡ length files
length-appended files place piece ready = length-set files place _

-- a file is made and opened for writing
pub sinks_pushed : (files files_now : List NamedBytes) (sinks now : List ℕ) (file : NamedBytes) → files_now ≡ files ++ file ∷ [] → now ≡ sinks ++ length files ∷ []
    → AreSinks files sinks → AreSinks files_now now
sinks_pushed files files_now sinks now file files_grown grown are =
    subst (λ (fs : List NamedBytes). AreSinks fs now) (sym files_grown) (subst (AreSinks (files ++ file ∷ [])) (sym grown) (record { known = known; ascending = ascending }))
  where
    more : length (files ++ file ∷ []) ≡ length files + 1
    more = length-append files (file ∷ [])

    long : length (sinks ++ length files ∷ []) ≡ length sinks + 1
    long = length-append sinks (length files ∷ [])

    at_left : (i : ℕ) → i < length sinks → get_or (sinks ++ length files ∷ []) i 0 ≡ get_or sinks i 0
    at_left i inside = get_or_append_left sinks (length files ∷ []) 0 i inside

    at_end : get_or (sinks ++ length files ∷ []) (length sinks) 0 ≡ length files
    at_end = get_or-append_seam sinks (length files) [] 0

    below : (i : ℕ) → i < length sinks → get_or sinks i 0 < length files
    below i inside = All-get_or (λ p. p < length files) sinks i 0 inside are.known

    known : All (λ p. p < length (files ++ file ∷ [])) (sinks ++ length files ∷ [])
    known = All-from_get_or (λ p. p < length (files ++ file ∷ [])) (sinks ++ length files ∷ []) 0 (λ i inside. elim (cases_eq i (length sinks)) [
      | inl e ↦ omega (arith, more, ap (λ (k : ℕ). get_or (sinks ++ length files ∷ []) k 0) e, at_end)
      | inr apart ↦
          let inner : i < length sinks = omega (arith, apart, inside, long) in
          omega (arith, more, at_left i inner, below i inner)
    ])

    ascending : (i j : ℕ) → i < j → j < length (sinks ++ length files ∷ []) → get_or (sinks ++ length files ∷ []) i 0 < get_or (sinks ++ length files ∷ []) j 0
    ascending i j order inside =
        let first : i < length sinks = omega (arith, order, inside, long) in
        elim (cases_eq j (length sinks)) [
          | inl e ↦ omega (arith, at_left i first, below i first, ap (λ (k : ℕ). get_or (sinks ++ length files ∷ []) k 0) e, at_end)
          | inr apart ↦
              let inner : j < length sinks = omega (arith, apart, inside, long) in
              omega (arith, at_left i first, at_left j inner, are.ascending i j order inner)
        ]

-- the files that are open for writing, as callers see them, and one more
sinks-push : (files : List NamedBytes) (file : NamedBytes) (name : List ℕ) (sinks : List ℕ) → file.name ≡ name → All (λ p. p < length files) sinks
    → map (sink_at (files ++ file ∷ [])) sinks ≡ map (without_name name) (map (sink_at files) sinks)
sinks-push files file name [] named known = refl
sinks-push files file name (p ∷ ps) named known =
    let inside = All-head (λ q. q < length files) p ps known in
    let bytes = ap (λ (b : List ℕ). Some b) (bytes_at-append files (file ∷ []) p inside) in
    let names = newest-push files file p inside ∙ ap (λ (n : List ℕ). option_and_then (unless n) (newest_name files p)) named in
    let first : sink_at (files ++ file ∷ []) p ≡ without_name name (sink_at files p) = written-same _ _ names bytes in
    let rest = sinks-push files file name ps named (All-tail (λ q. q < length files) p ps known) in
    cc
  where
    written-same : (a b : Written) → a.name ≡ b.name → a.bytes ≡ b.bytes → a ≡ b
    written-same a b names bytes = ap (λ (n : Option (List ℕ)). record a { name = n }) names ∙ ap (λ (bs : Option (List ℕ)). record b { bytes = bs }) bytes

-- an open for writing adds an empty file
pub opens_sink : (old new : StoreState) (file : NamedBytes) (name : List ℕ) (number : ℕ) → file.name ≡ name → file.bytes ≡ [] → number ≡ length old.sinks
    → new.files ≡ old.files ++ file ∷ [] → new.sinks ≡ old.sinks ++ length old.files ∷ [] → AreSinks old.files old.sinks
    → new.reads ≡ old.reads → new.source_names ≡ old.source_names → new.opened ≡ old.opened → new.disks ≡ old.disks
    → OpensSink (files_of_store old) (files_of_store new) name (Ok (record { 0 = number }))
opens_sink old new file name number named empty numbered files sinks are reads names opened disks =
    let all = old.files ++ file ∷ [] in
    let last : sink_at all (length old.files) ≡ record { name = Some name; bytes = Some [] } =
    let n = newest-pushed old.files file ∙ ap (λ (x : List ℕ). Some x) named in
    let b = ap (λ (bytes : List ℕ). Some bytes) (ap (λ (f : NamedBytes). f.bytes) (get_or-append_seam old.files file [] _) ∙ empty) in
    ap (λ (x : Option (List ℕ)). record { name = x; bytes = Some (bytes_at all (length old.files)) }) n ∙ ap (λ (x : Option (List ℕ)). record { name = Some name; bytes = x }) b in
    let grown : map (sink_at new.files) new.sinks ≡ map (without_name name) (map (sink_at old.files) old.sinks) ++ record { name = Some name; bytes = Some [] } ∷ [] =
    ap (λ (fs : List NamedBytes). map (sink_at fs) new.sinks) files
    ∙ ap (map (sink_at all)) sinks
    ∙ map-append (sink_at all) old.sinks (length old.files ∷ [])
    ∙ ap (λ (ws : List Written). ws ++ sink_at all (length old.files) ∷ []) (sinks-push old.files file name old.sinks named are.known)
    ∙ ap (λ (w : Written). map (without_name name) (map (sink_at old.files) old.sinks) ++ w ∷ []) last in (
      numbered ∙ sym (length-map old.sinks (sink_at old.files)),
      same_files _ _ refl (same_sources old new reads names opened) (same_opened _ _ refl refl grown) (same_pasts old new disks) (same_disks old new disks),
      λ other apart. bytes_of_other old.files new.files file name other files named apart,
    )

-- an open that fails adds none
pub opens_no_sink : (old new : StoreState) (name : List ℕ) (fault : OpenFault) → new.files ≡ old.files → new.sinks ≡ old.sinks
    → new.reads ≡ old.reads → new.source_names ≡ old.source_names → new.opened ≡ old.opened → new.disks ≡ old.disks → OpensSink (files_of_store old) (files_of_store new) name (Err fault)
opens_no_sink old new name fault files sinks reads names opened disks =
    same_files _ _ (same_contents old new files) (same_sources old new reads names opened)
    (same_opened _ _ refl refl (ap (λ (fs : List NamedBytes). map (sink_at fs) new.sinks) files ∙ ap (map (sink_at old.files)) sinks))
    (same_pasts old new disks) (same_disks old new disks)

-- a piece is written to one file
sinks_apart : (files : List NamedBytes) (sinks : List ℕ) (i j p q : ℕ) → AreSinks files sinks → slice_get sinks i ≡ Some p → slice_get sinks j ≡ Some q → i ≢ j → p ≢ q
sinks_apart files sinks i j p q are at_i at_j apart same =
    let pi : get_or sinks i 0 ≡ p = get_or_from_slice_get sinks i p 0 at_i in
    let qj : get_or sinks j 0 ≡ q = get_or_from_slice_get sinks j q 0 at_j in
    let i_in = slice_get_within sinks i p at_i in
    let j_in = slice_get_within sinks j q at_j in
    elim (cases_lt i j) [
      | inl below ↦ omega (arith, are.ascending i j below j_in, pi, qj, same)
      | inr above ↦
          let below : j < i = omega (arith, above, apart) in
          omega (arith, are.ascending j i below i_in, pi, qj, same)
    ]

-- what is written to one file leaves the others, as callers see them
sink_at-other : (files : List NamedBytes) (place k : ℕ) (piece : List ℕ) (ready : ℕ) → k ≢ place → sink_at (appended files place piece ready) k ≡ sink_at files k
sink_at-other files place k piece ready apart =
    ap (λ (n : Option (List ℕ)). record { name = n; bytes = Some (bytes_at (appended files place piece ready) k) }) (newest-set files place k (record { name = name_at_place files place; bytes = bytes_at files place ++ piece; ready = ready }) refl)
    ∙ ap (λ (b : List ℕ). record { name = newest_name files k; bytes = Some b }) (bytes_at-appended_other files place k piece ready apart)

-- the file of this number, as callers see it
sink-seen : (files : List NamedBytes) (sinks : List ℕ) (file place : ℕ) → slice_get sinks file ≡ Some place → get_or (map (sink_at files) sinks) file (record { name = None; bytes = None }) ≡ sink_at files place
sink-seen files sinks file place is =
    get_or-map (sink_at files) sinks file 0 _ (slice_get_within sinks file place is) ∙ ap (sink_at files) (get_or_from_slice_get sinks file place 0 is)

sinks-written : (files : List NamedBytes) (sinks : List ℕ) (file place : ℕ) (piece : List ℕ) (ready : ℕ) → slice_get sinks file ≡ Some place → AreSinks files sinks
    → map (sink_at (appended files place piece ready)) sinks ≡ slice_set (map (sink_at files) sinks) file (sink_at (appended files place piece ready) place)
sinks-written files sinks file place piece ready is are =
    let now = appended files place piece ready in
    let none : Written = record { name = None; bytes = None } in
    let before = map (sink_at files) sinks in
    let long : length before ≡ length sinks = length-map sinks (sink_at files) in
    let within = slice_get_within sinks file place is in
    ext_get_or none (map (sink_at now) sinks) (slice_set before file (sink_at now place))
    (length-map sinks (sink_at now) ∙ sym (length-set before file (sink_at now place) ∙ long)) (λ k inside.
    let k_in : k < length sinks = omega (arith, inside, length-map sinks (sink_at now)) in
    let left = get_or-map (sink_at now) sinks k 0 none k_in in
    elim (cases_eq k file) [
      | inl e ↦
          let place_is : get_or sinks k 0 ≡ place = ap (λ (j : ℕ). get_or sinks j 0) e ∙ get_or_from_slice_get sinks file place 0 is in
          left ∙ ap (sink_at now) place_is
          ∙ sym (ap (λ (j : ℕ). get_or (slice_set before file (sink_at now place)) j none) e ∙ get_or-set_same before file (sink_at now place) none (omega (arith, long, within)))
      | inr apart ↦
          let there = slice_get-get_or sinks k 0 k_in in
          left ∙ sink_at-other files place (get_or sinks k 0) piece ready (sinks_apart files sinks k file (get_or sinks k 0) place are there is apart)
          ∙ sym (get_or-map (sink_at files) sinks k 0 none k_in)
          ∙ sym (get_or-set_other before file k (sink_at now place) none apart)
    ])

-- a piece is written to one file
pub writes_only : (old new : StoreState) (file place : ℕ) (piece : List ℕ) (ready : ℕ) → slice_get old.sinks file ≡ Some place → place < length old.files → AreSinks old.files old.sinks
    → new.files ≡ appended old.files place piece ready → new.sinks ≡ old.sinks → new.sink_names ≡ old.sink_names
    → new.reads ≡ old.reads → new.source_names ≡ old.source_names → new.opened ≡ old.opened → new.disks ≡ old.disks
    → WritesOnly file (files_of_store old) (files_of_store new)
writes_only old new file place piece ready is inside are files sinks names reads source_names opened disks =
    let now = appended old.files place piece ready in
    let own : NamedBytes = record { name = name_at_place old.files place; bytes = bytes_at old.files place ++ piece; ready = ready } in
    let seen : sink_of (files_of_store old) file ≡ sink_at old.files place = sink-seen old.files old.sinks file place is in
    let changed : map (sink_at new.files) new.sinks ≡ map (sink_at now) old.sinks = ap (λ (fs : List NamedBytes). map (sink_at fs) new.sinks) files ∙ ap (map (sink_at now)) sinks in
    let seen_now : sink_of (files_of_store new) file ≡ sink_at now place = ap (λ (ws : List Written). get_or ws file (record { name = None; bytes = None })) changed ∙ sink-seen now old.sinks file place is in
    let kept : sink_at now place ≡ record (sink_of (files_of_store old) file) { bytes = (sink_of (files_of_store new) file).bytes } =
    ap (λ (n : Option (List ℕ)). record { name = n; bytes = Some (bytes_at now place) }) (newest-set old.files place place own refl ∙ ap (λ (w : Written). w.name) (sym seen))
    ∙ ap (λ (b : Option (List ℕ)). record { name = (sink_of (files_of_store old) file).name; bytes = b }) (ap (λ (w : Written). w.bytes) (sym seen_now)) in
    let sunk = changed ∙ sinks-written old.files old.sinks file place piece ready is are ∙ ap (slice_set (map (sink_at old.files) old.sinks) file) kept in
    record {
      state = same_files _ _ refl (same_sources old new reads source_names opened) (same_opened _ _ refl (ap (λ (ns : List (List ℕ)). Some ns) names) sunk) (same_pasts old new disks) (same_disks old new disks);
      others = λ name apart.
          ap (λ (fs : List NamedBytes). bytes_of fs name) files
          ∙ set-replaced old.files place own name None refl (λ newest. apart (ap (λ (w : Written). w.name) seen ∙ newest));
    }

-- a write that failed
pub writes_none : (old new : StoreState) (file : ℕ) → new.files ≡ old.files → new.sinks ≡ old.sinks → new.sink_names ≡ old.sink_names
    → new.reads ≡ old.reads → new.source_names ≡ old.source_names → new.opened ≡ old.opened → new.disks ≡ old.disks → WritesOnly file (files_of_store old) (files_of_store new)
writes_none old new file files sinks names reads source_names opened disks =
    let none : Written = record { name = None; bytes = None } in
    let before = map (sink_at old.files) old.sinks in
    let kept : map (sink_at new.files) new.sinks ≡ before = ap (λ (fs : List NamedBytes). map (sink_at fs) new.sinks) files ∙ ap (map (sink_at old.files)) sinks in
    let same : before ≡ slice_set before file (record (get_or before file none) { bytes = (sink_of (files_of_store new) file).bytes }) =
    sym (set-get_or before file none) ∙ ap (λ (ws : List Written). slice_set before file (record (get_or before file none) { bytes = (get_or ws file none).bytes })) (sym kept) in
    record {
      state = same_files _ _ refl (same_sources old new reads source_names opened) (same_opened _ _ refl (ap (λ (ns : List (List ℕ)). Some ns) names) (kept ∙ same)) (same_pasts old new disks) (same_disks old new disks);
      others = λ name apart. ap (λ (fs : List NamedBytes). bytes_of fs name) files;
    }

-- what a write of the whole piece tells
pub writes_next : (files now : List NamedBytes) (sinks sinks_now : List ℕ) (file place count : ℕ) (piece : List ℕ) (ready : ℕ) → slice_get sinks file ≡ Some place → place < length files
    → now ≡ appended files place piece ready → sinks_now ≡ sinks → count ≡ length piece
    → Appends (get_or (map (sink_at files) sinks) file (record { name = None; bytes = None })).bytes (get_or (map (sink_at now) sinks_now) file (record { name = None; bytes = None })).bytes (take count piece)
writes_next files now sinks sinks_now file place count piece ready is inside grown same all =
    let before = ap (λ (w : Written). w.bytes) (sink-seen files sinks file place is) in
    let after = ap (λ (w : Written). w.bytes) (sink-seen now sinks_now file place (ap (λ (ss : List ℕ). slice_get ss file) same ∙ is))
    ∙ ap (λ (bytes : List ℕ). Some bytes) (ap (λ (fs : List NamedBytes). bytes_at fs place) grown ∙ bytes_at-appended files place piece ready inside) in
    let whole : take count piece ≡ piece = take_all count piece (omega (arith, all)) in
    rw (before, after, whole) refl

-- what was written stays where files are put
pub written-put : (files now : List NamedBytes) (file : NamedBytes) (sinks : List ℕ) (k : ℕ) → now ≡ files ++ file ∷ [] → All (λ p. p < length files) sinks
    → (get_or (map (sink_at now) sinks) k (record { name = None; bytes = None })).bytes ≡ (get_or (map (sink_at files) sinks) k (record { name = None; bytes = None })).bytes
written-put files now file sinks k grown known = ap (λ (fs : List NamedBytes). (get_or (map (sink_at fs) sinks) k (record { name = None; bytes = None })).bytes) grown ∙ at sinks k known
  where
    none : Written
    none = record { name = None; bytes = None }

    at : (sinks : List ℕ) (k : ℕ) → All (λ p. p < length files) sinks
        → (get_or (map (sink_at (files ++ file ∷ [])) sinks) k none).bytes ≡ (get_or (map (sink_at files) sinks) k none).bytes
    at [] k known = refl
    at (p ∷ ps) zero known = ap (λ (bytes : List ℕ). Some bytes) (bytes_at-append files (file ∷ []) p (All-head (λ q. q < length files) p ps known))
    at (p ∷ ps) (suc k) known = at ps k (All-tail (λ q. q < length files) p ps known)

-- and leaves what is read
left_in-appended : (files : List NamedBytes) (place : ℕ) (piece : List ℕ) (ready : ℕ) (o : OpenFile) → place < length files → IsOpenInside files o → left_in (appended files place piece ready) o ≡ left_in files o
left_in-appended files place piece ready o inside is = elim (cases_eq o.place place) [
  | inl e ↦
      let same : bytes_at (appended files place piece ready) o.place ≡ bytes_at files o.place ++ piece =
      ap (bytes_at (appended files place piece ready)) e ∙ bytes_at-appended files place piece ready inside ∙ ap (λ (k : ℕ). bytes_at files k ++ piece) (sym e) in
      ap (λ (bytes : List ℕ). drop o.at (take o.end bytes)) same ∙ ap (drop o.at) (take-append-le o.end (bytes_at files o.place) piece is.within)
  | inr apart ↦ ap (λ (bytes : List ℕ). drop o.at (take o.end bytes)) (bytes_at-appended_other files place o.place piece ready apart)
]

pub map-left_in-appended : (files : List NamedBytes) (place : ℕ) (piece : List ℕ) (ready : ℕ) (opened : List OpenFile) → place < length files → All (IsOpenInside files) opened
    → map (left_in (appended files place piece ready)) opened ≡ map (left_in files) opened
map-left_in-appended files place piece ready [] inside are = refl
map-left_in-appended files place piece ready (o ∷ os) inside are =
    let first = left_in-appended files place piece ready o inside (All-head (IsOpenInside files) o os are) in
    let rest = map-left_in-appended files place piece ready os inside (All-tail (IsOpenInside files) o os are) in
    cc

inside-appended : (files : List NamedBytes) (place : ℕ) (piece : List ℕ) (ready : ℕ) (o : OpenFile) → place < length files → IsOpenInside files o → IsOpenInside (appended files place piece ready) o
inside-appended files place piece ready o inside is = record {
  known = omega (arith, is.known, length-appended files place piece ready);
  order = is.order;
  within = elim (cases_eq o.place place) [
    | inl e ↦
        let same : bytes_at (appended files place piece ready) o.place ≡ bytes_at files o.place ++ piece =
        ap (bytes_at (appended files place piece ready)) e ∙ bytes_at-appended files place piece ready inside ∙ ap (λ (k : ℕ). bytes_at files k ++ piece) (sym e) in
        omega (arith, is.within, ap (length {A = ℕ}) same, length-append (bytes_at files o.place) piece)
    | inr apart ↦ omega (arith, is.within, ap (length {A = ℕ}) (bytes_at-appended_other files place o.place piece ready apart))
  ];
}

pub all_inside-appended : (files now : List NamedBytes) (place : ℕ) (piece : List ℕ) (ready : ℕ) (opened : List OpenFile) → now ≡ appended files place piece ready → place < length files → All (IsOpenInside files) opened → All (IsOpenInside now) opened
all_inside-appended files now place piece ready opened e inside are =
    subst (λ (fs : List NamedBytes). All (IsOpenInside fs) opened) (sym e) (go opened are)
  where
    go : (os : List OpenFile) → All (IsOpenInside files) os → All (IsOpenInside (appended files place piece ready)) os
    go os all = λ k d below. inside-appended files place piece ready (get_or os k d) inside (all k d below)

pub are_sinks-appended : (files now : List NamedBytes) (sinks : List ℕ) (place : ℕ) (piece : List ℕ) (ready : ℕ) → now ≡ appended files place piece ready → AreSinks files sinks → AreSinks now sinks
are_sinks-appended files now sinks place piece ready e are =
    let long : length now ≡ length files = ap (length {A = NamedBytes}) e ∙ length-appended files place piece ready in
    record { known = subst (λ (n : ℕ). All (λ p. p < n) sinks) (sym long) are.known; ascending = are.ascending }

-- more files leave each open one as it is
pub all_inside-append : (files now more : List NamedBytes) (opened : List OpenFile) → now ≡ files ++ more → All (IsOpenInside files) opened → All (IsOpenInside now) opened
all_inside-append files now more opened e are =
    subst (λ (fs : List NamedBytes). All (IsOpenInside fs) opened) (sym e) (λ k d below. IsOpenInside-append files more (get_or opened k d) (are k d below))

pub are_sinks-append : (files now more : List NamedBytes) (sinks : List ℕ) → now ≡ files ++ more → AreSinks files sinks → AreSinks now sinks
are_sinks-append files now more sinks e are =
    let long : length files ≤ length now = omega (arith, ap (length {A = NamedBytes}) e, length-append files more) in
    record { known = λ k d below. let small = are.known k d below in omega (arith, small, long); ascending = are.ascending }

-- a place among those that are open for writing, as an index reads it
pub place_of : (store : StoreState) (seen : List ℕ) (file place : ℕ) → AreSinks store.files store.sinks → seen ≡ store.sinks
    → IsTrue (is_opened (files_of_store store).sinks file) → place ≡ get_or seen file place → (slice_get store.sinks file ≡ Some place) × (place < length store.files)
place_of store seen file place are same opened read =
    let below : file < length (files_of_store store).sinks.files = grind (arith, nat_tests) in
    let inside : file < length store.sinks = omega (arith, below, length-map store.sinks (sink_at store.files)) in
    let here : get_or store.sinks file place ≡ place = sym (ap (λ (ss : List ℕ). get_or ss file place) same) ∙ sym read in
    (slice_get-get_or store.sinks file place inside ∙ ap (λ (p : ℕ). Some p) here, omega (arith, here, All-get_or (λ p. p < length store.files) store.sinks file place inside are.known))
