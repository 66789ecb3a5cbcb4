-- Lemmas on files in memory, and on those that were opened.
use Rattle.std.proofs.Common.{◌≡◌, ◌≢◌, ℕ, ◌<◌, Bool, true, false, List, [], ◌∷◌, ◌++◌, ◌-◌, ◌+◌, ◌≤◌, length, get_or, take, drop, map, Option, Some, None, Ok, Err, refl, sym, ap, ◌∙◌, arith, length-append}
use Rattle.std.specs.Prelude.{bytes_eq, All, zero, suc, slice_get, slice_set, min, IsTrue}
use Rattle.std.specs.Option.{option_map}
use Rattle.std.specs.Io.KnownBytes.{Consumes, IsAtEnd}
use Rattle.std.proofs.lemmas.Option.{slice_get-map, slice_get_read}
use Rattle.std.proofs.lemmas.Bool.Decides.{nat_tests}
use Rattle.gl_outside.specs.Calls.{CallCounts}
use Rattle.gl_outside.specs.Disk.{DiskPast}
use Rattle.gl_outside.specs.DiskStore.{DisksState, opened_disks, past_among}
use Rattle.gl_outside.specs.FilesState.{FilesState, Opened, Written, is_opened, left_of}
use Rattle.gl_outside.specs.Frames.{OpensSource, ReadsOnly}
use Rattle.gl_outside.specs.declared.files.OpenFault.{OpenFault}
use Rattle.std.proofs.lemmas.List.{take_all, drop-take, take-append-drop, drop-drop, length-map, map-set, map-append, get_or_read, get_or_append_left, get_or-set_same, set-get_or}
use Rattle.std.proofs.lemmas.List.Elements.{All-head, All-tail}
use Rattle.std.proofs.lemmas.List.Sums.{fold-append}
use Rattle.std.proofs.lemmas.Slice.Eq.{bytes_eq-Decides}
use Rattle.gl_outside.specs.Store.{NamedBytes, StoreState, bytes_at, bytes_of, files_of_store, newer, sink_at}
use Rattle.gl_outside.specs.Inner.OpenFiles.{left_in, IsOpenInside}
use Rattle.gl_outside.specs.declared.mem_files.OpenFile.{OpenFile}

-- what an index reads
pub bytes_at-read : (files : List NamedBytes) (place : ℕ) (file : NamedBytes) → place < length files → file ≡ get_or files place file → bytes_at files place ≡ file.bytes
bytes_at-read files place file inside read = ap (λ (f : NamedBytes). f.bytes) (sym (get_or_read files place file inside read _))

pub bytes_at-append : (files more : List NamedBytes) (place : ℕ) → place < length files → bytes_at (files ++ more) place ≡ bytes_at files place
bytes_at-append files more place inside = ap (λ (f : NamedBytes). f.bytes) (get_or_append_left files more _ place inside)

-- more files leave the open ones as they are
pub IsOpenInside-append : (files more : List NamedBytes) (open_file : OpenFile) → IsOpenInside files open_file → IsOpenInside (files ++ more) open_file
IsOpenInside-append files more open_file inside = record {
  known = omega (arith, inside.known, length-append files more);
  order = inside.order;
  within = omega (arith, inside.within, ap (length {A = ℕ}) (bytes_at-append files more open_file.place inside.known));
}

pub left_in-append : (files more : List NamedBytes) (open_file : OpenFile) → IsOpenInside files open_file → left_in (files ++ more) open_file ≡ left_in files open_file
left_in-append files more open_file inside =
    ap (λ (bytes : List ℕ). drop open_file.at (take open_file.end bytes)) (bytes_at-append files more open_file.place inside.known)

pub map-left_in-append : (files more : List NamedBytes) (opened : List OpenFile) → All (IsOpenInside files) opened → map (left_in (files ++ more)) opened ≡ map (left_in files) opened
map-left_in-append files more [] inside = refl
map-left_in-append files more (o ∷ os) inside =
    let first = left_in-append files more o (All-head (IsOpenInside files) o os inside) in
    let rest = map-left_in-append files more os (All-tail (IsOpenInside files) o os inside) in
    cc

-- a file more of this name is what the name gives
pub bytes_of-push : (files : List NamedBytes) (file : NamedBytes) (name : List ℕ) → bytes_of (files ++ file ∷ []) name ≡ newer name (bytes_of files name) file
bytes_of-push files file name = fold-append (newer name) None files (file ∷ [])

false_from_not : (b : Bool) → ¬ (b ≡ true) → b ≡ false
false_from_not true refuted = absurd (refuted refl)
false_from_not false refuted = refl

pub bytes_of_put : (files now : List NamedBytes) (file : NamedBytes) (name : List ℕ) → now ≡ files ++ file ∷ [] → file.name ≡ name → bytes_of now name ≡ Some file.bytes
bytes_of_put files now file name grown named =
    let same = (bytes_eq-Decides file.name name).1 named in
    rw (grown, bytes_of-push files file name, same)

-- and changes no other name
pub bytes_of_other : (files now : List NamedBytes) (file : NamedBytes) (name other : List ℕ) → now ≡ files ++ file ∷ [] → file.name ≡ name → other ≢ name → bytes_of now other ≡ bytes_of files other
bytes_of_other files now file name other grown named apart =
    let differs = false_from_not (bytes_eq file.name other) (λ e. apart (sym ((bytes_eq-Decides file.name other).0 e) ∙ named)) in
    rw (grown, bytes_of-push files file other, differs)

-- elements by their index
pub slice_get_pushed : {X : Type 0} (xs : List X) (y : X) → slice_get (xs ++ y ∷ []) (length xs) ≡ Some y
slice_get_pushed [] y = refl
slice_get_pushed (x ∷ xs) y = slice_get_pushed xs y

pub slice_get-append_left : {X : Type 0} (xs ys : List X) (i : ℕ) → i < length xs → slice_get (xs ++ ys) i ≡ slice_get xs i
slice_get-append_left [] ys i inside = absurd (omega (arith, inside))
slice_get-append_left (x ∷ xs) ys zero inside = refl
slice_get-append_left (x ∷ xs) ys (suc i) inside = slice_get-append_left xs ys i (omega (arith, inside))

pub slice_get-set_same : {X : Type 0} (xs : List X) (i : ℕ) (y : X) → i < length xs → slice_get (slice_set xs i y) i ≡ Some y
slice_get-set_same [] i y inside = absurd (omega (arith, inside))
slice_get-set_same (x ∷ xs) zero y inside = refl
slice_get-set_same (x ∷ xs) (suc i) y inside = slice_get-set_same xs i y (omega (arith, inside))

pub slice_get-set_other : {X : Type 0} (xs : List X) (i k : ℕ) (y : X) → k ≢ i → slice_get (slice_set xs i y) k ≡ slice_get xs k
slice_get-set_other [] i k y apart = refl
slice_get-set_other (x ∷ xs) zero zero y apart = absurd (apart refl)
slice_get-set_other (x ∷ xs) zero (suc k) y apart = refl
slice_get-set_other (x ∷ xs) (suc i) zero y apart = refl
slice_get-set_other (x ∷ xs) (suc i) (suc k) y apart = slice_get-set_other xs i k y (λ e. apart (ap (λ (n : ℕ). suc n) e))

-- a range of a list, as a slice has it
pub drop-take_range : (at end : ℕ) (bytes : List ℕ) → at ≤ end → take (end - at) (drop at bytes) ≡ drop at (take end bytes)
drop-take_range at end bytes order =
    let e : at + (end - at) ≡ end = omega (arith, order) in
    sym (drop-take at (end - at) bytes) ∙ ap (λ (n : ℕ). drop at (take n bytes)) e

-- a range is its front, and then the rest
pub range_next : (at end n : ℕ) (bytes buf : List ℕ) → at ≤ end → take n buf ≡ take n (take (end - at) (drop at bytes))
    → drop at (take end bytes) ≡ take n buf ++ drop (at + n) (take end bytes)
range_next at end n bytes buf order front =
    let range = drop-take_range at end bytes order in
    let rest = drop-drop n at (take end bytes) in
    let split = take-append-drop n (drop at (take end bytes)) in
    sym split
    ∙ ap (λ (xs : List ℕ). xs ++ drop n (drop at (take end bytes))) (ap (take n) (sym range) ∙ sym front)
    ∙ ap (λ (xs : List ℕ). take n buf ++ xs) rest

-- an index into a list, seen through a function
pub slice_get-map_read : {X Y : Type 0} (f : X → Y) (xs : List X) (i : ℕ) (x : X) → i < length xs → x ≡ get_or xs i x → slice_get (map f xs) i ≡ Some (f x)
slice_get-map_read f xs i x inside read = slice_get-map f xs i ∙ ap (option_map f) (slice_get_read xs (length xs) i x refl inside read)

pub slice_get-map_set : {X Y : Type 0} (f : X → Y) (xs : List X) (i : ℕ) (y : X) → i < length xs → slice_get (map f (slice_set xs i y)) i ≡ Some (f y)
slice_get-map_set f xs i y inside = slice_get-map f (slice_set xs i y) i ∙ ap (option_map f) (slice_get-set_same xs i y inside)

-- a number of an open file, as callers see it, is a place in the list
pub number_inside : (store : StoreState) (file : ℕ) → IsTrue (is_opened (files_of_store store).sources file) → file < length store.opened
number_inside store file opened =
    let below : file < length (files_of_store store).sources.files = grind (arith, nat_tests) in
    omega (arith, below, length-map store.opened (λ (left : List ℕ). Some left))

empty_from_length : (xs : List ℕ) → length xs ≡ 0 → xs ≡ []
empty_from_length [] none = refl
empty_from_length (x ∷ xs) none = absurd (omega (arith, none))

-- it is a place in the list behind the view
pub open_inside : {X Y : Type 0} (f : X → Y) (xs : List X) (ys : List Y) (i : ℕ) → map f xs ≡ ys → i < length ys → i < length xs
open_inside f xs ys i seen below = omega (arith, below, ap length seen, length-map xs f)

pub map-slice_set : {X Y : Type 0} (f : X → Y) (xs : List X) (i : ℕ) (y : X) → map f (slice_set xs i y) ≡ slice_set (map f xs) i (f y)
map-slice_set f xs i y = map-set f xs i y

-- a file that was opened has all of its bytes left
pub left_in-new : (files : List NamedBytes) (place end : ℕ) → end ≡ length (bytes_at files place)
    → left_in files (record { place = place; at = 0; end = end }) ≡ bytes_at files place
left_in-new files place end ended = take_all end (bytes_at files place) (omega (arith, ended))

-- what a read of the next bytes tells
pub reads_next : (old new : Option (List ℕ)) (before after buf : List ℕ) (count : ℕ) → old ≡ Some before → new ≡ Some after → before ≡ take count buf ++ after → count ≡ min (length before) (length buf) → Consumes old new (take count buf) × (count ≡ 0 → 0 < length buf → IsAtEnd new)
reads_next old new before after buf count old_is new_is spelled counted =
    let lengths = ap (length {A = ℕ}) spelled ∙ length-append (take count buf) after in
    rw (old_is, new_is) (spelled, λ none room. empty_from_length after (omega (arith, counted, none, room, lengths)))

-- two states of files are one where they agree
pub same_files : (a b : FilesState) → a.contents ≡ b.contents → a.sources ≡ b.sources → a.sinks ≡ b.sinks → a.pasts ≡ b.pasts → a.disks ≡ b.disks → a ≡ b
same_files a b contents sources sinks pasts disks =
    let first : a ≡ record a { contents = b.contents } = ap (λ (c : List ℕ → Option (List ℕ)). record a { contents = c }) contents in
    let second : record a { contents = b.contents } ≡ record a { contents = b.contents; sources = b.sources } = ap (λ (s : Opened (Option (List ℕ))). record a { contents = b.contents; sources = s }) sources in
    let third : record a { contents = b.contents; sources = b.sources } ≡ record a { contents = b.contents; sources = b.sources; sinks = b.sinks } =
    ap (λ (s : Opened Written). record a { contents = b.contents; sources = b.sources; sinks = s }) sinks in
    let fourth : record a { contents = b.contents; sources = b.sources; sinks = b.sinks } ≡ record b { disks = a.disks } = ap (λ (p : List ℕ → DiskPast). record b { pasts = p; disks = a.disks }) pasts in
    let fifth : record b { disks = a.disks } ≡ b = ap (λ (d : Opened (Option (List ℕ))). record b { disks = d }) disks in
    first ∙ second ∙ third ∙ fourth ∙ fifth

-- the disks are the same
pub same_pasts : (old new : StoreState) → new.disks ≡ old.disks → (files_of_store new).pasts ≡ (files_of_store old).pasts
same_pasts old new disks = ap {B = List ℕ → DiskPast} (λ (d : DisksState). past_among d.disks) disks

pub same_disks : (old new : StoreState) → new.disks ≡ old.disks → (files_of_store new).disks ≡ (files_of_store old).disks
same_disks old new disks = ap opened_disks disks

pub same_opened : {X : Type 0} (a b : Opened X) → a.faults ≡ b.faults → a.names ≡ b.names → a.files ≡ b.files → a ≡ b
same_opened a b faults names files =
    let first : a ≡ record a { faults = b.faults } = ap (λ (n : ℕ). record a { faults = n }) faults in
    let second : record a { faults = b.faults } ≡ record a { faults = b.faults; names = b.names } = ap (λ (ns : Option (List (List ℕ))). record a { faults = b.faults; names = ns }) names in
    let third : record a { faults = b.faults; names = b.names } ≡ b = ap (λ (fs : List _). record b { files = fs }) files in
    first ∙ second ∙ third

pub same_contents : (old new : StoreState) → new.files ≡ old.files → (files_of_store new).contents ≡ (files_of_store old).contents
same_contents old new files = ap {B = List ℕ → Option (List ℕ)} (λ (fs : List NamedBytes). bytes_of fs) files

pub same_sources : (old new : StoreState) → new.reads ≡ old.reads → new.source_names ≡ old.source_names → new.opened ≡ old.opened
    → (files_of_store new).sources ≡ (files_of_store old).sources
same_sources old new reads names opened =
    same_opened _ _ (ap (λ (c : CallCounts). c.faults) reads) (ap (λ (ns : List (List ℕ)). Some ns) names) (ap (map (λ (left : List ℕ). Some left)) opened)

pub same_sinks : (old new : StoreState) → new.files ≡ old.files → new.writes ≡ old.writes → new.sink_names ≡ old.sink_names → new.sinks ≡ old.sinks
    → (files_of_store new).sinks ≡ (files_of_store old).sinks
same_sinks old new files writes names sinks =
    same_opened _ _ (ap (λ (c : CallCounts). c.faults) writes) (ap (λ (ns : List (List ℕ)). Some ns) names)
    (ap (λ (fs : List NamedBytes). map (sink_at fs) new.sinks) files ∙ ap (map (sink_at old.files)) sinks)

-- an open for reading adds a file
pub opens_source : (old new : StoreState) (name : List ℕ) (number : ℕ) (left : List ℕ) → number ≡ length old.opened → new.opened ≡ old.opened ++ left ∷ []
    → bytes_of old.files name ≡ Some left → new.files ≡ old.files → new.writes ≡ old.writes → new.sink_names ≡ old.sink_names → new.sinks ≡ old.sinks → new.disks ≡ old.disks
    → OpensSource (files_of_store old) (files_of_store new) name (Ok (record { 0 = number }))
opens_source old new name number left numbered opened gives files writes names sinks disks =
    let some : List ℕ → Option (List ℕ) = λ left. Some left in
    let grown : map some new.opened ≡ map some old.opened ++ bytes_of old.files name ∷ [] =
    ap (map some) opened ∙ map-append some old.opened (left ∷ []) ∙ ap (λ (o : Option (List ℕ)). map some old.opened ++ o ∷ []) (sym gives) in (
      numbered ∙ sym (length-map old.opened some),
      same_files _ _ (same_contents old new files) (same_opened _ _ refl refl grown) (same_sinks old new files writes names sinks) (same_pasts old new disks) (same_disks old new disks),
    )

-- an open that fails adds none
pub opens_no_source : (old new : StoreState) (name : List ℕ) (fault : OpenFault) → new.opened ≡ old.opened → new.files ≡ old.files → new.writes ≡ old.writes
    → new.sink_names ≡ old.sink_names → new.sinks ≡ old.sinks → new.disks ≡ old.disks → OpensSource (files_of_store old) (files_of_store new) name (Err fault)
opens_no_source old new name fault opened files writes names sinks disks =
    same_files _ _ (same_contents old new files) (same_opened _ _ refl refl (ap (map (λ (left : List ℕ). Some left)) opened)) (same_sinks old new files writes names sinks) (same_pasts old new disks) (same_disks old new disks)

-- what a file has left, as callers see it
pub left-seen : (lefts : List (List ℕ)) (file : ℕ) (left : List ℕ) → slice_get lefts file ≡ Some left → get_or (map (λ (l : List ℕ). Some l) lefts) file None ≡ Some left
left-seen [] file left is = absurd cc
left-seen (l ∷ ls) zero left is = is
left-seen (l ∷ ls) (suc k) left is = left-seen ls k left is

-- a read changes what one file has left
pub reads_only : (old new : StoreState) (file : ℕ) (left : List ℕ) → file < length old.opened → new.opened ≡ slice_set old.opened file left
    → new.source_names ≡ old.source_names → new.files ≡ old.files → new.writes ≡ old.writes → new.sink_names ≡ old.sink_names → new.sinks ≡ old.sinks → new.disks ≡ old.disks
    → ReadsOnly file (files_of_store old) (files_of_store new)
reads_only old new file left inside opened read_names files writes names sinks disks =
    let some : List ℕ → Option (List ℕ) = λ left. Some left in
    let changed : map some new.opened ≡ slice_set (map some old.opened) file (Some left) = ap (map some) opened ∙ map-set some old.opened file left in
    let at : left_of (files_of_store new) file ≡ Some left =
    ap (λ (os : List (Option (List ℕ))). get_or os file None) changed
    ∙ get_or-set_same (map some old.opened) file (Some left) None (omega (arith, inside, length-map old.opened some)) in
    same_files _ _ (same_contents old new files)
    (same_opened _ _ refl (ap (λ (ns : List (List ℕ)). Some ns) read_names) (changed ∙ ap (slice_set (map some old.opened) file) (sym at)))
    (same_sinks old new files writes names sinks) (same_pasts old new disks) (same_disks old new disks)

-- a read that failed changes nothing
pub reads_none : (old new : StoreState) (file : ℕ) → new.opened ≡ old.opened
    → new.source_names ≡ old.source_names → new.files ≡ old.files → new.writes ≡ old.writes → new.sink_names ≡ old.sink_names → new.sinks ≡ old.sinks → new.disks ≡ old.disks
    → ReadsOnly file (files_of_store old) (files_of_store new)
reads_none old new file opened read_names files writes names sinks disks =
    let some : List ℕ → Option (List ℕ) = λ left. Some left in
    let kept : map some new.opened ≡ map some old.opened = ap (map some) opened in
    let same : map some old.opened ≡ slice_set (map some old.opened) file (left_of (files_of_store new) file) =
    sym (set-get_or (map some old.opened) file None) ∙ ap (λ (os : List (Option (List ℕ))). slice_set (map some old.opened) file (get_or os file None)) (sym kept) in
    same_files _ _ (same_contents old new files)
    (same_opened _ _ refl (ap (λ (ns : List (List ℕ)). Some ns) read_names) (kept ∙ same))
    (same_sinks old new files writes names sinks) (same_pasts old new disks) (same_disks old new disks)
