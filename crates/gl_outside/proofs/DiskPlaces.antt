-- Disks in memory, by their names and places.
use Rattle.std.proofs.Common.{◌≡◌, ◌≢◌, ◌⊎◌, inl, inr, ℕ, zero, suc, ◌<◌, ◌≤◌, List, [], ◌∷◌, ◌++◌, length, map, get_or, Option, Some, None, slice_set, refl, sym, ap, subst, ◌∙◌, arith, length-append, length-set}
use Rattle.std.proofs.Math.Path.{fun_ext}
use Rattle.std.specs.Prelude.{All, bytes_eq}
use Rattle.std.proofs.lemmas.Bool.{cases_eq}
use Rattle.std.proofs.lemmas.List.{get_or_append_left, get_or_read, get_or-map, get_or-set_same, get_or-set_other}
use Rattle.std.proofs.lemmas.List.Elements.{All-get_or, All-head, All-tail}
use Rattle.std.proofs.lemmas.Slice.Eq.{bytes_eq-Decides}
use Rattle.std.proofs.Math.Seq.{get_or-append_seam}
use Rattle.gl_outside.specs.Disk.{at_rest}
use Rattle.gl_outside.specs.DiskStore.{DisksState, NamedDisk, disk_at, past_among, past_in, told_name}
use Rattle.gl_outside.specs.FilesState.{past_under}
use Rattle.gl_outside.specs.MemDisk.{past_of}
use Rattle.gl_outside.specs.Inner.Disks.{HaveOwnNames, IsUnknown}
use Rattle.gl_outside.specs.Inner.Laws.{decide, differs, false_from_not}

-- the first disk, and those behind it
first_is : (disk : NamedDisk) (disks : List NamedDisk) (name : List ℕ) → disk.name ≡ name → past_among (disk ∷ disks) name ≡ past_of disk.kept
first_is disk disks name named =
    let same = (bytes_eq-Decides disk.name name).1 named in
    rw same refl

first_isnt : (disk : NamedDisk) (disks : List NamedDisk) (name : List ℕ) → disk.name ≢ name → past_among (disk ∷ disks) name ≡ past_among disks name
first_isnt disk disks name apart =
    let differs = false_from_not (bytes_eq disk.name name) (λ e. apart ((bytes_eq-Decides disk.name name).0 e)) in
    rw differs refl

either : (disk : NamedDisk) (disks now : List NamedDisk) (name : List ℕ) → past_among now name ≡ past_among disks name → past_among (disk ∷ now) name ≡ past_among (disk ∷ disks) name
either disk disks now name same = rw same refl

apart_tail : (disk : NamedDisk) (disks : List NamedDisk) → HaveOwnNames (disk ∷ disks) → HaveOwnNames disks
apart_tail disk disks apart i j order inside = apart (suc i) (suc j) (omega (arith, order)) (omega (arith, inside))

-- the states of the disk at a place
pub past_at : (disks : List NamedDisk) (place : ℕ) → HaveOwnNames disks → place < length disks → past_among disks (disk_at disks place).name ≡ past_of (disk_at disks place).kept
past_at [] place apart inside = absurd (omega (arith, inside))
past_at (disk ∷ disks) zero apart inside = first_is disk disks disk.name refl
past_at (disk ∷ disks) (suc place) apart inside =
    first_isnt disk disks (disk_at disks place).name (apart 0 (suc place) (omega arith) inside)
    ∙ past_at disks place (apart_tail disk disks apart) (omega (arith, inside))

-- a disk without bytes that is added changes the states of none
among_pushed : (disks : List NamedDisk) (disk : NamedDisk) (name : List ℕ) → past_of disk.kept ≡ at_rest [] → past_among (disks ++ disk ∷ []) name ≡ past_among disks name
among_pushed [] disk name empty = elim (cases_name disk name) [
  | inl same ↦ first_is disk [] name same ∙ empty
  | inr apart ↦ first_isnt disk [] name apart
]
  where
    cases_name : (disk : NamedDisk) (name : List ℕ) → (disk.name ≡ name) ⊎ (disk.name ≢ name)
    cases_name disk name = elim (decide (bytes_eq disk.name name)) [
      | inl same ↦ inl ((bytes_eq-Decides disk.name name).0 same)
      | inr isnt ↦ inr (λ e. differs isnt ((bytes_eq-Decides disk.name name).1 e))
    ]
among_pushed (d ∷ ds) disk name empty = either d ds (ds ++ disk ∷ []) name (among_pushed ds disk name empty)

pub past_pushed : (disks : List NamedDisk) (disk : NamedDisk) → past_of disk.kept ≡ at_rest [] → past_among (disks ++ disk ∷ []) ≡ past_among disks
past_pushed disks disk empty = fun_ext (λ name. among_pushed disks disk name empty)

pub apart_pushed : (disks : List NamedDisk) (disk : NamedDisk) → HaveOwnNames disks → IsUnknown disks disk.name → HaveOwnNames (disks ++ disk ∷ [])
apart_pushed disks disk apart unknown i j order inside same =
    let i_in : i < length disks = omega (arith, order, inside, length-append disks (disk ∷ [])) in
    let at_i : (disk_at (disks ++ disk ∷ []) i).name ≡ (disk_at disks i).name = ap (λ (d : NamedDisk). d.name) (get_or_append_left disks (disk ∷ []) _ i i_in) in
    elim (cases_eq j (length disks)) [
      | inl e ↦
          let at_j : disk_at (disks ++ disk ∷ []) j ≡ disk = ap (λ (k : ℕ). disk_at (disks ++ disk ∷ []) k) e ∙ get_or-append_seam disks disk [] _ in
          unknown i i_in (sym at_i ∙ same ∙ ap (λ (d : NamedDisk). d.name) at_j)
      | inr other ↦
          let j_in : j < length disks = omega (arith, other, inside, length-append disks (disk ∷ [])) in
          let at_j : (disk_at (disks ++ disk ∷ []) j).name ≡ (disk_at disks j).name = ap (λ (d : NamedDisk). d.name) (get_or_append_left disks (disk ∷ []) _ j j_in) in
          apart i j order j_in (sym at_i ∙ same ∙ at_j)
    ]

pub names_pushed : (disks : List NamedDisk) (disk : NamedDisk) (places : List ℕ) → All (λ place. place < length disks) places
    → map (told_name (disks ++ disk ∷ [])) places ≡ map (told_name disks) places
names_pushed disks disk [] inside = refl
names_pushed disks disk (p ∷ ps) inside =
    let first : told_name (disks ++ disk ∷ []) p ≡ told_name disks p =
    ap (λ (d : NamedDisk). let o : Option (List ℕ) = Some d.name in o) (get_or_append_left disks (disk ∷ []) _ p (All-head (λ place. place < length disks) p ps inside)) in
    let rest = names_pushed disks disk ps (All-tail (λ place. place < length disks) p ps inside) in
    cc

-- a disk that is changed keeps its name
module _ (disks : List NamedDisk) (place : ℕ) (disk : NamedDisk) (inside : place < length disks) (named : disk.name ≡ (disk_at disks place).name) where
  name_kept : (k : ℕ) → (disk_at (slice_set disks place disk) k).name ≡ (disk_at disks k).name
  name_kept k = elim (cases_eq k place) [
    | inl e ↦ rw e (ap (λ (d : NamedDisk). d.name) (get_or-set_same disks place disk _ inside) ∙ named)
    | inr apart ↦ ap (λ (d : NamedDisk). d.name) (get_or-set_other disks place k disk _ apart)
  ]

  pub names_set : (places : List ℕ) → map (told_name (slice_set disks place disk)) places ≡ map (told_name disks) places
  names_set [] = refl
  names_set (p ∷ ps) =
      let first : told_name (slice_set disks place disk) p ≡ told_name disks p = ap (λ (name : List ℕ). let o : Option (List ℕ) = Some name in o) (name_kept p) in
      let rest = names_set ps in
      cc

  pub apart_set : HaveOwnNames disks → HaveOwnNames (slice_set disks place disk)
  apart_set apart i j order below same = apart i j order (omega (arith, below, length-set disks place disk)) (sym (name_kept i) ∙ same ∙ name_kept j)

  pub past_set : HaveOwnNames disks → past_among (slice_set disks place disk) (disk_at disks place).name ≡ past_of disk.kept
  past_set apart =
      let here = get_or-set_same disks place disk (disk_at [] 0) inside in
      ap (past_among (slice_set disks place disk)) (sym (name_kept place))
      ∙ past_at (slice_set disks place disk) place (apart_set apart) (omega (arith, inside, length-set disks place disk))
      ∙ ap (λ (d : NamedDisk). past_of d.kept) here

-- and changes the states of no other
pub past_set_other : (disks : List NamedDisk) (place : ℕ) (disk : NamedDisk) (name : List ℕ) → disk.name ≡ (disk_at disks place).name → (disk_at disks place).name ≢ name
    → past_among (slice_set disks place disk) name ≡ past_among disks name
past_set_other [] place disk name named apart = refl
past_set_other (d ∷ ds) zero disk name named apart = first_isnt disk ds name (λ e. apart (sym named ∙ e)) ∙ sym (first_isnt d ds name apart)
past_set_other (d ∷ ds) (suc place) disk name named apart = either d ds (slice_set ds place disk) name (past_set_other ds place disk name named apart)

-- An open file is the disk at its place.
pub record IsAt (disks : List NamedDisk) (places : List ℕ) (file place : ℕ) (disk : NamedDisk) : Type 0 where
  pub inside : place < length disks
  pub is : disk_at disks place ≡ disk
  pub name : get_or (map (told_name disks) places) file None ≡ Some disk.name

pub found_at : (disks : List NamedDisk) (places : List ℕ) (file place : ℕ) (disk : NamedDisk) → All (λ p. p < length disks) places → file < length places
    → place ≡ get_or places file place → disk ≡ get_or disks place disk → IsAt disks places file place disk
found_at disks places file place disk known opened read_place read_disk =
    let at : get_or places file 0 ≡ place = sym (get_or_read places file place opened read_place 0) in
    let inside : place < length disks = omega (arith, at, All-get_or (λ p. p < length disks) places file 0 opened known) in
    let is : disk_at disks place ≡ disk = sym (get_or_read disks place disk inside read_disk _) in
    record {
      inside = inside;
      is = is;
      name = get_or-map (told_name disks) places file 0 None opened ∙ ap (told_name disks) at ∙ ap (λ (d : NamedDisk). let o : Option (List ℕ) = Some d.name in o) is;
    }

-- its states
pub past_open : (disks : List NamedDisk) (places : List ℕ) (file place : ℕ) (disk : NamedDisk) → HaveOwnNames disks → IsAt disks places file place disk
    → past_under (past_among disks) (get_or (map (told_name disks) places) file None) ≡ past_of disk.kept
past_open disks places file place disk apart at =
    ap (past_under (past_among disks)) at.name
    ∙ ap (λ (d : NamedDisk). past_among disks d.name) (sym at.is)
    ∙ past_at disks place apart at.inside
    ∙ ap (λ (d : NamedDisk). past_of d.kept) at.is

-- Its disk was changed.
module _ (disks : List NamedDisk) (places : List ℕ) (file place : ℕ) (disk now : NamedDisk) (apart : HaveOwnNames disks) (at : IsAt disks places file place disk) (kept : now.name ≡ disk.name) where
  named : now.name ≡ (disk_at disks place).name
  named = kept ∙ ap (λ (d : NamedDisk). d.name) (sym at.is)

  pub names_after : map (told_name (slice_set disks place now)) places ≡ map (told_name disks) places
  names_after = names_set disks place now at.inside named places

  pub past_after : past_under (past_among (slice_set disks place now)) (get_or (map (told_name (slice_set disks place now)) places) file None) ≡ past_of now.kept
  past_after =
      ap (λ (names : List (Option (List ℕ))). past_under (past_among (slice_set disks place now)) (get_or names file None)) names_after
      ∙ ap (past_under (past_among (slice_set disks place now))) at.name
      ∙ ap (λ (d : NamedDisk). past_among (slice_set disks place now) d.name) (sym at.is)
      ∙ past_set disks place now at.inside named apart

  pub others_after : (other : List ℕ) → get_or (map (told_name disks) places) file None ≢ Some other → past_among (slice_set disks place now) other ≡ past_among disks other
  others_after other isnt = past_set_other disks place now other named (λ e. isnt (at.name ∙ ap (λ (d : NamedDisk). let o : Option (List ℕ) = Some d.name in o) (sym at.is) ∙ ap (λ (name : List ℕ). let o : Option (List ℕ) = Some name in o) e))

  pub apart_after : HaveOwnNames (slice_set disks place now)
  apart_after = apart_set disks place now at.inside named apart

-- the disk at this place was put, of disks that became more
pub put_inside : (disks more : List NamedDisk) (place : ℕ) (now : NamedDisk) (places : List ℕ) → length disks ≤ length more → All (λ p. p < length disks) places
    → place < length more → now.name ≡ (disk_at more place).name → HaveOwnNames more → All (λ p. p < length (slice_set more place now)) places × HaveOwnNames (slice_set more place now)
put_inside disks more place now places longer known inside named apart =
    let long = length-set more place now in
    (λ k d below. let small = known k d below in omega (arith, small, longer, long), apart_set more place now inside named apart)

-- no disk has the name
pub past_unknown : (disks : List NamedDisk) (name : List ℕ) → IsUnknown disks name → past_among disks name ≡ at_rest []
past_unknown [] name unknown = refl
past_unknown (disk ∷ disks) name unknown =
    first_isnt disk disks name (unknown 0 (omega arith)) ∙ past_unknown disks name (λ i inside. unknown (suc i) (omega (arith, inside)))

-- the disk at this place has it
pub past_found : (disks : List NamedDisk) (place : ℕ) (disk : NamedDisk) (name : List ℕ) → HaveOwnNames disks → place < length disks → (disk_at disks place).name ≡ name
    → disk ≡ get_or disks place disk → past_among disks name ≡ past_of disk.kept
past_found disks place disk name apart inside has read =
    ap (past_among disks) (sym has) ∙ past_at disks place apart inside ∙ ap (λ (d : NamedDisk). past_of d.kept) (sym (get_or_read disks place disk inside read _))

-- An open disk, as a call on it finds it, of disks as they are seen.
module _ (before store : DisksState) (is : before ≡ store) (known : All (λ p. p < length before.disks) before.places) (apart : HaveOwnNames before.disks) (file place : ℕ) (disk : NamedDisk) (opened : file < length store.places) (read_place : place ≡ get_or before.places file place) (read_disk : disk ≡ get_or before.disks place disk) where
  at : IsAt before.disks before.places file place disk
  at = found_at before.disks before.places file place disk known (omega (arith, opened, ap (λ (s : DisksState). length s.places) is)) read_place read_disk

  pub past_of_open : past_in store file ≡ past_of disk.kept
  past_of_open = sym (ap (λ (s : DisksState). past_in s file) is) ∙ past_open before.disks before.places file place disk apart at

  module _ (now : NamedDisk) (kept : now.name ≡ disk.name) where
    pub past_changed : past_under (past_among (slice_set before.disks place now)) (get_or (map (told_name (slice_set before.disks place now)) before.places) file None) ≡ past_of now.kept
    past_changed = past_after before.disks before.places file place disk now apart at kept

    pub others_changed : (other : List ℕ) → get_or (map (told_name store.disks) store.places) file None ≢ Some other → past_among (slice_set before.disks place now) other ≡ past_among store.disks other
    others_changed other isnt =
        others_after before.disks before.places file place disk now apart at kept other (λ e. isnt (sym (ap (λ (s : DisksState). get_or (map (told_name s.disks) s.places) file None) is) ∙ e))
        ∙ ap (λ (s : DisksState). past_among s.disks other) is

    pub names_changed : map (told_name (slice_set before.disks place now)) before.places ≡ map (told_name store.disks) store.places
    names_changed = names_after before.disks before.places file place disk now apart at kept ∙ ap (λ (s : DisksState). map (told_name s.disks) s.places) is

    pub kept_inside : All (λ p. p < length (slice_set before.disks place now)) before.places × HaveOwnNames (slice_set before.disks place now)
    kept_inside =
        (subst (λ (n : ℕ). All (λ p. p < n) before.places) (sym (length-set before.disks place now)) known, apart_after before.disks before.places file place disk now apart at kept)
