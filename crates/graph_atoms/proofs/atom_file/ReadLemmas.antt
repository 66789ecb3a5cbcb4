-- A file whose records were counted is the file of the atom that its records tell.
use Rattle.std.proofs.Common.{◌≡◌, ℕ, ◌+◌, ◌-◌, ◌*◌, ◌<◌, ◌≤◌, List, ◌++◌, length, take, drop, map, Option, Some, None, inl, inr, add_assoc, if◌then◌else◌, ◌==◌, refl, sym, ap, ◌∙◌, arith, length-drop, length-take, get_or-drop, get_or-take}
use Rattle.std.specs.Option.{option_or}
use Rattle.std.specs.List.{flat_map}
use Rattle.std.specs.List.Sorted.{IsStrictlyIncreasing}
use Rattle.std.proofs.Math.Seq.{take-add}
use Rattle.std.proofs.lemmas.Bool.{cases_eq, ne_eqb}
use Rattle.std.proofs.lemmas.Nat.{mul-add-lt}
use Rattle.std.proofs.lemmas.List.{take_rest, take-append-drop}
use Rattle.byteorder.specs.Endian.{big_bytes}
use Rattle.graph_atoms.specs.declared.atom_file.faults.AtomFault.{AtomFault}
use Rattle.graph_atoms.specs.declared.atom_file.faults.AtomFault.TheVariants.{BadTag}
use Rattle.graph_atoms.specs.atom_file.Fields.{field}
use Rattle.graph_atoms.specs.atom_file.Atoms.{Atom, header_of, record_count, atom_bytes, IsAtom, AtomFits}
use Rattle.graph_atoms.specs.atom_file.Faults.{torn_fault, value_fault, header_fault}
use Rattle.graph_atoms.specs.atom_file.Inner.Runs.{IsRecordRun}
use Rattle.graph_atoms.specs.atom_file.Inner.Counts.{AreCounts}
use Rattle.graph_atoms.specs.atom_file.Views.{vertex_at, ghost_at, edge_at, records_in}
use Rattle.graph_atoms.proofs.atom_file.FieldLemmas.{IsBytes, IsBytes-drop, IsBytes-take, two, four, eight, big_bytes-field, field-lt}
use Rattle.graph_atoms.proofs.atom_file.RecordLemmas.{IsForm, vertex_form, ghost_form, edge_form}
use Rattle.graph_atoms.proofs.atom_file.FormLemmas.{length-records_in, flat_map-records_in, All-records_in, rising-records_in, field-part}

-- the bytes from one place up to another
abbrev pub part : List ℕ → ℕ → ℕ → List ℕ
part bytes at end = take (end - at) (drop at bytes)

IsBytes-part : (bytes : List ℕ) (at end : ℕ) → IsBytes bytes → IsBytes (part bytes at end)
IsBytes-part bytes at end h = IsBytes-take (end - at) (drop at bytes) (IsBytes-drop at bytes h)

module _ {T : Type 0} {tag size : ℕ} {number : T → ℕ} {Fits : T → Type 0} {write : T → List ℕ} {read : List ℕ → T} (form : IsForm tag size number Fits write read) (bytes : List ℕ) (at end n : ℕ) (to : end ≡ at + size * n) (run : IsRecordRun bytes tag size at n) where
  -- the first five bytes of each record stand in the part
  inside : (i b : ℕ) → i < n → b < 5 → size * i + b < end - at
  inside i b below few = omega (arith, mul-add-lt i size b n below (omega (arith, form.some)))

  -- a run is written as it stands
  part_back : IsBytes bytes → flat_map write (records_in read size n (part bytes at end)) ≡ part bytes at end
  part_back h =
      flat_map-records_in form n (part bytes at end) (IsBytes-part bytes at end h) (omega (arith, run.within, length-take (end - at) (drop at bytes), length-drop at bytes))
      (λ i below.
      get_or-take (end - at) (drop at bytes) (size * i) 0 (omega (arith, inside i 0 below (omega arith)))
      ∙ get_or-drop at bytes (size * i) 0 ∙ run.tags i below)

  -- and its numbers rise
  part_rising : IsStrictlyIncreasing (map number (records_in read size n (part bytes at end)))
  part_rising =
      rising-records_in form n (part bytes at end)
      (λ i below.
      let here = field_of i (omega arith) in
      let next = field_of (i + 1) below in
      omega (arith, here, next, run.rising i below))
    where
      field_of : (i : ℕ) → i < n → field (part bytes at end) (size * i + 1) 4 ≡ field bytes (at + size * i + 1) 4
      field_of i below =
          field-part bytes at (end - at) (size * i + 1) (omega (arith, inside i 4 below (omega arith)))
          ∙ ap (λ (place : ℕ). field bytes place 4) (sym (add_assoc at (size * i) 1))

some_none : {fault : AtomFault} → Some fault ≡ None → ⊥
some_none e = cc

-- where neither of two is a fault
option_or_none : (a b : Option AtomFault) → option_or a b ≡ None → (a ≡ None) × (b ≡ None)
option_or_none None b e = (refl, e)
option_or_none (Some x) b e = absurd (some_none e)

-- a field without a fault is there, and has its value
value_is : (bytes : List ℕ) (at n x : ℕ) → value_fault bytes at n x ≡ None → field bytes at n ≡ x
value_is bytes at n x none = elim (cases_eq (field bytes at n) x) [
  | inl same ↦ same
  | inr other ↦ absurd (some_none (rw (ne_eqb (field bytes at n) x other) at (option_or_none (torn_fault bytes (at + n)) (if field bytes at n == x then None else Some (BadTag at)) none).1))
]

-- a header without a fault is the one that is written
header_back : (bytes : List ℕ) → IsBytes bytes → 20 ≤ length bytes → header_fault bytes ≡ None → header_of (field bytes 12 2) (field bytes 16 4) ≡ take 20 bytes
header_back bytes h within none =
    let word = option_or_none (value_fault bytes 0 8 5137553027742584653) (option_or (value_fault bytes 8 4 1) (option_or (value_fault bytes 14 2 0) (torn_fault bytes 20))) none in
    let version = option_or_none (value_fault bytes 8 4 1) (option_or (value_fault bytes 14 2 0) (torn_fault bytes 20)) word.1 in
    let zero = option_or_none (value_fault bytes 14 2 0) (torn_fault bytes 20) version.1 in
    let word_is : big_bytes 8 5137553027742584653 ≡ take 8 bytes =
    ap (big_bytes 8) (sym (value_is bytes 0 8 5137553027742584653 word.0)) ∙ big_bytes-field 8 bytes 0 eight h (omega arith) in
    let version_is : big_bytes 4 1 ≡ take 4 (drop 8 bytes) =
    ap (big_bytes 4) (sym (value_is bytes 8 4 1 version.0)) ∙ big_bytes-field 4 bytes 8 four h (omega arith) in
    let number_is : big_bytes 2 (field bytes 12 2) ≡ take 2 (drop 12 bytes) = big_bytes-field 2 bytes 12 two h (omega arith) in
    let zero_is : big_bytes 2 0 ≡ take 2 (drop 14 bytes) =
    ap (big_bytes 2) (sym (value_is bytes 14 2 0 zero.0)) ∙ big_bytes-field 2 bytes 14 two h (omega arith) in
    let count_is : big_bytes 4 (field bytes 16 4) ≡ take 4 (drop 16 bytes) = big_bytes-field 4 bytes 16 four h (omega arith) in
    let step = λ (n m : ℕ) (a b : List ℕ) (is_a : a ≡ take n bytes) (is_b : b ≡ take m (drop n bytes)).
    ap (λ (x : List ℕ). x ++ b) is_a ∙ ap (λ (y : List ℕ). take n bytes ++ y) is_b ∙ sym (take-add n m bytes) in
    step 16 4 _ _ (step 14 2 _ _ (step 12 2 _ _ (step 8 4 _ _ word_is version_is) number_is) zero_is) count_is

-- the atom whose records these are
abbrev pub told : List ℕ → ℕ → ℕ → ℕ → ℕ → Atom
told bytes number v g e =
    record {
      number = number;
      vertices = records_in vertex_at 13 v (part bytes 20 (20 + 13 * v));
      ghosts = records_in ghost_at 15 g (part bytes (20 + 13 * v) (20 + 13 * v + 15 * g));
      edges = records_in edge_at 17 e (part bytes (20 + 13 * v + 15 * g) (length bytes));
    }

pub told-fits : (bytes : List ℕ) (v g e : ℕ) → IsBytes bytes → AtomFits (told bytes (field bytes 12 2) v g e)
told-fits bytes v g e h =
    record {
      number = field-lt 2 bytes 12 h;
      vertices = All-records_in vertex_form v (part bytes 20 (20 + 13 * v)) (IsBytes-part bytes 20 (20 + 13 * v) h);
      ghosts = All-records_in ghost_form g (part bytes (20 + 13 * v) (20 + 13 * v + 15 * g)) (IsBytes-part bytes (20 + 13 * v) (20 + 13 * v + 15 * g) h);
      edges = All-records_in edge_form e (part bytes (20 + 13 * v + 15 * g) (length bytes)) (IsBytes-part bytes (20 + 13 * v + 15 * g) (length bytes) h);
    }

told-count : (bytes : List ℕ) (number v g e : ℕ) → record_count (told bytes number v g e) ≡ v + g + e
told-count bytes number v g e =
    omega (arith, length-records_in vertex_at 13 v (part bytes 20 (20 + 13 * v)), length-records_in ghost_at 15 g (part bytes (20 + 13 * v) (20 + 13 * v + 15 * g)), length-records_in edge_at 17 e (part bytes (20 + 13 * v + 15 * g) (length bytes)))

pub told-atom : (bytes : List ℕ) (number v g e : ℕ) → IsBytes bytes → AreCounts bytes v g e → IsAtom (told bytes number v g e)
told-atom bytes number v g e h counts =
    record {
      few = omega (arith, told-count bytes number v g e, counts.count, field-lt 4 bytes 16 h);
      vertices = part_rising vertex_form bytes 20 (20 + 13 * v) v refl counts.vertices_run;
      ghosts = part_rising ghost_form bytes (20 + 13 * v) (20 + 13 * v + 15 * g) g refl counts.ghosts_run;
      edges = part_rising edge_form bytes (20 + 13 * v + 15 * g) (length bytes) e counts.whole counts.edges_run;
    }

joined_parts : (p q r s p' q' r' s' : List ℕ) → p ≡ p' → q ≡ q' → r ≡ r' → s ≡ s' → p ++ q ++ r ++ s ≡ p' ++ q' ++ r' ++ s'
joined_parts p q r s p' q' r' s' a b c d = cc

-- a front and three parts
four_parts : (bytes : List ℕ) (a b : ℕ) → 20 ≤ a → a ≤ b → take 20 bytes ++ part bytes 20 a ++ part bytes a b ++ part bytes b (length bytes) ≡ bytes
four_parts bytes a b front middle =
    let to_a : 20 + (a - 20) ≡ a = omega arith in
    let to_b : a + (b - a) ≡ b = omega arith in
    let first : take 20 bytes ++ part bytes 20 a ≡ take a bytes = sym (take-add 20 (a - 20) bytes) ∙ ap (λ (k : ℕ). take k bytes) to_a in
    let second : take a bytes ++ part bytes a b ≡ take b bytes = sym (take-add a (b - a) bytes) ∙ ap (λ (k : ℕ). take k bytes) to_b in
    ap (λ (x : List ℕ). x ++ part bytes a b ++ part bytes b (length bytes)) first
    ∙ ap (λ (x : List ℕ). x ++ part bytes b (length bytes)) second
    ∙ ap (λ (x : List ℕ). take b bytes ++ x) (take_rest bytes b) ∙ take-append-drop b bytes

pub told-bytes : (bytes : List ℕ) (v g e : ℕ) → IsBytes bytes → AreCounts bytes v g e → bytes ≡ atom_bytes (told bytes (field bytes 12 2) v g e)
told-bytes bytes v g e h counts =
    let a : ℕ = 20 + 13 * v in
    let b : ℕ = 20 + 13 * v + 15 * g in
    let number = field bytes 12 2 in
    let count = told-count bytes number v g e ∙ sym counts.count in
    let header : header_of number (record_count (told bytes number v g e)) ≡ take 20 bytes =
    ap (header_of number) count ∙ header_back bytes h (omega (arith, counts.whole)) counts.header in
    let vertices = part_back vertex_form bytes 20 a v refl counts.vertices_run h in
    let ghosts = part_back ghost_form bytes a b g refl counts.ghosts_run h in
    let edges = part_back edge_form bytes b (length bytes) e counts.whole counts.edges_run h in
    sym (joined_parts _ _ _ _ _ _ _ _ header vertices ghosts edges ∙ four_parts bytes a b (omega arith) (omega arith))
