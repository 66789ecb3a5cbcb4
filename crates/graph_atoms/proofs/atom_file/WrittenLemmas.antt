-- What was written has no fault, and is read in one way only.
use Rattle.std.proofs.Common.{◌≡◌, ◌≢◌, ℕ, suc, ◌+◌, ◌*◌, ◌^◌, ◌<◌, ◌≤◌, List, [], ◌∷◌, ◌++◌, length, slice_index, None, refl, sym, ap, ◌∙◌, arith, append_assoc, length-append}
use Rattle.std.specs.List.{flat_map, AllByRecursion}
use Rattle.std.proofs.Math.Seq.{drop-append-add}
use Rattle.std.proofs.lemmas.Bool.{ne_eqb, lt-leb, le-ltb}
use Rattle.std.proofs.lemmas.List.{append-nil, append_cancel_left, get_or-append-add}
use Rattle.graph_atoms.specs.atom_file.Fields.{field}
use Rattle.graph_atoms.specs.atom_file.Faults.{record_size, record_key, record_fault, records_fault}
use Rattle.graph_atoms.proofs.atom_file.RecordLemmas.{IsForm}
use Rattle.graph_atoms.proofs.atom_file.RunLemmas.{records_fault-next}

-- a whole record with a tag and a key that is no less than it has to be
record_fine : (bytes : List ℕ) (least at tag size : ℕ) → slice_index bytes at ≡ tag → record_size tag ≡ size → 5 ≤ size → at + size ≤ length bytes → least ≤ record_key bytes at → record_fault bytes least at ≡ None
record_fine bytes least at tag size tag_is size_is some within risen =
    let sized : record_size (slice_index bytes at) ≡ size = ap record_size tag_is ∙ size_is in
    rw (lt-leb (length bytes) at (omega arith), sized, ne_eqb size 0 (λ e. omega arith), le-ltb (length bytes) (at + size) within, le-ltb (record_key bytes at) least risen)
    refl

-- the number by which a record of a kind rises
abbrev pub key_of : {T : Type 0} → ℕ → (T → ℕ) → T → ℕ
key_of tag number x = tag * 2 ^ 32 + number x

-- the keys of the records rise, from this one on
abbrev pub RisesFrom : {T : Type 0} → (T → ℕ) → ℕ → List T → Type 0
RisesFrom key least [] = Unit {0}
RisesFrom key least (x ∷ xs) = (least ≤ key x) × RisesFrom key (key x + 1) xs

-- the least key that may follow them
abbrev pub least_after : {T : Type 0} → (T → ℕ) → ℕ → List T → ℕ
least_after key least [] = least
least_after key least (x ∷ xs) = least_after key (key x + 1) xs

pub least_after-le : {T : Type 0} (key : T → ℕ) (limit least : ℕ) (xs : List T) → least ≤ limit → AllByRecursion (λ x. key x < limit) xs → least_after key least xs ≤ limit
least_after-le key limit least [] h below = h
least_after-le key limit least (x ∷ xs) h below = least_after-le key limit (key x + 1) xs (omega (arith, below.0)) below.1

module _ {T : Type 0} {tag size : ℕ} {number : T → ℕ} {Fits : T → Type 0} {write : T → List ℕ} {read : List ℕ → T} (form : IsForm tag size number Fits write read) where
  -- the tag of the record in front
  tag_at : (front : List ℕ) (x : T) (rest : List ℕ) → slice_index (front ++ (write x ++ rest)) (length front) ≡ tag
  tag_at front x rest =
      let none : length front + 0 ≡ length front = omega arith in
      ap (slice_index (front ++ (write x ++ rest))) (sym none) ∙ get_or-append-add front (write x ++ rest) 0 0 ∙ form.head x rest

  -- and its key
  key_at : (front : List ℕ) (x : T) (rest : List ℕ) → Fits x → record_key (front ++ (write x ++ rest)) (length front) ≡ key_of tag number x
  key_at front x rest fits =
      let bytes = front ++ (write x ++ rest) in
      let number_is : field bytes (length front + 1) 4 ≡ number x =
      ap (λ (bs : List ℕ). field bs 0 4) (drop-append-add front (write x ++ rest) 1)
      ∙ sym (form.key (write x ++ rest)) ∙ ap number (form.again x rest fits) in
      ap (λ (t : ℕ). t * 2 ^ 32 + field bytes (length front + 1) 4) (tag_at front x rest)
      ∙ ap (λ (n : ℕ). tag * 2 ^ 32 + n) number_is

  -- records that were written have no fault
  pub records_fault-written : record_size tag ≡ size → (xs : List T) (bytes front rest : List ℕ) (left least : ℕ) → AllByRecursion Fits xs → RisesFrom (key_of tag number) least xs → bytes ≡ front ++ (flat_map write xs ++ rest)
      → records_fault bytes (length xs + left) least (length front) ≡ records_fault bytes left (least_after (key_of tag number) least xs) (length (front ++ flat_map write xs))
  records_fault-written sized [] bytes front rest left least fit rises is =
      let none : 0 + left ≡ left = omega arith in
      ap (λ (k : ℕ). records_fault bytes k least (length front)) none
      ∙ ap (λ (bs : List ℕ). records_fault bytes left least (length bs)) (sym (append-nil front))
  records_fault-written sized (x ∷ xs) bytes front rest left least fit rises is =
      let more : suc (length xs) + left ≡ suc (length xs + left) = omega arith in
      let after = flat_map write xs ++ rest in
      let split : bytes ≡ front ++ (write x ++ after) = is ∙ ap (λ (bs : List ℕ). front ++ bs) (append_assoc (write x) (flat_map write xs) rest) in
      let tag_is : slice_index bytes (length front) ≡ tag = ap (λ (bs : List ℕ). slice_index bs (length front)) split ∙ tag_at front x after in
      let key_is : record_key bytes (length front) ≡ key_of tag number x = ap (λ (bs : List ℕ). record_key bs (length front)) split ∙ key_at front x after fit.0 in
      let within : length front + size ≤ length bytes = omega (arith, ap length split, length-append front (write x ++ after), length-append (write x) after, form.len x) in
      let fine = record_fine bytes least (length front) tag size tag_is sized form.some within (omega (arith, key_is, rises.0)) in
      let place : length front + size ≡ length (front ++ write x) = omega (arith, length-append front (write x), form.len x) in
      ap (λ (k : ℕ). records_fault bytes k least (length front)) more
      ∙ records_fault-next bytes (length xs + left) least (length front) size (ap record_size tag_is ∙ sized) fine
      ∙ ap (λ (k : ℕ). records_fault bytes (length xs + left) (k + 1) (length front + size)) key_is
      ∙ ap (records_fault bytes (length xs + left) (key_of tag number x + 1)) place
      ∙ records_fault-written sized xs bytes (front ++ write x) rest left (key_of tag number x + 1) fit.1 rises.1 (split ∙ sym (append_assoc front (write x) after))
      ∙ ap (λ (bs : List ℕ). records_fault bytes left (least_after (key_of tag number) (key_of tag number x + 1) xs) (length bs)) (append_assoc front (write x) (flat_map write xs))

  -- the first tag is that of a record, or that of what follows
  pub first_tag : (xs : List T) (r : List ℕ) (other : ℕ) → tag ≢ other → slice_index r 0 ≢ other → slice_index (flat_map write xs ++ r) 0 ≢ other
  first_tag [] r other apart here = here
  first_tag (x ∷ xs) r other apart here = λ e.
      apart (sym (form.head x (flat_map write xs ++ r)) ∙ ap (λ (bs : List ℕ). slice_index bs 0) (sym (append_assoc (write x) (flat_map write xs) r)) ∙ e)

  -- records are read in one way only, up to bytes that begin with another tag
  pub written_once : (xs ys : List T) (r s : List ℕ) → AllByRecursion Fits xs → AllByRecursion Fits ys → slice_index r 0 ≢ tag → slice_index s 0 ≢ tag → flat_map write xs ++ r ≡ flat_map write ys ++ s → (xs ≡ ys) × (r ≡ s)
  written_once [] [] r s fit fit' at_r at_s e = (refl, e)
  written_once [] (y ∷ ys) r s fit fit' at_r at_s e =
      absurd (at_r (ap (λ (bs : List ℕ). slice_index bs 0) (e ∙ append_assoc (write y) (flat_map write ys) s) ∙ form.head y (flat_map write ys ++ s)))
  written_once (x ∷ xs) [] r s fit fit' at_r at_s e =
      absurd (at_s (ap (λ (bs : List ℕ). slice_index bs 0) (sym e ∙ append_assoc (write x) (flat_map write xs) r) ∙ form.head x (flat_map write xs ++ r)))
  written_once (x ∷ xs) (y ∷ ys) r s fit fit' at_r at_s e =
      let split : write x ++ (flat_map write xs ++ r) ≡ write y ++ (flat_map write ys ++ s) =
      sym (append_assoc (write x) (flat_map write xs) r) ∙ e ∙ append_assoc (write y) (flat_map write ys) s in
      let same : x ≡ y = sym (form.again x (flat_map write xs ++ r) fit.0) ∙ ap read split ∙ form.again y (flat_map write ys ++ s) fit'.0 in
      let rest = append_cancel_left (write y) (flat_map write xs ++ r) (flat_map write ys ++ s) (ap (λ (z : T). write z ++ (flat_map write xs ++ r)) (sym same) ∙ split) in
      let later = written_once xs ys r s fit.1 fit'.1 at_r at_s rest in
      (ap (λ (z : T). z ∷ xs) same ∙ ap (λ (zs : List T). y ∷ zs) later.0, later.1)
