-- Lists of records of one kind, from their bytes and back.
use Rattle.std.proofs.Common.{◌≡◌, ℕ, zero, suc, ◌+◌, ◌-◌, ◌*◌, ◌<◌, ◌≤◌, List, [], ◌∷◌, ◌++◌, length, slice_index, get_or, take, drop, map, All, Some, refl, sym, ap, ◌∙◌, arith, length-drop, get_or-drop}
use Rattle.std.specs.List.{flat_map, slice_get}
use Rattle.std.specs.List.Sorted.{IsStrictlyIncreasing}
use Rattle.std.proofs.lemmas.List.{drop-drop, take-append-drop, nil_from_length, get_or-map, length-map, drop-take, take_more, flat_map_more}
use Rattle.std.proofs.lemmas.List.Elements.{All-nil, All-cons}
use Rattle.byteorder.specs.Numbers.{big_from-take}
use Rattle.graph_atoms.specs.atom_file.Fields.{field}
use Rattle.graph_atoms.specs.atom_file.Views.{records_in}
use Rattle.graph_atoms.proofs.atom_file.FieldLemmas.{IsBytes, IsBytes-drop, field-drop}
use Rattle.graph_atoms.proofs.atom_file.RecordLemmas.{IsForm}

-- so many records are read
pub length-records_in : {T : Type 0} (read : List ℕ → T) (size n : ℕ) (bytes : List ℕ) → length (records_in read size n bytes) ≡ n
length-records_in read size zero bytes = refl
length-records_in read size (suc n) bytes = ap suc (length-records_in read size n (drop size bytes))

-- each from its own place on
pub get_or-records_in : {T : Type 0} (read : List ℕ → T) (size n : ℕ) (bytes : List ℕ) (k : ℕ) (d : T) → k < n → get_or (records_in read size n bytes) k d ≡ read (drop (size * k) bytes)
get_or-records_in read size zero bytes k d h = absurd (omega arith)
get_or-records_in read size (suc n) bytes zero d h =
    let none : size * 0 ≡ 0 = omega arith in
    ap (λ (at : ℕ). read (drop at bytes)) (sym none)
get_or-records_in read size (suc n) bytes (suc k) d h =
    let next : size + size * k ≡ size * suc k = omega arith in
    get_or-records_in read size n (drop size bytes) k d (omega arith)
    ∙ ap read (drop-drop (size * k) size bytes ∙ ap (λ (at : ℕ). drop at bytes) next)

pub slice_get-records_in : {T : Type 0} (read : List ℕ → T) (size n : ℕ) (bytes : List ℕ) (k : ℕ) → k < n → slice_get (records_in read size n bytes) k ≡ Some (read (drop (size * k) bytes))
slice_get-records_in read size zero bytes k h = absurd (omega arith)
slice_get-records_in read size (suc n) bytes zero h =
    let none : size * 0 ≡ 0 = omega arith in
    ap (λ (at : ℕ). Some (read (drop at bytes))) (sym none)
slice_get-records_in read size (suc n) bytes (suc k) h =
    let next : size + size * k ≡ size * suc k = omega arith in
    slice_get-records_in read size n (drop size bytes) k (omega arith)
    ∙ ap (λ (bs : List ℕ). Some (read bs)) (drop-drop (size * k) size bytes ∙ ap (λ (at : ℕ). drop at bytes) next)

-- one record more
records_in-suc : {T : Type 0} (read : List ℕ → T) (size n : ℕ) (bytes : List ℕ) → records_in read size (suc n) bytes ≡ records_in read size n bytes ++ read (drop (size * n) bytes) ∷ []
records_in-suc read size zero bytes =
    let none : size * 0 ≡ 0 = omega arith in
    ap (λ (at : ℕ). read (drop at bytes) ∷ []) (sym none)
records_in-suc read size (suc n) bytes =
    let next : size + size * n ≡ size * suc n = omega arith in
    ap (λ (rs : List _). read bytes ∷ rs) (records_in-suc read size n (drop size bytes))
    ∙ ap (λ (bs : List ℕ). read bytes ∷ (records_in read size n (drop size bytes) ++ read bs ∷ [])) (drop-drop (size * n) size bytes ∙ ap (λ (at : ℕ). drop at bytes) next)

pub records_in-more : {T : Type 0} (read : List ℕ → T) (size n : ℕ) (bytes : List ℕ) → records_in read size (n + 1) bytes ≡ records_in read size n bytes ++ read (drop (size * n) bytes) ∷ []
records_in-more read size n bytes =
    let more : n + 1 ≡ suc n = omega arith in
    ap (λ (k : ℕ). records_in read size k bytes) more ∙ records_in-suc read size n bytes

-- what is read is written as it stood
pub flat_map-records_in : {T : Type 0} {tag size : ℕ} {number : T → ℕ} {Fits : T → Type 0} {write : T → List ℕ} {read : List ℕ → T} → IsForm tag size number Fits write read → (n : ℕ) (bytes : List ℕ) → IsBytes bytes → length bytes ≡ size * n
    → ((i : ℕ) → i < n → slice_index bytes (size * i) ≡ tag) → flat_map write (records_in read size n bytes) ≡ bytes
flat_map-records_in form zero bytes h len tags = sym (nil_from_length bytes (omega arith))
flat_map-records_in {tag = tag} {size = size} {write = write} {read = read} form (suc n) bytes h len tags =
    let none : size * 0 ≡ 0 = omega arith in
    let within : size ≤ length bytes = omega arith in
    let first : slice_index bytes 0 ≡ tag = ap (slice_index bytes) (sym none) ∙ tags 0 (omega arith) in
    let here = form.back bytes h within first in
    let rest = flat_map-records_in form n (drop size bytes) (IsBytes-drop size bytes h) (omega (arith, length-drop size bytes))
    (λ i below.
    let next : size + size * i ≡ size * suc i = omega arith in
    get_or-drop size bytes (size * i) 0 ∙ ap (slice_index bytes) next ∙ tags (suc i) (omega arith)) in
    ap (λ (r : List ℕ). r ++ flat_map write (records_in read size n (drop size bytes))) here
    ∙ ap (λ (r : List ℕ). take size bytes ++ r) rest ∙ take-append-drop size bytes

-- and is in range
pub All-records_in : {T : Type 0} {tag size : ℕ} {number : T → ℕ} {Fits : T → Type 0} {write : T → List ℕ} {read : List ℕ → T} → IsForm tag size number Fits write read → (n : ℕ) (bytes : List ℕ) → IsBytes bytes → All Fits (records_in read size n bytes)
All-records_in {Fits = Fits} form zero bytes h = All-nil Fits
All-records_in {size = size} {Fits = Fits} {read = read} form (suc n) bytes h =
    All-cons Fits (read bytes) (records_in read size n (drop size bytes)) (form.fits bytes h) (All-records_in form n (drop size bytes) (IsBytes-drop size bytes h))

-- and rises where its numbers do
pub rising-records_in : {T : Type 0} {tag size : ℕ} {number : T → ℕ} {Fits : T → Type 0} {write : T → List ℕ} {read : List ℕ → T} → IsForm tag size number Fits write read → (n : ℕ) (bytes : List ℕ)
    → ((i : ℕ) → i + 1 < n → field bytes (size * i + 1) 4 < field bytes (size * (i + 1) + 1) 4) → IsStrictlyIncreasing (map number (records_in read size n bytes))
rising-records_in {size = size} {number = number} {read = read} form n bytes rises = λ k below.
    let len = length-map (records_in read size n bytes) number ∙ length-records_in read size n bytes in
    let is = λ (i : ℕ) (h : i < n).
    get_or-map number (records_in read size n bytes) i (read bytes) 0 (omega (arith, length-records_in read size n bytes))
    ∙ ap number (get_or-records_in read size n bytes i (read bytes) h) ∙ form.key (drop (size * i) bytes) ∙ field-drop 4 bytes (size * i) 1 in
    omega (arith, is k (omega arith), is (k + 1) (omega arith), rises k (omega arith))

-- a field of a part stands in the whole
pub field-part : (bytes : List ℕ) (at n i : ℕ) → i + 4 ≤ n → field (take n (drop at bytes)) i 4 ≡ field bytes (at + i) 4
field-part bytes at n i within =
    let size : n ≡ i + (n - i) = omega arith in
    ap (λ (k : ℕ). field (take k (drop at bytes)) i 4) size
    ∙ ap (λ (bs : List ℕ). field bs 0 4) (drop-take i (n - i) (drop at bytes))
    ∙ big_from-take 0 4 (n - i) (drop i (drop at bytes)) (omega arith) ∙ field-drop 4 bytes at i

-- what was written so far, with one record more
pub flat_map-take_more : {T : Type 0} (write : T → List ℕ) (xs : List T) (i : ℕ) (d : T) (before file new one : List ℕ) → i < length xs → file ≡ before ++ flat_map write (take i xs) → one ≡ write (get_or xs i d) → new ≡ file ++ one → new ≡ before ++ flat_map write (take (i + 1) xs)
flat_map-take_more write xs i d before file new one inside so_far is grown =
    grown ∙ ap (λ (f : List ℕ). f ++ one) so_far
    ∙ ap (λ (r : List ℕ). (before ++ flat_map write (take i xs)) ++ r) is
    ∙ flat_map_more write before (take i xs) (get_or xs i d)
    ∙ ap (λ (ys : List _). before ++ flat_map write ys) (sym (take_more xs i d inside))
