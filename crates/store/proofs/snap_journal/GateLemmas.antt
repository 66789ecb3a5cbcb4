-- What stands at a gate, by the bytes from it on.
use Rattle.std.proofs.Common.{◌≡◌, ◌≢◌, ◌⊎◌, inl, inr, ℕ, suc, ◌+◌, ◌<◌, ◌≤◌, List, [], ◌∷◌, ◌++◌, length, take, drop, slice_index, Option, None, Some, Ok, Err, refl, sym, ap, ◌∙◌, arith, length-append, length-take}
use Rattle.std.proofs.lemmas.Bool.{lt-ltb, le-ltb, eq-eqb, ne_eqb}
use Rattle.std.proofs.lemmas.List.{drop-drop, take-append-le}
use borrow.Rule.Slice.PartMut.{put_mid, post_of}
use Rattle.std.proofs.Math.Seq.{take-add, take-append-add}
use Rattle.store.specs.declared.store_format.header.Header.{Header}
use Rattle.store.specs.declared.store_format.faults.StoreFault.{StoreFault}
use Rattle.store.specs.declared.store_format.faults.StoreFault.TheVariants.{Torn, BadByte}
use Rattle.store.specs.store_format.Fields.{field}
use Rattle.store.specs.store_format.Bodies.{body_size, body_fault}
use Rattle.store.specs.store_format.Records.{length_in, body_in, bad_byte, stored_fault, with_body, unless_bad, bodies_from}
use Rattle.store.proofs.store_format.ReadLemmas.{bodies_from-skip, bodies_from-closed}
use Rattle.store.specs.snap_journal.Inner.Reads.{HasLength}

module _ (header : Header) (number at : ℕ) where
  pub at_end : (bytes : List ℕ) → length bytes ≡ 0 → bodies_from header number at 0 bytes ≡ Err (Torn at)
  at_end [] none = refl
  at_end (byte ∷ bytes) none = absurd (omega arith)

  pub at_closed : (bytes : List ℕ) → 1 ≤ length bytes → slice_index bytes 0 ≢ 1 → bodies_from header number at 0 bytes ≡ Ok []
  at_closed [] some closed = absurd (omega arith)
  at_closed (gate ∷ behind) some closed = bodies_from-closed header number at gate behind closed

  opened : (gate : ℕ) (behind : List ℕ) → gate ≡ 1 → bodies_from header number at 0 (gate ∷ behind)
      ≡ unless_bad (stored_fault header number (at + 1) behind) (body_in behind) (bodies_from header (number + 1) (at + 1) (8 + length_in behind) behind)
  opened gate behind is = rw (eq-eqb gate 1 is) refl

  faulty : (gate : ℕ) (behind : List ℕ) (fault : StoreFault) → gate ≡ 1 → stored_fault header number (at + 1) behind ≡ Some fault → bodies_from header number at 0 (gate ∷ behind) ≡ Err fault
  faulty gate behind fault is bad =
      opened gate behind is ∙ ap (λ (o : Option StoreFault). unless_bad o (body_in behind) (bodies_from header (number + 1) (at + 1) (8 + length_in behind) behind)) bad

  pub at_torn_head : (bytes : List ℕ) → slice_index bytes 0 ≡ 1 → 1 ≤ length bytes → length bytes < 17 → bodies_from header number at 0 bytes ≡ Err (Torn (at + length bytes))
  at_torn_head [] is some short = absurd (omega arith)
  at_torn_head (gate ∷ behind) is some short =
      let place : at + 1 + length behind ≡ at + suc (length behind) = omega arith in
      let bad : stored_fault header number (at + 1) behind ≡ Some (Torn (at + 1 + length behind)) = rw (lt-ltb (length behind) 16 (omega arith)) refl in
      faulty gate behind (Torn (at + 1 + length behind)) is bad ∙ ap (λ (p : ℕ). Err (Torn p)) place

  pub at_bad_length : (bytes : List ℕ) → slice_index bytes 0 ≡ 1 → 17 ≤ length bytes → field bytes 1 8 ≢ body_size header (field bytes 13 4) → bodies_from header number at 0 bytes ≡ Err (BadByte (at + 1))
  at_bad_length [] is long other = absurd (omega arith)
  at_bad_length (gate ∷ behind) is long other =
      let differs : length_in behind ≢ body_size header (field behind 12 4) = other in
      let bad : stored_fault header number (at + 1) behind ≡ Some (BadByte (at + 1)) = rw (le-ltb (length behind) 16 (omega arith), ne_eqb (length_in behind) (body_size header (field behind 12 4)) differs) refl in
      faulty gate behind (BadByte (at + 1)) is bad

  pub at_torn_body : (bytes : List ℕ) → slice_index bytes 0 ≡ 1 → 17 ≤ length bytes → field bytes 1 8 ≡ body_size header (field bytes 13 4) → length bytes < 10 + field bytes 1 8 → bodies_from header number at 0 bytes ≡ Err (Torn (at + length bytes))
  at_torn_body [] is long own short = absurd (omega arith)
  at_torn_body (gate ∷ behind) is long own short =
      let same : length_in behind ≡ body_size header (field behind 12 4) = own in
      let less : length behind < 9 + length_in behind = let h : suc (length behind) < 10 + length_in behind = short in omega (arith, h) in
      let place : at + 1 + length behind ≡ at + suc (length behind) = omega arith in
      let bad : stored_fault header number (at + 1) behind ≡ Some (Torn (at + 1 + length behind)) =
      rw (le-ltb (length behind) 16 (omega arith), eq-eqb (length_in behind) (body_size header (field behind 12 4)) same, lt-ltb (length behind) (9 + length_in behind) less) refl in
      faulty gate behind (Torn (at + 1 + length behind)) is bad ∙ ap (λ (p : ℕ). Err (Torn p)) place

  -- a record of this length, whose body was read
  checked : (behind : List ℕ) → 16 ≤ length behind → length_in behind ≡ body_size header (field behind 12 4) → 9 + length_in behind ≤ length behind → stored_fault header number (at + 1) behind ≡ bad_byte (at + 1 + 8) (body_fault header number (body_in behind))
  checked behind long own fits =
      rw (le-ltb (length behind) 16 long, eq-eqb (length_in behind) (body_size header (field behind 12 4)) own, le-ltb (length behind) (9 + length_in behind) fits) refl

  pub at_bad_body : (bytes : List ℕ) (size place : ℕ) → HasLength header bytes size → body_fault header number (take size (drop 9 bytes)) ≡ Some place → bodies_from header number at 0 bytes ≡ Err (BadByte (at + 9 + place))
  at_bad_body [] size place has bad = let fits = has.fits in absurd (omega arith)
  at_bad_body (gate ∷ behind) size place has bad =
      let len : size ≡ length_in behind = has.size_is in
      let own : length_in behind ≡ body_size header (field behind 12 4) = sym len ∙ has.own in
      let fits : 10 + size ≤ suc (length behind) = has.fits in
      let there : at + 1 + 8 ≡ at + 9 = omega arith in
      let fault : body_fault header number (body_in behind) ≡ Some place = ap (λ (n : ℕ). body_fault header number (take n (drop 8 behind))) (sym len) ∙ bad in
      faulty gate behind (BadByte (at + 1 + 8 + place)) has.gate (checked behind (omega (arith, own)) own (omega (arith, len)) ∙ ap (bad_byte (at + 1 + 8)) fault)
      ∙ ap (λ (p : ℕ). Err (BadByte (p + place))) there

  pub at_record : (bytes : List ℕ) (size : ℕ) → HasLength header bytes size → body_fault header number (take size (drop 9 bytes)) ≡ None
      → bodies_from header number at 0 bytes ≡ with_body (take size (drop 9 bytes)) (bodies_from header (number + 1) (at + (9 + size)) 0 (drop (9 + size) bytes))
  at_record [] size has none = let fits = has.fits in absurd (omega arith)
  at_record (gate ∷ behind) size has none =
      let len : size ≡ length_in behind = has.size_is in
      let own : length_in behind ≡ body_size header (field behind 12 4) = sym len ∙ has.own in
      let fits : 10 + size ≤ suc (length behind) = has.fits in
      let fault : body_fault header number (body_in behind) ≡ None = ap (λ (n : ℕ). body_fault header number (take n (drop 8 behind))) (sym len) ∙ none in
      let fine : stored_fault header number (at + 1) behind ≡ None = checked behind (omega (arith, own)) own (omega (arith, len)) ∙ ap (bad_byte (at + 1 + 8)) fault in
      let body = take size (drop 8 behind) in
      let there : at + 1 + (8 + size) ≡ at + (9 + size) = omega arith in
      opened gate behind has.gate
      ∙ ap (λ (o : Option StoreFault). unless_bad o (body_in behind) (bodies_from header (number + 1) (at + 1) (8 + length_in behind) behind)) fine
      ∙ ap (λ (n : ℕ). with_body (take n (drop 8 behind)) (bodies_from header (number + 1) (at + 1) (8 + n) behind)) (sym len)
      ∙ ap (with_body body) (bodies_from-skip header (number + 1) (at + 1) (8 + size) behind (omega arith))
      ∙ ap (λ (p : ℕ). with_body body (bodies_from header (number + 1) p 0 (drop (8 + size) behind))) there
      ∙ ap (λ (l : List ℕ). with_body body (bodies_from header (number + 1) (at + (9 + size)) 0 l)) (let e : suc (8 + size) ≡ 9 + size = omega arith in ap (λ (k : ℕ). drop k (gate ∷ behind)) e)

-- bytes that were read into a buffer piece by piece
pub record FilledSoFar (seen : List ℕ) (at : ℕ) (buf : List ℕ) (done : ℕ) : Type 0 where
  pub bytes : take done buf ≡ take done (drop at seen)
  pub inside : (at + done ≤ length seen) ⊎ (done ≡ 0)

pub filled_none : (seen : List ℕ) (at : ℕ) (buf : List ℕ) → FilledSoFar seen at buf 0
filled_none seen at buf = record { bytes = refl; inside = inr refl }

-- a piece more
pub filled_more : (seen : List ℕ) (at : ℕ) (buf part : List ℕ) (done k count : ℕ) → FilledSoFar seen at buf done → done ≤ length buf → count ≤ length part → take count part ≡ take count (drop (at + done) seen) → (at + done + count ≤ length seen) ⊎ (count ≡ 0)
    → FilledSoFar seen at (put_mid done k buf part) (done + count)
filled_more seen at buf part done k count so_far fits few bytes inside =
    let front = take done buf in
    let size : length front ≡ done = omega (arith, length-take done buf) in
    record {
      bytes = ap (λ (n : ℕ). take (n + count) (front ++ (part ++ post_of done k buf))) (sym size) ∙ take-append-add front (part ++ post_of done k buf) count
          ∙ ap (λ (l : List ℕ). front ++ l) (take-append-le count part (post_of done k buf) few)
          ∙ ap (λ (l : List ℕ). l ++ take count part) so_far.bytes
          ∙ ap (λ (l : List ℕ). take done (drop at seen) ++ l) (bytes ∙ ap (take count) (sym (drop-drop done at seen)))
          ∙ sym (take-add done count (drop at seen));
      inside = elim inside [
        | inl here ↦ inl (omega arith)
        | inr none ↦ elim so_far.inside [
          | inl before ↦ inl (omega arith)
          | inr nothing ↦ inr (omega arith)
        ]
      ];
    }

pub put_long : (done k : ℕ) (buf part : List ℕ) → done ≤ length buf → done + length part ≤ length (put_mid done k buf part)
put_long done k buf part fits =
    omega (arith, length-append (take done buf) (part ++ post_of done k buf), length-append part (post_of done k buf), length-take done buf)
