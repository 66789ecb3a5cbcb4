-- What stands at a gate, by its first bytes as they were read.
use Rattle.std.proofs.Common.{◌≡◌, ◌≢◌, inl, inr, min, ℕ, ◌+◌, ◌-◌, ◌<◌, ◌≤◌, List, [], length, take, drop, slice_index, None, Some, Ok, Err, sym, ap, ◌∙◌, arith, length-take, length-drop, get_or-take}
use Rattle.std.proofs.lemmas.List.{drop-drop, take_all}
use Rattle.std.proofs.lemmas.Bool.{cases_lt}
use Rattle.store.specs.declared.store_format.header.Header.{Header}
use Rattle.store.specs.declared.store_format.faults.StoreFault.TheVariants.{Torn, BadByte}
use Rattle.store.specs.store_format.Fields.{field}
use Rattle.store.specs.store_format.Bodies.{body_size, body_fault, entry_count}
use Rattle.store.specs.store_format.Records.{bodies_from, with_body}
use Rattle.store.proofs.store_format.NewLemmas.{field-take, field-behind}
use Rattle.store.specs.declared.snap_journal.faults.JournalFault.{JournalFault}
use Rattle.store.specs.declared.snap_journal.faults.JournalFault.TheVariants.{DiskFault, BadStore, Full, Failed, NoMemory}
use Rattle.store.specs.snap_journal.Inner.Reads.{HasLength, BodyErrorCause, NextBodyErrorCause}
use Rattle.store.proofs.snap_journal.GateLemmas.{at_end, at_closed, at_torn_head, at_bad_length, at_torn_body, at_bad_body, at_record}

-- as many bytes as there are, and at most 17, are the first 17
pub head_is : (seen head : List ℕ) (at len there : ℕ) → len ≡ length seen → at ≤ len → there ≡ min (len - at) 17 → head ≡ take there (drop at seen) → head ≡ take 17 (drop at seen)
head_is seen head at len there len_is inside there_is is = is ∙ elim (cases_lt (length (drop at seen)) 17) [
  | inl short ↦
      let all : length (drop at seen) ≤ there = omega (arith, length-drop at seen) in
      take_all there (drop at seen) all ∙ sym (take_all 17 (drop at seen) (omega arith))
  | inr long ↦
      let most : there ≡ 17 = omega (arith, length-drop at seen) in
      ap (λ (n : ℕ). take n (drop at seen)) most
]

module _ (header : Header) (number at : ℕ) (bytes head : List ℕ) (is : head ≡ take 17 bytes) where
  size : length head ≡ length (take 17 bytes)
  size = ap (length {A = ℕ}) is

  gate : slice_index head 0 ≡ slice_index bytes 0
  gate = ap (λ (l : List ℕ). slice_index l 0) is ∙ get_or-take 17 bytes 0 0 (omega arith)

  len : field head 1 8 ≡ field bytes 1 8
  len = ap (λ (l : List ℕ). field l 1 8) is ∙ field-take 17 1 8 bytes (omega arith)

  count : field head 13 4 ≡ field bytes 13 4
  count = ap (λ (l : List ℕ). field l 13 4) is ∙ field-take 17 13 4 bytes (omega arith)

  pub head_end : length head ≡ 0 → bodies_from header number at 0 bytes ≡ Err (Torn at)
  head_end none = at_end header number at bytes (omega (arith, size, length-take 17 bytes))

  pub head_closed : 1 ≤ length head → slice_index head 0 ≢ 1 → bodies_from header number at 0 bytes ≡ Ok []
  head_closed some closed = at_closed header number at bytes (omega (arith, size, length-take 17 bytes)) (λ e. closed (gate ∙ e))

  pub head_torn : slice_index head 0 ≡ 1 → 1 ≤ length head → length head < 17 → bodies_from header number at 0 bytes ≡ Err (Torn (at + length head))
  head_torn opened some short =
      let same : length head ≡ length bytes = omega (arith, size, length-take 17 bytes) in
      at_torn_head header number at bytes (sym gate ∙ opened) (omega arith) (omega arith) ∙ ap (λ (n : ℕ). Err (Torn (at + n))) (sym same)

  pub head_bad : slice_index head 0 ≡ 1 → 17 ≤ length head → field head 1 8 ≢ body_size header (field head 13 4) → bodies_from header number at 0 bytes ≡ Err (BadByte (at + 1))
  head_bad opened long other =
      at_bad_length header number at bytes (sym gate ∙ opened) (omega (arith, size, length-take 17 bytes)) (λ e. other (len ∙ e ∙ ap (body_size header) (sym count)))

  pub head_short : slice_index head 0 ≡ 1 → 17 ≤ length head → field head 1 8 ≡ body_size header (field head 13 4) → length bytes < 10 + field head 1 8 → bodies_from header number at 0 bytes ≡ Err (Torn (at + length bytes))
  head_short opened long own short =
      at_torn_body header number at bytes (sym gate ∙ opened) (omega (arith, size, length-take 17 bytes)) (sym len ∙ own ∙ ap (body_size header) count) (omega (arith, len))

  pub head_size : slice_index head 0 ≡ 1 → field head 1 8 ≡ body_size header (field head 13 4) → 10 + field head 1 8 ≤ length bytes → HasLength header bytes (field head 1 8)
  head_size opened own fits = record { gate = sym gate ∙ opened; size_is = len; own = own ∙ ap (body_size header) count; fits = fits }

-- the body of a record of this length was read behind its head
module _ (header : Header) (number at : ℕ) (seen body : List ℕ) (size : ℕ) (has : HasLength header (drop at seen) size) (is : body ≡ take size (drop (at + 9) seen)) where
  there : body ≡ take size (drop 9 (drop at seen))
  there = is ∙ ap (take size) (sym (drop-drop 9 at seen))

  pub body_long : length body ≡ size
  body_long =
      let fits = has.fits in
      omega (arith, ap (length {A = ℕ}) is, length-take size (drop (at + 9) seen), length-drop (at + 9) seen, length-drop at seen)

  pub body_own : size ≡ body_size header (entry_count body)
  body_own =
      let own = has.own in
      let least : 8 ≤ size = omega (arith, own) in
      let count : entry_count body ≡ field (drop at seen) 13 4 =
      ap entry_count there ∙ field-take size 4 4 (drop 9 (drop at seen)) (omega arith) ∙ field-behind 9 4 4 (drop at seen) in
      own ∙ ap (body_size header) (sym count)

  pub body_bad : (place : ℕ) → body_fault header number body ≡ Some place → bodies_from header number at 0 (drop at seen) ≡ Err (BadByte (at + 9 + place))
  body_bad place bad = at_bad_body header number at (drop at seen) size place has (ap (body_fault header number) (sym there) ∙ bad)

  pub body_next : body_fault header number body ≡ None → bodies_from header number at 0 (drop at seen) ≡ with_body body (bodies_from header (number + 1) (at + (9 + length body)) 0 (drop (at + (9 + length body)) seen))
  body_next none =
      let long : 9 + size ≡ 9 + length body = ap (λ (n : ℕ). 9 + n) (sym body_long) in
      at_record header number at (drop at seen) size has (ap (body_fault header number) (sym there) ∙ none)
      ∙ ap (λ (b : List ℕ). with_body b (bodies_from header (number + 1) (at + (9 + size)) 0 (drop (9 + size) (drop at seen)))) (sym there)
      ∙ ap (λ (l : List ℕ). with_body body (bodies_from header (number + 1) (at + (9 + size)) 0 l)) (drop-drop (9 + size) at seen)
      ∙ ap (λ (n : ℕ). with_body body (bodies_from header (number + 1) (at + n) 0 (drop (at + n) seen))) long

-- where these bytes are no body the store is not read on
pub why_not_body : {told : Type 0} (header : Header) (number at most before now : ℕ) (seen body : List ℕ) (fault : JournalFault)
    → (told → HasLength header (drop at seen) most) → (told → body ≡ take most (drop (at + 9) seen))
    → BodyErrorCause header number at most body fault → NextBodyErrorCause told header number at seen before now fault
why_not_body header number at most before now seen body DiskFault has is bad = absurd bad
why_not_body header number at most before now seen body (BadStore fault) has is bad = λ told. bad seen (has told) (is told)
why_not_body header number at most before now seen body (Full stored bytes) has is bad = bad
why_not_body header number at most before now seen body Failed has is bad = bad
why_not_body header number at most before now seen body NoMemory has is bad = bad
