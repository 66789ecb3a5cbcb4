-- How many entries the order of a store has, by its length: all else of a record has one size.
use Rattle.std.proofs.Common.{◌≡◌, None, Option, Result, Some, inl, inr, ◌++◌, ℕ, zero, suc, ◌+◌, ◌-◌, ◌*◌, ◌/◌, Bool, true, false, List, [], ◌∷◌, Ok, length, drop, refl, sym, ap, ◌∙◌, arith, take, length-drop, if◌then◌else◌}
use Rattle.std.specs.Prelude.{nat_lt, ⊤}
use Rattle.std.proofs.lemmas.Bool.{cases_eq, eq-eqb}
use Rattle.std.proofs.Math.Nat.{suc-mul, zero-mul}
use Rattle.gl_base.specs.declared.entries.Entry.{Entry}
use Rattle.store.specs.declared.store_format.header.Header.{Header}
use Rattle.store.specs.store_format.Bodies.{body_size, entry_count}
use Rattle.store.specs.store_format.Records.{bodies_from, body_in, length_in, stored_fault, unless_bad, with_body}
use Rattle.store.specs.declared.store_format.faults.StoreFault.{StoreFault}
use Rattle.store.specs.store_format.StoredOrders.{body_entries, entries_from, entry_rank, order_behind, put_in_order, stored_order, with_entries}
use Rattle.store.specs.store_format.Stores.{DecodesTo, records_size}
use Rattle.store.specs.store_format.Headers.{store_header_fault}
use Rattle.store.proofs.store_format.NewLemmas.{field-behind}
use Rattle.store.proofs.store_format.ReadLemmas.{IsSplit, IsStored, bodies_from-closed, bodies_from-record, split_record, with_body-inv}
use Rattle.store.proofs.store_format.StoreLemmas.{refused_not}

-- ---- how long orders are

picked : (test : Bool) (entry first : Entry) (order rest : List Entry) → length rest ≡ suc (length order) → length (if test then entry ∷ first ∷ order else first ∷ rest) ≡ suc (length (first ∷ order))
picked true entry first order rest long = refl
picked false entry first order rest long = ap suc long

put_long : (entry : Entry) (order : List Entry) → length (put_in_order entry order) ≡ suc (length order)
put_long entry [] = refl
put_long entry (first ∷ order) = picked (nat_lt (entry_rank entry) (entry_rank first)) entry first order (put_in_order entry order) (put_long entry order)

none_more : (n : ℕ) → n ≡ n + 0
none_more n = omega arith

one_more : (n k : ℕ) → suc n + k ≡ n + suc k
one_more n k = omega arith

grouped : (x y z : ℕ) → (x + y) + z ≡ x + (y + z)
grouped x y z = omega arith

pub with_long : (entries order : List Entry) → length (with_entries order entries) ≡ length order + length entries
with_long [] order = none_more (length order)
with_long (entry ∷ entries) order =
    with_long entries (put_in_order entry order) ∙ ap (λ (n : ℕ). n + length entries) (put_long entry order) ∙ one_more (length order) (length entries)

pub entries_long : (count : ℕ) (body : List ℕ) (at : ℕ) → length (entries_from count body at) ≡ count
entries_long zero body at = refl
entries_long (suc count) body at = ap suc (entries_long count body (at + 16))

-- how many entries these records have
abbrev counted : List (List ℕ) → ℕ
counted [] = 0
counted (body ∷ bodies) = entry_count body + counted bodies

order_long : (bodies : List (List ℕ)) (order : List Entry) → length (order_behind order bodies) ≡ length order + counted bodies
order_long [] order = none_more (length order)
order_long (body ∷ bodies) order =
    order_long bodies (with_entries order (body_entries body))
    ∙ ap (λ (n : ℕ). n + counted bodies) (with_long (body_entries body) order ∙ ap (λ (n : ℕ). length order + n) (entries_long (entry_count body) body 8))
    ∙ grouped (length order) (entry_count body) (counted bodies)

-- ---- the first of the records that are read

unless_bad-inv : (fault : Option StoreFault) (body : List ℕ) (more : Result (List (List ℕ)) StoreFault) (bodies : List (List ℕ)) → unless_bad fault body more ≡ Ok bodies → (fault ≡ None) × (with_body body more ≡ Ok bodies)
unless_bad-inv None body more bodies e = (refl, e)
unless_bad-inv (Some fault) body more bodies e = absurd (cc)

-- a first record, and the others behind it
record IsFirst (header : Header) (number at gate : ℕ) (behind body : List ℕ) (bodies : List (List ℕ)) : Type 0 where
  pub split : IsSplit header number behind
  pub gate_is : gate ≡ 1
  pub body_is : body ≡ drop 8 split.front
  pub others : bodies_from header (number + 1) (at + (1 + length split.front)) 0 (split.gate ∷ split.more) ≡ Ok bodies

open_gate : (header : Header) (number at gate : ℕ) (behind : List ℕ) → gate ≡ 1 → bodies_from header number at 0 (gate ∷ behind)
    ≡ unless_bad (stored_fault header number (at + 1) behind) (body_in behind) (bodies_from header (number + 1) (at + 1) (8 + length_in behind) behind)
open_gate header number at gate behind opened = rw (eq-eqb gate 1 opened) refl

first_of_all : (header : Header) (number at gate : ℕ) (behind body : List ℕ) (bodies : List (List ℕ)) → bodies_from header number at 0 (gate ∷ behind) ≡ Ok (body ∷ bodies) → IsFirst header number at gate behind body bodies
first_of_all header number at gate behind body bodies e = elim (cases_eq gate 1) [
  | inr closed ↦ absurd (not_both body bodies (bodies_from header number at 0 (gate ∷ behind)) (bodies_from-closed header number at gate behind closed) e)
  | inl opened ↦
      let parts = unless_bad-inv (stored_fault header number (at + 1) behind) (body_in behind) (bodies_from header (number + 1) (at + 1) (8 + length_in behind) behind) (body ∷ bodies) (sym (open_gate header number at gate behind opened) ∙ e) in
      let split = split_record header number (at + 1) behind parts.0 in
      let read = bodies_from-record header number at split.front split.gate split.more split.stored in
      let same : gate ∷ behind ≡ 1 ∷ (split.front ++ split.gate ∷ split.more) = ap (λ (g : ℕ). g ∷ behind) opened ∙ ap (λ (l : List ℕ). 1 ∷ l) split.is in
      let inv = with_body-inv (drop 8 split.front) (bodies_from header (number + 1) (at + (1 + length split.front)) 0 (split.gate ∷ split.more)) (body ∷ bodies) (sym read ∙ ap (bodies_from header number at 0) (sym same) ∙ e) in
      let rest_is : inv.0 ≡ bodies = cc (inv.2) in
      let first_is : body ≡ drop 8 split.front = cc (inv.2) in
      record { split = split; gate_is = opened; body_is = first_is; others = inv.1 ∙ ap (λ (l : List (List ℕ)). Ok l) rest_is }
]
  where
    not_both : (body : List ℕ) (bodies : List (List ℕ)) (read : Result (List (List ℕ)) StoreFault) → read ≡ Ok [] → read ≡ Ok (body ∷ bodies) → ⊥
    not_both body bodies read none some = cc

-- ---- how long records are

abbrev AreSized : Header → List (List ℕ) → Type 0
AreSized header [] = ⊤
AreSized header (body ∷ bodies) = (length body ≡ body_size header (entry_count body)) × AreSized header bodies

long_behind : (front : List ℕ) (n : ℕ) → length front ≡ 8 + n → length (drop 8 front) ≡ n
long_behind front n is = omega (arith, length-drop 8 front)

body_sized : (header : Header) (number : ℕ) (front body : List ℕ) → body ≡ drop 8 front → IsStored header number front → length body ≡ body_size header (entry_count body)
body_sized header number front body is stored =
    ap (length {A = ℕ}) is ∙ long_behind front (length_in front) stored.size ∙ stored.own
    ∙ ap (body_size header) (sym (field-behind 8 4 4 front) ∙ sym (ap entry_count is))

sized : (bodies : List (List ℕ)) (header : Header) (number at : ℕ) (bytes : List ℕ) → bodies_from header number at 0 bytes ≡ Ok bodies → AreSized header bodies
sized [] header number at bytes e = tt
sized (body ∷ bodies) header number at [] e = absurd (cc)
sized (body ∷ bodies) header number at (gate ∷ behind) e =
    let one : IsFirst header number at gate behind body bodies = first_of_all header number at gate behind body bodies e in
    (body_sized header number one.split.front body one.body_is one.split.stored, sized bodies header (number + 1) (at + (1 + length one.split.front)) (one.split.gate ∷ one.split.more) one.others)

summed : (apart n rest one more size : ℕ) → size ≡ apart + 16 * one → rest ≡ n * (9 + apart) + 16 * more → 9 + size + rest ≡ suc n * (9 + apart) + 16 * (one + more)
summed apart n rest one more size is so =
    let step : suc n * (9 + apart) ≡ n * (9 + apart) + (9 + apart) = suc-mul n (9 + apart) in
    omega arith

parts : (header : Header) (entries : ℕ) → body_size header entries ≡ body_size header 0 + 16 * entries
parts header entries = omega arith

total : (header : Header) (bodies : List (List ℕ)) → AreSized header bodies → records_size bodies ≡ length bodies * (9 + body_size header 0) + 16 * counted bodies
total header [] all = none_at_all (body_size header 0)
  where
    none_at_all : (apart : ℕ) → 0 ≡ 0 * (9 + apart) + 0
    none_at_all apart = let none : 0 * (9 + apart) ≡ 0 = zero-mul (9 + apart) in omega arith
total header (body ∷ bodies) all =
    summed (body_size header 0) (length bodies) (records_size bodies) (entry_count body) (counted bodies) (length body) (all.0 ∙ parts header (entry_count body)) (total header bodies all.1)

sixteenth : (gate size apart n : ℕ) → gate ≡ 64 + size → size ≡ apart + 16 * n → (gate - (64 + apart)) / 16 ≡ n
sixteenth gate size apart n is so = omega arith

-- a store with its gate there has so many entries
pub entries_by_length : (header : Header) (bodies : List (List ℕ)) (bytes : List ℕ) (count gate : ℕ) → DecodesTo header bodies bytes → count ≡ length bodies → gate ≡ 64 + records_size bodies →
    (gate - (64 + count * (9 + body_size header 0))) / 16 ≡ length (stored_order bodies)
entries_by_length header bodies bytes count gate stands counts place =
    let read = refused_not (store_header_fault header (take 64 bytes)) (bodies_from header 1 64 0 (drop 64 bytes)) bodies stands in
    ap (λ (n : ℕ). (gate - (64 + n * (9 + body_size header 0))) / 16) counts
    ∙ sixteenth gate (records_size bodies) (length bodies * (9 + body_size header 0)) (counted bodies) place (total header bodies (sized bodies header 1 64 (drop 64 bytes) read.1))
    ∙ none_before (counted bodies)
    ∙ sym (order_long bodies [])
  where
    none_before : (n : ℕ) → n ≡ 0 + n
    none_before n = omega arith
