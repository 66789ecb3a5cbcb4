-- How the records of a store are read: what stands behind the last gate makes no difference to those before it.
use Rattle.std.proofs.Common.{◌≡◌, ◌≢◌, inl, inr, ℕ, zero, suc, ◌+◌, ◌-◌, ◌≤◌, ◌==◌, if◌then◌else◌, Bool, true, false, List, [], ◌∷◌, ◌++◌, length, take, drop, Option, None, Some, Result, Ok, Err, refl, sym, ap, ◌∙◌, arith, length-append, length-take, length-drop}
use Rattle.std.specs.Prelude.{nat_lt}
use Rattle.std.proofs.lemmas.Bool.{cases_eq, ne_eqb, eq-eqb, le-ltb, ltb-false, eqb-true}
use Rattle.std.proofs.lemmas.List.{append_assoc, take_all, take-append-le, take-append-drop, drop-append-le}
use Rattle.byteorder.specs.Numbers.{big_from-append, big_from-take}
use Rattle.store.specs.declared.store_format.header.Header.{Header}
use Rattle.store.specs.declared.store_format.faults.StoreFault.{StoreFault}
use Rattle.store.specs.declared.store_format.faults.StoreFault.TheVariants.{Torn, BadByte}
use Rattle.store.specs.store_format.Fields.{field}
use Rattle.store.specs.store_format.Bodies.{body_size, body_fault}
use Rattle.store.specs.store_format.Records.{length_in, body_in, bad_byte, stored_fault, with_body, unless_bad, bodies_from}
use Rattle.store.specs.store_format.Stores.{records_size}

-- the next gate further on
pub bodies_from-skip : (header : Header) (number at skip : ℕ) (bytes : List ℕ) → skip ≤ length bytes → bodies_from header number at skip bytes ≡ bodies_from header number (at + skip) 0 (drop skip bytes)
bodies_from-skip header number at zero bytes fits =
    let same : at ≡ at + 0 = omega arith in
    ap (λ (a : ℕ). bodies_from header number a 0 bytes) same
bodies_from-skip header number at (suc skip) [] fits = absurd (omega arith)
bodies_from-skip header number at (suc skip) (byte ∷ bytes) fits =
    let same : at + 1 + skip ≡ at + suc skip = omega arith in
    bodies_from-skip header number (at + 1) skip bytes (omega arith)
    ∙ ap (λ (a : ℕ). bodies_from header number a 0 (drop skip bytes)) same

-- a record without the gates around it: its length and its body
pub record IsStored (header : Header) (number : ℕ) (front : List ℕ) : Type 0 where
  pub size : length front ≡ 8 + length_in front
  pub long : 16 ≤ length front
  pub own : length_in front ≡ body_size header (field front 12 4)
  pub fields : body_fault header number (drop 8 front) ≡ None

field-append : (n : ℕ) (front rest : List ℕ) (at : ℕ) → at + n ≤ length front → field (front ++ rest) at n ≡ field front at n
field-append n front rest at fits =
    ap (λ (l : List ℕ). field l 0 n) (drop-append-le at front rest (omega arith))
    ∙ big_from-append n (drop at front) rest (omega (arith, length-drop at front))

-- it has no fault, whatever gate and bytes follow it
pub stored_fault-none : (header : Header) (number at : ℕ) (front : List ℕ) (gate : ℕ) (more : List ℕ) → IsStored header number front → stored_fault header number at (front ++ gate ∷ more) ≡ None
stored_fault-none header number at front gate more is =
    let behind = front ++ gate ∷ more in
    let long = is.long in
    let size = is.size in
    let whole : length behind ≡ length front + suc (length more) = length-append front (gate ∷ more) in
    let len : length_in behind ≡ length_in front = field-append 8 front (gate ∷ more) 0 (omega arith) in
    let count : field behind 12 4 ≡ field front 12 4 = field-append 4 front (gate ∷ more) 12 (omega arith) in
    let own : length_in behind ≡ body_size header (field behind 12 4) = len ∙ is.own ∙ ap (body_size header) (sym count) in
    let body : body_in behind ≡ drop 8 front =
    ap (λ (n : ℕ). take n (drop 8 behind)) len
    ∙ ap (take (length_in front)) (drop-append-le 8 front (gate ∷ more) (omega arith))
    ∙ take-append-le (length_in front) (drop 8 front) (gate ∷ more) (omega (arith, length-drop 8 front))
    ∙ take_all (length_in front) (drop 8 front) (omega (arith, length-drop 8 front)) in
    rw (le-ltb (length behind) 16 (omega arith), eq-eqb (length_in behind) (body_size header (field behind 12 4)) own, le-ltb (length behind) (9 + length_in behind) (omega (arith, len)))
    (ap (λ (b : List ℕ). bad_byte (at + 8) (body_fault header number b)) body ∙ ap (bad_byte (at + 8)) is.fields)

body_of_front : (front : List ℕ) (gate : ℕ) (more : List ℕ) → length front ≡ 8 + length_in front → length_in (front ++ gate ∷ more) ≡ length_in front → body_in (front ++ gate ∷ more) ≡ drop 8 front
body_of_front front gate more size len =
    ap (λ (n : ℕ). take n (drop 8 (front ++ gate ∷ more))) len
    ∙ ap (take (length_in front)) (drop-append-le 8 front (gate ∷ more) (omega arith))
    ∙ take-append-le (length_in front) (drop 8 front) (gate ∷ more) (omega (arith, length-drop 8 front))
    ∙ take_all (length_in front) (drop 8 front) (omega (arith, length-drop 8 front))

-- a record behind an open gate is read, and then what stands at the next gate
pub bodies_from-record : (header : Header) (number at : ℕ) (front : List ℕ) (gate : ℕ) (more : List ℕ) → IsStored header number front
    → bodies_from header number at 0 (1 ∷ (front ++ gate ∷ more)) ≡ with_body (drop 8 front) (bodies_from header (number + 1) (at + (1 + length front)) 0 (gate ∷ more))
bodies_from-record header number at front gate more is =
    let behind = front ++ gate ∷ more in
    let long = is.long in
    let size = is.size in
    let whole : length behind ≡ length front + suc (length more) = length-append front (gate ∷ more) in
    let len : length_in behind ≡ length_in front = field-append 8 front (gate ∷ more) 0 (omega arith) in
    let none = stored_fault-none header number (at + 1) front gate more is in
    let body = body_of_front front gate more size len in
    let skip : 8 + length_in behind ≡ length front = omega (arith, len) in
    let place : at + 1 + length front ≡ at + (1 + length front) = omega arith in
    let rest : drop (length front) behind ≡ gate ∷ more = drop-append-le (length front) front (gate ∷ more) (omega arith) ∙ ap (λ (l : List ℕ). l ++ gate ∷ more) (drop_end front) in
    ap (λ (o : Option StoreFault). unless_bad o (body_in behind) (bodies_from header (number + 1) (at + 1) (8 + length_in behind) behind)) none
    ∙ ap (λ (b : List ℕ). with_body b (bodies_from header (number + 1) (at + 1) (8 + length_in behind) behind)) body
    ∙ ap (λ (k : ℕ). with_body (drop 8 front) (bodies_from header (number + 1) (at + 1) k behind)) skip
    ∙ ap (with_body (drop 8 front)) (bodies_from-skip header (number + 1) (at + 1) (length front) behind (omega arith))
    ∙ ap (λ (a : ℕ). with_body (drop 8 front) (bodies_from header (number + 1) a 0 (drop (length front) behind))) place
    ∙ ap (λ (l : List ℕ). with_body (drop 8 front) (bodies_from header (number + 1) (at + (1 + length front)) 0 l)) rest
  where
    drop_end : (xs : List ℕ) → drop (length xs) xs ≡ []
    drop_end [] = refl
    drop_end (x ∷ xs) = drop_end xs

-- where a chain of tests finds no fault, each of them passed
passed : (short own torn : Bool) (a b c : StoreFault) (inner : Option StoreFault) → (if short then Some a else if own then (if torn then Some b else inner) else Some c) ≡ None
    → (short ≡ false) × (own ≡ true) × (torn ≡ false) × (inner ≡ None)
passed true own torn a b c inner e = absurd (cc)
passed false false torn a b c inner e = absurd (cc)
passed false true true a b c inner e = absurd (cc)
passed false true false a b c inner e = (refl, refl, refl, e)

none_inside : (at : ℕ) (fault : Option ℕ) → bad_byte at fault ≡ None → fault ≡ None
none_inside at None e = refl
none_inside at (Some place) e = absurd (cc)

-- bytes behind an open gate without a fault are a record, a gate and what follows
pub record IsSplit (header : Header) (number : ℕ) (behind : List ℕ) : Type 0 where
  pub front : List ℕ
  pub gate : ℕ
  pub more : List ℕ
  pub is : behind ≡ front ++ gate ∷ more
  pub stored : IsStored header number front
  pub body : body_in behind ≡ drop 8 front

pub split_record : (header : Header) (number at : ℕ) (behind : List ℕ) → stored_fault header number at behind ≡ None → IsSplit header number behind
split_record header number at behind none =
    let tests = passed (nat_lt (length behind) 16) (length_in behind == body_size header (field behind 12 4)) (nat_lt (length behind) (9 + length_in behind)) (Torn (at + length behind)) (Torn (at + length behind)) (BadByte at) (bad_byte (at + 8) (body_fault header number (body_in behind))) none in
    let long : 16 ≤ length behind = ltb-false (length behind) 16 tests.0 in
    let own : length_in behind ≡ body_size header (field behind 12 4) = eqb-true (length_in behind) (body_size header (field behind 12 4)) tests.1 in
    let fits : 9 + length_in behind ≤ length behind = ltb-false (length behind) (9 + length_in behind) tests.2 in
    let fields = none_inside (at + 8) (body_fault header number (body_in behind)) tests.3 in
    let n : ℕ = 8 + length_in behind in
    let front = take n behind in
    let whole = sym (take-append-drop n behind) in
    let size : length front ≡ n = omega (arith, length-take n behind) in
    let some : 1 ≤ length (drop n behind) = omega (arith, length-drop n behind) in
    let least : 16 ≤ n = omega (arith, own) in
    let len : length_in front ≡ length_in behind = big_from-take 0 8 n behind (omega arith) in
    let count : field front 12 4 ≡ field behind 12 4 = sym (field-append 4 front (drop n behind) 12 (omega (arith, size, least))) ∙ ap (λ (l : List ℕ). field l 12 4) (sym whole) in
    let ends = head_of (drop n behind) some in
    let is : behind ≡ front ++ ends.0 ∷ ends.1 = whole ∙ ap (λ (l : List ℕ). front ++ l) ends.2 in
    let body : body_in behind ≡ drop 8 front = ap body_in is ∙ body_of_front front ends.0 ends.1 (omega (arith, size, len)) (ap length_in (sym is) ∙ sym len) in
    record {
      front = front;
      gate = ends.0;
      more = ends.1;
      is = is;
      stored = record {
        size = omega (arith, size, len);
        long = omega (arith, size, least);
        own = len ∙ own ∙ ap (body_size header) (sym count);
        fields = ap (body_fault header number) (sym body) ∙ fields;
      };
      body = body;
    }
  where
    head_of : (xs : List ℕ) → 1 ≤ length xs → (x : ℕ) × (rest : List ℕ) × (xs ≡ x ∷ rest)
    head_of [] some = absurd (omega arith)
    head_of (x ∷ xs) some = (x, xs, refl)

-- these bodies, and those behind them
abbrev pub prepend : List (List ℕ) → Result (List (List ℕ)) StoreFault → Result (List (List ℕ)) StoreFault
prepend [] more = more
prepend (body ∷ bodies) more = with_body body (prepend bodies more)

pub prepend-Ok : (bodies more : List (List ℕ)) → prepend bodies (Ok more) ≡ Ok (bodies ++ more)
prepend-Ok [] more = refl
prepend-Ok (body ∷ bodies) more = ap (with_body body) (prepend-Ok bodies more)

-- where bodies are read there is a first one
pub with_body-inv : (body : List ℕ) (more : Result (List (List ℕ)) StoreFault) (bodies : List (List ℕ)) → with_body body more ≡ Ok bodies → (rest : List (List ℕ)) × (more ≡ Ok rest) × (bodies ≡ body ∷ rest)
with_body-inv body (Ok rest) bodies e = (rest, refl, (cc))
with_body-inv body (Err fault) bodies e = absurd (cc)

unless_bad-inv : (fault : Option StoreFault) (body : List ℕ) (more : Result (List (List ℕ)) StoreFault) (bodies : List (List ℕ)) → unless_bad fault body more ≡ Ok bodies → (fault ≡ None) × (with_body body more ≡ Ok bodies)
unless_bad-inv None body more bodies e = (refl, e)
unless_bad-inv (Some fault) body more bodies e = absurd (cc)

-- Bytes that were read: records, and behind them a gate that isn't open. Whatever stands behind the records, they are read first.
pub record IsReadTo (header : Header) (number at : ℕ) (bytes : List ℕ) (bodies : List (List ℕ)) : Type 0 where
  pub front : List ℕ
  pub gate : ℕ
  pub more : List ℕ
  pub is : bytes ≡ front ++ gate ∷ more
  pub closed : gate ≢ 1
  pub size : length front ≡ records_size bodies
  pub any : (next : ℕ) (rest : List ℕ) → bodies_from header number at 0 (front ++ next ∷ rest) ≡ prepend bodies (bodies_from header (number + length bodies) (at + length front) 0 (next ∷ rest))

-- what stands behind a record, more than nothing
pub bodies_from-behind : (header : Header) (number at : ℕ) (front rest : List ℕ) → 1 ≤ length rest → IsStored header number front
    → bodies_from header number at 0 (1 ∷ (front ++ rest)) ≡ with_body (drop 8 front) (bodies_from header (number + 1) (at + (1 + length front)) 0 rest)
bodies_from-behind header number at front [] some is = absurd (omega arith)
bodies_from-behind header number at front (gate ∷ more) some is = bodies_from-record header number at front gate more is

-- a gate that isn't open ends the records
pub bodies_from-closed : (header : Header) (number at gate : ℕ) (behind : List ℕ) → gate ≢ 1 → bodies_from header number at 0 (gate ∷ behind) ≡ Ok []
bodies_from-closed header number at gate behind closed = rw (ne_eqb gate 1 closed) refl

-- a first record, and the others behind it
record IsFirst (header : Header) (number at gate : ℕ) (behind body : List ℕ) (bodies : List (List ℕ)) : Type 0 where
  pub split : IsSplit header number behind
  pub gate_is : gate ≡ 1
  pub body_is : body ≡ drop 8 split.front
  pub others : bodies_from header (number + 1) (at + (1 + length split.front)) 0 (split.gate ∷ split.more) ≡ Ok bodies

open_gate : (header : Header) (number at gate : ℕ) (behind : List ℕ) → gate ≡ 1 → bodies_from header number at 0 (gate ∷ behind)
    ≡ unless_bad (stored_fault header number (at + 1) behind) (body_in behind) (bodies_from header (number + 1) (at + 1) (8 + length_in behind) behind)
open_gate header number at gate behind opened = rw (eq-eqb gate 1 opened) refl

first_of_all : (header : Header) (number at gate : ℕ) (behind body : List ℕ) (bodies : List (List ℕ)) → bodies_from header number at 0 (gate ∷ behind) ≡ Ok (body ∷ bodies) → IsFirst header number at gate behind body bodies
first_of_all header number at gate behind body bodies e = elim (cases_eq gate 1) [
  | inr closed ↦ absurd (not_both body bodies (bodies_from header number at 0 (gate ∷ behind)) (bodies_from-closed header number at gate behind closed) e)
  | inl opened ↦
      let parts = unless_bad-inv (stored_fault header number (at + 1) behind) (body_in behind) (bodies_from header (number + 1) (at + 1) (8 + length_in behind) behind) (body ∷ bodies) (sym (open_gate header number at gate behind opened) ∙ e) in
      let split = split_record header number (at + 1) behind parts.0 in
      let read = bodies_from-record header number at split.front split.gate split.more split.stored in
      let same : gate ∷ behind ≡ 1 ∷ (split.front ++ split.gate ∷ split.more) = ap (λ (g : ℕ). g ∷ behind) opened ∙ ap (λ (l : List ℕ). 1 ∷ l) split.is in
      let inv = with_body-inv (drop 8 split.front) (bodies_from header (number + 1) (at + (1 + length split.front)) 0 (split.gate ∷ split.more)) (body ∷ bodies) (sym read ∙ ap (bodies_from header number at 0) (sym same) ∙ e) in
      let rest_is : inv.0 ≡ bodies = cc (inv.2) in
      let first_is : body ≡ drop 8 split.front = cc (inv.2) in
      record { split = split; gate_is = opened; body_is = first_is; others = inv.1 ∙ ap (λ (l : List (List ℕ)). Ok l) rest_is }
]
  where
    not_both : (body : List ℕ) (bodies : List (List ℕ)) (read : Result (List (List ℕ)) StoreFault) → read ≡ Ok [] → read ≡ Ok (body ∷ bodies) → ⊥
    not_both body bodies read none some = cc

first_none : (header : Header) (number at gate : ℕ) (behind : List ℕ) → bodies_from header number at 0 (gate ∷ behind) ≡ Ok [] → gate ≢ 1
first_none header number at gate behind e = λ opened.
    let parts = unless_bad-inv (stored_fault header number (at + 1) behind) (body_in behind) (bodies_from header (number + 1) (at + 1) (8 + length_in behind) behind) [] (sym (open_gate header number at gate behind opened) ∙ e) in
    let inv = with_body-inv (body_in behind) (bodies_from header (number + 1) (at + 1) (8 + length_in behind) behind) [] parts.1 in
    none inv.0 (body_in behind) inv.2
  where
    none : (rest : List (List ℕ)) (body : List ℕ) → [] ≡ body ∷ rest → ⊥
    none rest body h = cc

size_more : (front rest body : List ℕ) (bodies : List (List ℕ)) → 16 ≤ length front → body ≡ drop 8 front → length rest ≡ records_size bodies → length (1 ∷ (front ++ rest)) ≡ records_size (body ∷ bodies)
size_more front rest body bodies long is size =
    let more : records_size (body ∷ bodies) ≡ 9 + length body + records_size bodies = refl in
    let len : length body ≡ length front - 8 = ap (length {A = ℕ}) is ∙ length-drop 8 front in
    omega (arith, length-append front rest)

-- bytes that are read as bodies begin with their records, and a gate follows that isn't open
pub read_to : (header : Header) (number at : ℕ) (bytes : List ℕ) (bodies : List (List ℕ)) → bodies_from header number at 0 bytes ≡ Ok bodies → IsReadTo header number at bytes bodies
read_to header number at [] bodies e = absurd (cc)
read_to header number at (gate ∷ behind) [] e =
    record {
      front = [];
      gate = gate;
      more = behind;
      is = refl;
      closed = first_none header number at gate behind e;
      size = refl;
      any = λ next rest.
          let n : number ≡ number + 0 = omega arith in
          let a : at ≡ at + 0 = omega arith in
          ap (λ (k : ℕ). bodies_from header k at 0 (next ∷ rest)) n ∙ ap (λ (k : ℕ). bodies_from header (number + 0) k 0 (next ∷ rest)) a;
    }
read_to header number at (gate ∷ behind) (body ∷ bodies) e =
    let first = first_of_all header number at gate behind body bodies e in
    let split = first.split in
    let tail = read_to header (number + 1) (at + (1 + length split.front)) (split.gate ∷ split.more) bodies first.others in
    let front : List ℕ = 1 ∷ (split.front ++ tail.front) in
    let long = split.stored.long in
    let here = length-append split.front tail.front in
    record {
      front = front;
      gate = tail.gate;
      more = tail.more;
      is = ap (λ (g : ℕ). g ∷ behind) first.gate_is ∙ ap (λ (l : List ℕ). 1 ∷ l) (split.is ∙ ap (λ (l : List ℕ). split.front ++ l) tail.is ∙ sym (append_assoc split.front tail.front (tail.gate ∷ tail.more)));
      closed = tail.closed;
      size = size_more split.front tail.front body bodies long first.body_is tail.size;
      any = λ next rest.
          let n : number + 1 + length bodies ≡ number + suc (length bodies) = omega arith in
          let a : at + (1 + length split.front) + length tail.front ≡ at + length front = omega (arith, here) in
          ap (λ (l : List ℕ). bodies_from header number at 0 (1 ∷ l)) (append_assoc split.front tail.front (next ∷ rest))
          ∙ bodies_from-behind header number at split.front (tail.front ++ next ∷ rest) (omega (arith, length-append tail.front (next ∷ rest))) split.stored
          ∙ ap (λ (b : List ℕ). with_body b (bodies_from header (number + 1) (at + (1 + length split.front)) 0 (tail.front ++ next ∷ rest))) (sym first.body_is)
          ∙ ap (with_body body) (tail.any next rest)
          ∙ ap (λ (k : ℕ). with_body body (prepend bodies (bodies_from header k (at + (1 + length split.front) + length tail.front) 0 (next ∷ rest)))) n
          ∙ ap (λ (k : ℕ). with_body body (prepend bodies (bodies_from header (number + suc (length bodies)) k 0 (next ∷ rest)))) a;
    }
