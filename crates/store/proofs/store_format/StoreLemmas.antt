-- What a store begins with, whatever stands behind it.
use Rattle.std.proofs.Common.{◌≡◌, ◌≢◌, ℕ, ◌+◌, ◌^◌, ◌<◌, ◌≤◌, List, [], ◌∷◌, ◌++◌, length, take, drop, Option, None, Some, Result, Ok, Err, refl, sym, ap, ◌∙◌, arith, length-append, length-take, length-drop}
use Rattle.std.proofs.lemmas.List.{append_assoc, append-nil, take-append-drop, take-append-le, take_all, drop-append-le, drop_all}
use Rattle.std.specs.Result.{is_ok, result_unwrap_or}
use Rattle.std.specs.Prelude.{IsTrue}
use Rattle.byteorder.specs.Endian.{big_bytes}
use Rattle.byteorder.specs.Numbers.{big_number-reads_back, length-bytes_high_first}
use Rattle.store.specs.declared.store_format.header.Header.{Header}
use Rattle.store.specs.declared.store_format.faults.StoreFault.{StoreFault}
use Rattle.store.specs.store_format.Headers.{store_header_fault}
use Rattle.store.specs.store_format.Bodies.{IsBody}
use Rattle.store.specs.store_format.Records.{length_in, bodies_from, with_body, stored_bytes}
use Rattle.store.specs.store_format.Stores.{unless_refused, read_store, DecodesTo, stored_in, records_size}
use Rattle.store.proofs.store_format.ReadLemmas.{IsStored, bodies_from-record, bodies_from-closed, prepend, prepend-Ok, read_to}

pub refused_not : (fault : Option StoreFault) (records : Result (List (List ℕ)) StoreFault) (bodies : List (List ℕ)) → unless_refused fault records ≡ Ok bodies → (fault ≡ None) × (records ≡ Ok bodies)
refused_not None records bodies e = (refl, e)
refused_not (Some fault) records bodies e = absurd (cc)

-- these bytes are a header and so many records: whatever gate stands behind them, it is read from there on
pub record IsBase (header : Header) (bodies : List (List ℕ)) (base : List ℕ) : Type 0 where
  pub size : length base ≡ 64 + records_size bodies
  pub any : (next : ℕ) (rest : List ℕ) → read_store header (base ++ next ∷ rest) ≡ prepend bodies (bodies_from header (1 + length bodies) (length base) 0 (next ∷ rest))

-- a store that stands for snapshots is such bytes and a gate that isn't open
pub record IsBased (header : Header) (bodies : List (List ℕ)) (bytes : List ℕ) : Type 0 where
  pub base : List ℕ
  pub gate : ℕ
  pub more : List ℕ
  pub is : bytes ≡ base ++ gate ∷ more
  pub closed : gate ≢ 1
  pub is_base : IsBase header bodies base

pub based : (header : Header) (bodies : List (List ℕ)) (bytes : List ℕ) → DecodesTo header bodies bytes → IsBased header bodies bytes
based header bodies bytes stands =
    let parts = refused_not (store_header_fault header (take 64 bytes)) (bodies_from header 1 64 0 (drop 64 bytes)) bodies stands in
    let read = read_to header 1 64 (drop 64 bytes) bodies parts.1 in
    let head = take 64 bytes in
    let whole : 65 ≤ length bytes = omega (arith, ap (length {A = ℕ}) read.is, length-append read.front (read.gate ∷ read.more), length-drop 64 bytes) in
    let size : length head ≡ 64 = omega (arith, length-take 64 bytes) in
    let base = head ++ read.front in
    let long : length base ≡ 64 + length read.front = omega (arith, size, length-append head read.front) in
    record {
      base = base;
      gate = read.gate;
      more = read.more;
      is = sym (take-append-drop 64 bytes) ∙ ap (λ (l : List ℕ). head ++ l) read.is ∙ sym (append_assoc head read.front (read.gate ∷ read.more));
      closed = read.closed;
      is_base = record {
        size = omega (arith, long, read.size);
        any = λ next rest.
            let all = base ++ next ∷ rest in
            let again : all ≡ head ++ (read.front ++ next ∷ rest) = append_assoc head read.front (next ∷ rest) in
            let front : take 64 all ≡ head = ap (take 64) again ∙ take-append-le 64 head (read.front ++ next ∷ rest) (omega (arith, size)) ∙ take_all 64 head (omega (arith, size)) in
            let back : drop 64 all ≡ read.front ++ next ∷ rest = ap (drop 64) again ∙ drop-append-le 64 head (read.front ++ next ∷ rest) (omega (arith, size)) ∙ ap (λ (l : List ℕ). l ++ (read.front ++ next ∷ rest)) (drop_all 64 head (omega (arith, size))) in
            ap (λ (l : List ℕ). unless_refused (store_header_fault header l) (bodies_from header 1 64 0 (drop 64 all))) front
            ∙ ap (λ (o : Option StoreFault). unless_refused o (bodies_from header 1 64 0 (drop 64 all))) parts.0
            ∙ ap (bodies_from header 1 64 0) back
            ∙ read.any next rest
            ∙ ap (λ (a : ℕ). prepend bodies (bodies_from header (1 + length bodies) a 0 (next ∷ rest))) (sym long);
      };
    }

-- with a gate that isn't open it stands for these snapshots
pub stands_closed : (header : Header) (bodies : List (List ℕ)) (base : List ℕ) (gate : ℕ) (more : List ℕ) → IsBase header bodies base → gate ≢ 1 → DecodesTo header bodies (base ++ gate ∷ more)
stands_closed header bodies base gate more is closed =
    is.any gate more ∙ ap (prepend bodies) (bodies_from-closed header (1 + length bodies) (length base) gate more closed)
    ∙ prepend-Ok bodies [] ∙ ap (λ (l : List (List ℕ)). Ok l) (append-nil bodies)

-- with an open gate and a record behind it, for one more
pub stands_open : (header : Header) (bodies : List (List ℕ)) (base front : List ℕ) (gate : ℕ) (more : List ℕ) → IsBase header bodies base → IsStored header (1 + length bodies) front → gate ≢ 1 → DecodesTo header (bodies ++ drop 8 front ∷ []) (base ++ 1 ∷ (front ++ gate ∷ more))
stands_open header bodies base front gate more is stored closed =
    is.any 1 (front ++ gate ∷ more)
    ∙ ap (prepend bodies) (bodies_from-record header (1 + length bodies) (length base) front gate more stored ∙ ap (with_body (drop 8 front)) (bodies_from-closed header (1 + length bodies + 1) (length base + (1 + length front)) gate more closed))
    ∙ prepend-Ok bodies (drop 8 front ∷ [])

-- the snapshots that bytes without a fault stand for
pub stands_of : (header : Header) (bytes : List ℕ) → IsTrue (is_ok (read_store header bytes)) → DecodesTo header (stored_in header bytes) bytes
stands_of header bytes ok = ok_of (read_store header bytes) ok
  where
    ok_of : (read : Result (List (List ℕ)) StoreFault) → IsTrue (is_ok read) → read ≡ Ok (result_unwrap_or read [])
    ok_of (Ok bodies) ok = refl
    ok_of (Err fault) ok = absurd (cc)

pub stored_are : (header : Header) (bytes : List ℕ) (bodies : List (List ℕ)) → DecodesTo header bodies bytes → stored_in header bytes ≡ bodies
stored_are header bytes bodies stands = ap (λ (r : Result (List (List ℕ)) StoreFault). result_unwrap_or r []) stands

pub ok_from : (header : Header) (bytes : List ℕ) (bodies : List (List ℕ)) → DecodesTo header bodies bytes → IsTrue (is_ok (read_store header bytes))
ok_from header bytes bodies stands = ap (is_ok {T = List (List ℕ)} {E = StoreFault}) stands

-- the length and the body of a record
abbrev pub with_length : List ℕ → List ℕ
with_length body = big_bytes 8 (length body) ++ body

pub stored_bytes-split : (body : List ℕ) → stored_bytes body ≡ with_length body ++ 0 ∷ []
stored_bytes-split body = sym (append_assoc (big_bytes 8 (length body)) body (0 ∷ []))

pub length-stored_bytes : (body : List ℕ) → length (stored_bytes body) ≡ 9 + length body
length-stored_bytes body = omega (arith, length-append (big_bytes 8 (length body)) (body ++ 0 ∷ []), length-append body (0 ∷ []), length-bytes_high_first 8 (length body))

pub body_behind_length : (body : List ℕ) → drop 8 (with_length body) ≡ body
body_behind_length body = refl

-- a body in form is a record
pub stored_body : (header : Header) (number : ℕ) (body : List ℕ) → IsBody header number body → length body < 2 ^ 64 → IsStored header number (with_length body)
stored_body header number body is fits =
    let front = with_length body in
    let len : length_in front ≡ length body = big_number-reads_back 8 (length body) body fits in
    let whole : length front ≡ 8 + length body = omega (arith, length-append (big_bytes 8 (length body)) body, length-bytes_high_first 8 (length body)) in
    let size = is.size in
    record {
      size = omega (arith, whole, len);
      long = omega (arith, whole, size);
      own = len ∙ size;
      fields = is.fields;
    }
