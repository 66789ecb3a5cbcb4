-- A new store, and fields of the first bytes.
use Rattle.std.proofs.Common.{◌≡◌, ℕ, ◌+◌, ◌-◌, ◌≤◌, true, List, [], ◌∷◌, ◌++◌, length, take, drop, Option, None, refl, ap, ◌∙◌, arith}
use Rattle.std.specs.Option.{option_or}
use Rattle.std.specs.Str.{bytes_eq}
use Rattle.std.proofs.lemmas.Bool.{le-ltb, le-leb, eq-eqb}
use Rattle.std.proofs.lemmas.List.{drop-drop, drop-take, take_all, take-append-le, drop-append-le, drop_all}
use Rattle.std.proofs.lemmas.Slice.Eq.{bytes_eq-Decides}
use Rattle.byteorder.specs.Endian.{big_bytes}
use Rattle.byteorder.specs.Numbers.{big_from-take, big_number-reads_back}
use Rattle.store.specs.declared.store_format.header.Header.{Header}
use Rattle.store.specs.declared.store_format.faults.StoreFault.{StoreFault}
use Rattle.store.specs.store_format.Fields.{field}
use Rattle.store.specs.store_format.Headers.{store_word, store_header, field_fault, digest_in, machines_fault, other_graph, other_program, unformed_fault, other_fault, store_header_fault, IsAllowed, HeaderFits}
use Rattle.store.specs.store_format.Records.{bodies_from}
use Rattle.store.specs.store_format.Stores.{unless_refused, DecodesTo}

-- a field of the first bytes
pub field-take : (most at n : ℕ) (bytes : List ℕ) → at + n ≤ most → field (take most bytes) at n ≡ field bytes at n
field-take most at n bytes fits =
    let sum : most ≡ at + (most - at) = omega arith in
    ap (λ (k : ℕ). field (take k bytes) at n) sum
    ∙ ap (λ (l : List ℕ). field l 0 n) (drop-take at (most - at) bytes)
    ∙ big_from-take 0 n (most - at) (drop at bytes) (omega arith)

-- a field of what stands behind a place
pub field-behind : (at i n : ℕ) (bytes : List ℕ) → field (drop at bytes) i n ≡ field bytes (at + i) n
field-behind at i n bytes = ap (λ (l : List ℕ). field l 0 n) (drop-drop i at bytes)

field_fine : (bytes : List ℕ) (at n least most : ℕ) → at + n ≤ length bytes → least ≤ field bytes at n → field bytes at n ≤ most → field_fault bytes at n least most ≡ None
field_fine bytes at n least most whole low high = rw (le-ltb (length bytes) (at + n) whole, le-leb least (field bytes at n) low, le-leb (field bytes at n) most high) refl

or_none : (a b : Option StoreFault) → a ≡ None → b ≡ None → option_or a b ≡ None
or_none a b none_a none_b = ap (λ (o : Option StoreFault). option_or o b) none_a ∙ none_b

module _ (header : Header) (allowed : IsAllowed header) (fits : HeaderFits header) where
  abbrev bytes : List ℕ
  bytes = store_header header

  long : length bytes ≡ 64
  long = omega (arith, fits.digest)

  machines : field bytes 12 2 ≡ header.machines
  machines =
      let most = allowed.machines in
      big_number-reads_back 2 header.machines ((header.algorithm ∷ header.directed ∷ []) ++ (big_bytes 8 header.source ++ (big_bytes 4 header.n ++ (big_bytes 4 header.m ++ header.digest.0)))) (omega (arith, most))

  algorithm : field bytes 14 1 ≡ header.algorithm
  algorithm = omega arith

  directed : field bytes 15 1 ≡ header.directed
  directed = omega arith

  source : field bytes 16 8 ≡ header.source
  source = big_number-reads_back 8 header.source (big_bytes 4 header.n ++ (big_bytes 4 header.m ++ header.digest.0)) fits.source

  vertices : field bytes 24 4 ≡ header.n
  vertices = big_number-reads_back 4 header.n (big_bytes 4 header.m ++ header.digest.0) fits.n

  edges : field bytes 28 4 ≡ header.m
  edges = big_number-reads_back 4 header.m header.digest.0 fits.m

  digest : digest_in bytes ≡ header.digest.0
  digest = take_all 32 header.digest.0 (omega (arith, fits.digest))

  formed : unformed_fault bytes ≡ None
  formed =
      or_none (field_fault bytes 0 8 store_word store_word) _ (field_fine bytes 0 8 store_word store_word (omega (arith, long)) (omega arith) (omega arith))
      (or_none (field_fault bytes 8 4 1 1) _ (field_fine bytes 8 4 1 1 (omega (arith, long)) (omega arith) (omega arith))
      (or_none (field_fault bytes 12 2 1 16) _ (field_fine bytes 12 2 1 16 (omega (arith, long)) (omega (arith, machines, allowed.some)) (omega (arith, machines, allowed.machines)))
      (or_none (field_fault bytes 14 1 1 5) _ (field_fine bytes 14 1 1 5 (omega (arith, long)) (omega (arith, algorithm, allowed.known)) (omega (arith, algorithm, allowed.algorithm)))
      (or_none (field_fault bytes 15 1 0 1) _ (field_fine bytes 15 1 0 1 (omega (arith, long)) (omega arith) (omega (arith, directed, allowed.directed)))
      (rw (le-ltb (length bytes) 64 (omega (arith, long))) refl)))))

  same : other_fault header bytes ≡ None
  same =
      let equal : bytes_eq (digest_in bytes) header.digest.0 ≡ true = (bytes_eq-Decides (digest_in bytes) header.digest.0).1 digest in
      or_none (machines_fault header bytes) _ (rw (eq-eqb (field bytes 12 2) header.machines machines) refl)
      (or_none (other_graph header bytes) (other_program header bytes)
      (rw (equal, eq-eqb (field bytes 24 4) header.n vertices, eq-eqb (field bytes 28 4) header.m edges) refl)
      (rw (eq-eqb (field bytes 14 1) header.algorithm algorithm, eq-eqb (field bytes 15 1) header.directed directed, eq-eqb (field bytes 16 8) header.source source) refl))

  -- a new store stands for no snapshots
  pub new_stands : DecodesTo header [] (bytes ++ 0 ∷ [])
  new_stands =
      let front : take 64 (bytes ++ 0 ∷ []) ≡ bytes = take-append-le 64 bytes (0 ∷ []) (omega (arith, long)) ∙ take_all 64 bytes (omega (arith, long)) in
      let back : drop 64 (bytes ++ 0 ∷ []) ≡ 0 ∷ [] = drop-append-le 64 bytes (0 ∷ []) (omega (arith, long)) ∙ ap (λ (l : List ℕ). l ++ 0 ∷ []) (drop_all 64 bytes (omega (arith, long))) in
      ap (λ (l : List ℕ). unless_refused (store_header_fault header l) (bodies_from header 1 64 0 (drop 64 (bytes ++ 0 ∷ [])))) front
      ∙ ap (λ (o : Option StoreFault). unless_refused o (bodies_from header 1 64 0 (drop 64 (bytes ++ 0 ∷ [])))) (or_none (unformed_fault bytes) (other_fault header bytes) formed same)
      ∙ ap (bodies_from header 1 64 0) back
