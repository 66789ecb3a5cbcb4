-- The index of a cut has its form.
use Rattle.std.proofs.Common.{◌≡◌, ℕ, zero, suc, ◌+◌, ◌-◌, ◌*◌, ◌^◌, ◌<◌, ◌≤◌, Bool, true, false, cond, eqb, List, [], ◌∷◌, ◌++◌, length, slice_index, None, subst, refl, sym, ap, ◌∙◌, arith, append_assoc, length-append, codes}
use Rattle.std.specs.List.{flat_map, range_with_len}
use Rattle.std.specs.Option.{option_or}
use Rattle.std.proofs.Math.Seq.{drop-append-add}
use Rattle.std.proofs.lemmas.Bool.{eq-eqb, le-ltb}
use Rattle.std.proofs.lemmas.List.{append-nil}
use Rattle.byteorder.specs.Endian.{big_number, big_bytes}
use Rattle.byteorder.specs.Numbers.{big_number-reads_back}
use Rattle.sha2.specs.Sha256.{sha256}
use Rattle.sha2.proofs.Facts256.{length-sha256}
use Rattle.graph_core.specs.DataGraph.{DataGraph}
use Rattle.graph_core.specs.Digest.{digest_bytes}
use Rattle.graph_atoms.specs.atom_file.Atoms.{Atom}
use Rattle.graph_atoms.specs.atom_file.Fields.{field}
use Rattle.graph_atoms.specs.declared.atom_cut.metas.MetaEdge.{MetaEdge}
use Rattle.graph_atoms.specs.atom_cut.Atoms.{graph_atom}
use Rattle.graph_atoms.specs.atom_cut.MetaEdges.{meta_edge, metas_behind, meta_edges, edges_between}
use Rattle.graph_atoms.specs.atom_cut.Index.{head_bytes, count_bytes, meta_bytes, metas_bytes, index_bytes}
use Rattle.graph_atoms.proofs.atom_cut.IndexLemmas.{metas_few}
use Rattle.graph_atoms.specs.atom_gather.IndexForm.{atoms_in, head_fault, metas_fault, index_fault}

-- the pair of atoms of a meta-edge, as one number
abbrev pub pair_key : MetaEdge → ℕ
pair_key e = e.a.0 * 65536 + e.b.0

-- the pairs rise, from this one on, and their atoms are numbers of two bytes
abbrev pub PairsRise : ℕ → List MetaEdge → Type 0
PairsRise least [] = Unit {0}
PairsRise least (e ∷ es) = (e.a.0 < 65536) × (e.b.0 < 65536) × (least ≤ pair_key e) × PairsRise (pair_key e + 1) es

rise_from_less : (less least : ℕ) (es : List MetaEdge) → less ≤ least → PairsRise least es → PairsRise less es
rise_from_less less least [] low h = tt
rise_from_less less least (e ∷ es) low h = (h.0, h.1, omega (arith, h.2, low), h.3)

behind_rise : (count : ℕ → ℕ → ℕ) (a n b : ℕ) (rest : List MetaEdge) → a < 65536 → b + n ≤ 65536 → PairsRise ((a + 1) * 65536) rest → PairsRise (a * 65536 + b) (flat_map (meta_edge count a) (range_with_len b n) ++ rest)
behind_rise count a zero b rest few_a few h = rise_from_less (a * 65536 + b) ((a + 1) * 65536) rest (omega (arith, few)) h
behind_rise count a (suc n) b rest few_a few h =
    let more = behind_rise count a n (b + 1) rest few_a (omega (arith, few)) h in
    subst (PairsRise (a * 65536 + b)) (sym (append_assoc (meta_edge count a b) (flat_map (meta_edge count a) (range_with_len (b + 1) n)) rest)) (go (eqb (count a b) 0) more)
  where
    go : (none : Bool) → PairsRise (a * 65536 + (b + 1)) (flat_map (meta_edge count a) (range_with_len (b + 1) n) ++ rest)
        → PairsRise (a * 65536 + b) (cond none [] (record { a = record { 0 = a }; b = record { 0 = b }; count = count a b } ∷ []) ++ (flat_map (meta_edge count a) (range_with_len (b + 1) n) ++ rest))
    go true more = rise_from_less (a * 65536 + b) (a * 65536 + (b + 1)) (flat_map (meta_edge count a) (range_with_len (b + 1) n) ++ rest) (omega arith) more
    go false more = (
      few_a,
      omega (arith, few),
      omega arith,
      rise_from_less (a * 65536 + b + 1) (a * 65536 + (b + 1)) (flat_map (meta_edge count a) (range_with_len (b + 1) n) ++ rest) (omega arith) more,
    )

pub among_rise : (count : ℕ → ℕ → ℕ) (atoms n s : ℕ) → s + n ≤ atoms → atoms ≤ 1024 → PairsRise (s * 65536) (flat_map (λ a. metas_behind count a (atoms - (a + 1))) (range_with_len s n))
among_rise count atoms zero s within few = tt
among_rise count atoms (suc n) s within few =
    let rest = flat_map (λ a. metas_behind count a (atoms - (a + 1))) (range_with_len (s + 1) n) in
    rise_from_less (s * 65536) (s * 65536 + (s + 1)) (metas_behind count s (atoms - (s + 1)) ++ rest) (omega arith)
    (behind_rise count s (atoms - (s + 1)) (s + 1) rest (omega (arith, within, few)) (omega (arith, within, few)) (among_rise count atoms n (s + 1) (omega (arith, within)) few))

-- a field behind a front
pub field_behind : (front rest : List ℕ) (i n at : ℕ) → length front + i ≡ at → field (front ++ rest) at n ≡ field rest i n
field_behind front rest i n at is =
    ap (λ (place : ℕ). field (front ++ rest) place n) (sym is) ∙ ap (big_number n) (drop-append-add front rest i)

-- four bytes tell both atoms of a pair
two_halves : (x y z w a b : ℕ) → x * 256 + y ≡ a → z * 256 + w ≡ b → x * 16777216 + (y * 65536 + (z * 256 + w)) ≡ a * 65536 + b
two_halves x y z w a b high low = omega (arith, high, low)

-- meta-edges whose pairs rise have no fault
pub metas_written : (es : List MetaEdge) (bytes front : List ℕ) (least : ℕ) → ((e : MetaEdge) (rest : List ℕ) → e.a.0 < 65536 → e.b.0 < 65536 → field (meta_bytes e ++ rest) 0 4 ≡ pair_key e) → PairsRise least es → bytes ≡ front ++ flat_map meta_bytes es → metas_fault bytes (length es) least (length front) ≡ None
metas_written [] bytes front least key rises is =
    let all : length bytes ≡ length front = ap length is ∙ ap length (append-nil front) in
    rw (le-ltb (length front) (length bytes) (omega (arith, all))) refl
metas_written (e ∷ es) bytes front least key rises is =
    let after = flat_map meta_bytes es in
    let none : length front + 0 ≡ length front = omega arith in
    let pair : field bytes (length front) 4 ≡ pair_key e =
    ap (λ (bs : List ℕ). field bs (length front) 4) is ∙ field_behind front (meta_bytes e ++ after) 0 4 (length front) none ∙ key e after rises.0 rises.1 in
    let size : length (meta_bytes e) ≡ 8 = refl in
    let within : length front + 8 ≤ length bytes = omega (arith, ap length is, length-append front (meta_bytes e ++ after), length-append (meta_bytes e) after, size) in
    let place : length front + 8 ≡ length (front ++ meta_bytes e) = omega (arith, length-append front (meta_bytes e), size) in
    let later = metas_written es bytes (front ++ meta_bytes e) (pair_key e + 1) key rises.3 (is ∙ sym (append_assoc front (meta_bytes e) after)) in
    rw (le-ltb (length bytes) (length front + 8) within, le-ltb (field bytes (length front) 4) least (omega (arith, pair, rises.2)))
    (ap (λ (k : ℕ). metas_fault bytes (length es) (k + 1) (length front + 8)) pair ∙ ap (metas_fault bytes (length es) (pair_key e + 1)) place ∙ later)

-- the head of an index has no fault where its fields have their values
pub head_fine : (bytes : List ℕ) (k : ℕ) → 52 + 12 * k ≤ length bytes → field bytes 0 8 ≡ 5137553027876406360 → field bytes 8 4 ≡ 1 → field bytes 44 1 ≤ 1 → field bytes 45 1 ≡ 0 → field bytes 46 2 ≡ k → 1 ≤ k → k ≤ 1024 → head_fault bytes ≡ None
head_fine bytes k within word version low zero_is count some few =
    rw (
      le-ltb (length bytes) 8 (omega (arith, within)),
      le-ltb (length bytes) 12 (omega (arith, within)),
      le-ltb (length bytes) 45 (omega (arith, within)),
      le-ltb (length bytes) 46 (omega (arith, within)),
      le-ltb (length bytes) 48 (omega (arith, within)),
      eq-eqb (field bytes 0 8) 5137553027876406360 word,
      eq-eqb (field bytes 8 4) 1 version,
      le-ltb (field bytes 44 1) 0 (omega arith),
      le-ltb 1 (field bytes 44 1) low,
      eq-eqb (field bytes 45 1) 0 zero_is,
      le-ltb (field bytes 46 2) 1 (omega (arith, count, some)),
      le-ltb 1024 (field bytes 46 2) (omega (arith, count, few)),
      le-ltb (length bytes) (52 + 12 * field bytes 46 2) (omega (arith, within, count)),
    )
    refl

four_bytes : (x y z w a b : ℕ) → x * 256 + (y * 1 + 0) ≡ a → z * 256 + (w * 1 + 0) ≡ b → x * 16777216 + (y * 65536 + (z * 256 + (w * 1 + 0))) ≡ a * 65536 + b
four_bytes x y z w a b high low = omega (arith, high, low)

-- the pair of a meta-edge is read as it was written
pair_read : (e : MetaEdge) (rest : List ℕ) → e.a.0 < 65536 → e.b.0 < 65536 → field (meta_bytes e ++ rest) 0 4 ≡ pair_key e
pair_read e rest few_a few_b =
    four_bytes (slice_index (big_bytes 2 e.a.0) 0) (slice_index (big_bytes 2 e.a.0) 1) (slice_index (big_bytes 2 e.b.0) 0) (slice_index (big_bytes 2 e.b.0) 1) e.a.0 e.b.0
    (big_number-reads_back 2 e.a.0 [] few_a) (big_number-reads_back 2 e.b.0 [] few_b)

-- each atom has counts of twelve bytes
length-counts : (f : ℕ → Atom) (s n : ℕ) → length (flat_map (λ a. count_bytes (f a)) (range_with_len s n)) ≡ 12 * n
length-counts f s zero = refl
length-counts f s (suc n) =
    let size : length (count_bytes (f s)) ≡ 12 = refl in
    omega (arith, length-append (count_bytes (f s)) (flat_map (λ a. count_bytes (f a)) (range_with_len (s + 1) n)), size, length-counts f (s + 1) n)

-- the direction, the zero, and the number of atoms
abbrev tail_of : Bool → ℕ → List ℕ
tail_of directed k = cond directed 1 0 ∷ 0 ∷ big_bytes 2 k

directed_low : (directed : Bool) (k : ℕ) (rest : List ℕ) → field (tail_of directed k ++ rest) 0 1 ≤ 1
directed_low true k rest = omega arith
directed_low false k rest = omega arith

module _ (digest : List ℕ) (directed : Bool) (k : ℕ) (counts : List ℕ) (metas : List MetaEdge) (bytes : List ℕ)
    (len : length digest ≡ 32) (some : 1 ≤ k) (few : k ≤ 1024) (len_counts : length counts ≡ 12 * k) (few_metas : length metas < 2 ^ 32) (rise : PairsRise 0 metas)
    (is : bytes ≡ head_bytes digest directed k ++ counts ++ metas_bytes metas) where
  abbrev front : List ℕ
  front = codes "GLABINDX" ++ big_bytes 4 1 ++ digest

  length-front : length front ≡ 44
  length-front =
      let twelve : length (codes "GLABINDX" ++ big_bytes 4 1) ≡ 12 = refl in
      omega (arith, length-append (codes "GLABINDX" ++ big_bytes 4 1) digest, twelve, len)

  abbrev behind_tail : List ℕ
  behind_tail = counts ++ metas_bytes metas

  split : bytes ≡ front ++ (tail_of directed k ++ behind_tail)
  split = is ∙ append_assoc (front ++ tail_of directed k) counts (metas_bytes metas) ∙ append_assoc front (tail_of directed k) behind_tail

  in_tail : (i n at : ℕ) → 44 + i ≡ at → field bytes at n ≡ field (tail_of directed k ++ behind_tail) i n
  in_tail i n at place =
      ap (λ (bs : List ℕ). field bs at n) split ∙ field_behind front (tail_of directed k ++ behind_tail) i n at (omega (arith, length-front, place))

  length-bytes : length bytes ≡ 52 + 12 * k + length (flat_map meta_bytes metas)
  length-bytes =
      let four : length (tail_of directed k) ≡ 4 = refl in
      let size : length (big_bytes 4 (length metas)) ≡ 4 = refl in
      omega (arith, ap length split, length-append front (tail_of directed k ++ behind_tail), length-append (tail_of directed k) behind_tail, length-append counts (metas_bytes metas), length-append (big_bytes 4 (length metas)) (flat_map meta_bytes metas), length-front, four, size, len_counts)

  pub count_of_atoms : atoms_in bytes ≡ k
  count_of_atoms = in_tail 2 2 46 refl ∙ big_number-reads_back 2 k behind_tail (omega (arith, few))

  head_none : head_fault bytes ≡ None
  head_none =
      head_fine bytes k (omega (arith, length-bytes)) (ap (λ (bs : List ℕ). field bs 0 8) split) (ap (λ (bs : List ℕ). field bs 8 4) split)
      (omega (arith, in_tail 0 1 44 refl, directed_low directed k behind_tail)) (in_tail 1 1 45 refl) count_of_atoms some few

  abbrev front_counts : List ℕ
  front_counts = head_bytes digest directed k ++ counts

  length-front_counts : length front_counts ≡ 48 + 12 * k
  length-front_counts =
      let four : length (tail_of directed k) ≡ 4 = refl in
      omega (arith, length-append (head_bytes digest directed k) counts, length-append front (tail_of directed k), length-front, four, len_counts)

  count_of_metas : field bytes (48 + 12 * atoms_in bytes) 4 ≡ length metas
  count_of_metas =
      let none : length front_counts + 0 ≡ 48 + 12 * k = omega (arith, length-front_counts) in
      ap (λ (n : ℕ). field bytes (48 + 12 * n) 4) count_of_atoms
      ∙ ap (λ (bs : List ℕ). field bs (48 + 12 * k) 4) is ∙ field_behind front_counts (metas_bytes metas) 0 4 (48 + 12 * k) none
      ∙ big_number-reads_back 4 (length metas) (flat_map meta_bytes metas) few_metas

  pub index_fine : index_fault bytes ≡ None
  index_fine =
      let before = front_counts ++ big_bytes 4 (length metas) in
      let size : length (big_bytes 4 (length metas)) ≡ 4 = refl in
      let place : 52 + 12 * k ≡ length before = omega (arith, length-append front_counts (big_bytes 4 (length metas)), length-front_counts, size) in
      let none = metas_written metas bytes before 0 pair_read rise (is ∙ sym (append_assoc front_counts (big_bytes 4 (length metas)) (flat_map meta_bytes metas))) in
      ap (λ o. option_or o (metas_fault bytes (field bytes (48 + 12 * atoms_in bytes) 4) 0 (52 + 12 * atoms_in bytes))) head_none
      ∙ ap (λ (n : ℕ). metas_fault bytes n 0 (52 + 12 * atoms_in bytes)) count_of_metas
      ∙ ap (λ (n : ℕ). metas_fault bytes (length metas) 0 (52 + 12 * n)) count_of_atoms
      ∙ ap (metas_fault bytes (length metas) 0) place ∙ none

-- the index of a cut has no fault of form, and tells how many atoms there are
pub index_taken : (g : DataGraph) (of : List ℕ) (k : ℕ) → 1 ≤ k → k ≤ 1024 → (index_fault (index_bytes g of k) ≡ None) × (atoms_in (index_bytes g of k) ≡ k)
index_taken g of k some few =
    let digest = sha256 (digest_bytes g) in
    let counts = flat_map (λ a. count_bytes (graph_atom g of a)) (range_with_len 0 k) in
    let metas = meta_edges g of k in
    let bytes = index_bytes g of k in
    let len = length-sha256 (digest_bytes g) in
    let len_counts = length-counts (graph_atom g of) 0 k in
    let few_metas = metas_few (edges_between g of (length g.edges)) k few in
    let rise = among_rise (edges_between g of (length g.edges)) k k 0 (omega arith) few in (
      index_fine digest g.directed k counts metas bytes len some few len_counts few_metas rise refl,
      count_of_atoms digest g.directed k counts metas bytes len some few len_counts few_metas rise refl,
    )
