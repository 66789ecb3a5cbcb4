-- The sections of a body have no fault, where each key stands once in them.
use Rattle.std.proofs.Common.{◌≡◌, ◌∙◌, ℕ, suc, ◌+◌, ◌-◌, ◌*◌, ◌^◌, ◌<◌, ◌≤◌, ◌==◌, if◌then◌else◌, Bool, List, [], ◌∷◌, ◌++◌, None, Option, length, length-append, drop, refl, sym, ap, ap₂, subst, ⊎_elim, arith, append_assoc}
use Rattle.std.specs.Prelude.{map}
use Rattle.std.specs.List.{AllByRecursion, flat_map}
use Rattle.std.specs.Option.{option_or}
use Rattle.std.proofs.lemmas.Bool.{cases_eq, eq-eqb, le-leb, lt-ltb, ne_eqb}
use Rattle.std.proofs.lemmas.List.{drop-drop}
use Rattle.std.proofs.Math.Seq.{drop-append_seam}
use Rattle.byteorder.specs.Endian.{big_bytes, big_number}
use Rattle.byteorder.specs.Numbers.{big_number-reads_back}
use Rattle.gl_base.specs.declared.snapshots.SavedPart.{SavedPart}
use Rattle.store.specs.declared.store_format.header.Header.{Header}
use Rattle.store.specs.store_format.Fields.{bad_outside, field}
use Rattle.store.specs.store_format.Encoding.{PartFits, section_bytes}
use Rattle.store.specs.store_format.ReadBack.{PairFits, edge_pair, part_edges, part_vertices, vertex_pair}
use Rattle.store.specs.store_format.Sections.{key_fault, keys_fault, keys_taken, row_end, row_fault, row_taken, sections_fault}
use Rattle.store.proofs.store_format.ReadBackLemmas.{pair_bytes, row_behind, row_bytes}
use Rattle.recovery.proofs.record_form.Times.{RiseFrom, not_found, times}

-- ---- what is left of a graph

-- These keys and those that stand before them are all keys below the limit, each once.
pub record AreAll (limit : ℕ) (keys taken : List ℕ) : Type 0 where
  pub low : AllByRecursion (λ k. k < limit) keys
  pub once : (k : ℕ) → k < limit → times k keys + times k taken ≡ 1
  pub long : length keys + length taken ≡ limit

moved : (one n m : ℕ) → (one + n) + m ≡ 1 → n + (one + m) ≡ 1
moved one n m is = omega arith

moved_long : (n m limit : ℕ) → suc n + m ≡ limit → n + suc m ≡ limit
moved_long n m limit is = omega arith

-- the next key is looked at
next_all : (limit key : ℕ) (keys taken : List ℕ) → AreAll limit (key ∷ keys) taken → AreAll limit keys (key ∷ taken)
next_all limit key keys taken all =
    record {
      low = all.low.1;
      once = λ k low. moved (if k == key then 1 else 0) (times k keys) (times k taken) (all.once k low);
      long = moved_long (length keys) (length taken) limit all.long;
    }

not_taken : (key : ℕ) (n m : ℕ) → (1 + n) + m ≡ 1 → m ≡ 0
not_taken key n m is = omega arith

-- it has no fault
key_fine : (limit key least place : ℕ) (keys taken : List ℕ) → AreAll limit (key ∷ keys) taken → least ≤ key → key_fault limit taken least key place ≡ None
key_fine limit key least place keys taken all up =
    let one : (1 + times key keys) + times key taken ≡ 1 = ap (λ (b : Bool). ((if b then 1 else 0) + times key keys) + times key taken) (sym (eq-eqb key key refl)) ∙ all.once key all.low.0 in
    rw (le-leb least key up, lt-ltb key limit all.low.0, not_found key taken (not_taken key (times key keys) (times key taken) one)) refl

-- ---- a row

field_here : (bytes more : List ℕ) (at : ℕ) → drop at bytes ≡ more → field bytes at 4 ≡ field more 0 4
field_here bytes more at here = ap (big_number 4) here

behind_piece : (bytes piece more : List ℕ) (at size : ℕ) → length piece ≡ size → drop at bytes ≡ piece ++ more → drop (at + size) bytes ≡ more
behind_piece bytes piece more at size long here =
    sym (drop-drop size at bytes) ∙ ap (drop size) here ∙ ap (λ (k : ℕ). drop k (piece ++ more)) (sym long) ∙ drop-append_seam piece more

module _ {X : Type 0} (pair : X → ℕ × ℕ) where
  -- the keys
  abbrev pub keys_in : List X → List ℕ
  keys_in xs = map (λ x. (pair x).0) xs

  key_here : (x : X) (bytes more : List ℕ) (at : ℕ) → (pair x).0 < 2 ^ 32 → drop at bytes ≡ pair_bytes pair x ++ more → field bytes at 4 ≡ (pair x).0
  key_here x bytes more at small here = ap (big_number 4) here ∙ big_number-reads_back 4 (pair x).0 (big_bytes 8 (pair x).1 ++ more) small

  -- What is so behind the keys of a row: they have no fault, and those that follow are left.
  record RowDone (limit : ℕ) (taken : List ℕ) (least count : ℕ) (body : List ℕ) (at : ℕ) (rest : List ℕ) : Type 0 where
    none : keys_fault limit taken least count body at ≡ None
    all : AreAll limit rest (keys_taken count body at taken)

  keys_done : (xs : List X) (rest taken body more : List ℕ) (limit least at : ℕ) → AllByRecursion PairFits (map pair xs) → drop at body ≡ flat_map (pair_bytes pair) xs ++ more →
      AreAll limit (keys_in xs ++ rest) taken → RiseFrom least (keys_in xs) → RowDone limit taken least (length xs) body at rest
  keys_done [] rest taken body more limit least at fits here all rise = record { none = refl; all = all }
  keys_done (x ∷ xs) rest taken body more limit least at fits here all rise =
      let behind : List ℕ = flat_map (pair_bytes pair) xs ++ more in
      let split : drop at body ≡ pair_bytes pair x ++ behind = here ∙ append_assoc (pair_bytes pair x) (flat_map (pair_bytes pair) xs) more in
      let key : field body at 4 ≡ (pair x).0 = key_here x body behind at fits.0.0 split in
      let next = keys_done xs rest ((pair x).0 ∷ taken) body more limit ((pair x).0 + 1) (at + 12) fits.1 (behind_piece body (pair_bytes pair x) behind at 12 refl split)
      (next_all limit (pair x).0 (keys_in xs ++ rest) taken all) rise.1 in
      record {
        none = ap (λ (k : ℕ). option_or (key_fault limit taken least k at) (keys_fault limit (k ∷ taken) (k + 1) (length xs) body (at + 12))) key
            ∙ ap (λ (o : Option ℕ). option_or o (keys_fault limit ((pair x).0 ∷ taken) ((pair x).0 + 1) (length xs) body (at + 12))) (key_fine limit (pair x).0 least at (keys_in xs ++ rest) taken all rise.0)
            ∙ next.none;
        all = subst (λ (k : ℕ). AreAll limit rest (keys_taken (length xs) body (at + 12) (k ∷ taken))) (sym key) next.all;
      }

  keys_long : (xs : List X) → length (keys_in xs) ≡ length xs
  keys_long [] = refl
  keys_long (x ∷ xs) = ap (λ (n : ℕ). suc n) (keys_long xs)

  few : (n rest taken limit all : ℕ) → all ≡ n + rest → all + taken ≡ limit → n < limit - taken + 1
  few n rest taken limit all parts is = omega arith

  enough : (n rest taken limit all : ℕ) → all ≡ n + rest → rest ≡ 0 → all + taken ≡ limit → limit - taken ≤ n
  enough n rest taken limit all parts none is = omega arith

  -- the count of a row
  count_fine : (limit taken more n at : ℕ) → n < limit - taken + 1 → (more ≡ 0 → limit - taken ≤ n) → bad_outside (if more == 0 then limit - taken else 0) (limit - taken + 1) n at ≡ None
  count_fine limit taken more n at high last =
      ⊎_elim
      (λ (none : more ≡ 0). rw (eq-eqb more 0 none, le-leb (limit - taken) n (last none), lt-ltb n (limit - taken + 1) high) refl)
      (λ (some : more ≡ 0 → ⊥). rw (ne_eqb more 0 some, le-leb 0 n (zero_low n), lt-ltb n (limit - taken + 1) high) refl)
      (cases_eq more 0)
    where
      zero_low : (n : ℕ) → 0 ≤ n
      zero_low n = omega arith

  record RowRead (limit : ℕ) (taken : List ℕ) (more : ℕ) (body : List ℕ) (at : ℕ) (rest behind : List ℕ) : Type 0 where
    none : row_fault limit taken more body at ≡ None
    all : AreAll limit rest (row_taken body at taken)
    behind_is : drop (row_end body at) body ≡ behind

  row_read : (xs : List X) (rest taken body behind : List ℕ) (limit more at : ℕ) → length xs < 2 ^ 32 → AllByRecursion PairFits (map pair xs) → drop at body ≡ row_bytes pair xs ++ behind →
      AreAll limit (keys_in xs ++ rest) taken → RiseFrom 0 (keys_in xs) → (more ≡ 0 → length rest ≡ 0) → RowRead limit taken more body at rest behind
  row_read xs rest taken body behind limit more at small fits here all rise last =
      let count : field body at 4 ≡ length xs = ap (big_number 4) here ∙ big_number-reads_back 4 (length xs) (flat_map (pair_bytes pair) xs ++ behind) small in
      let parts : length (keys_in xs ++ rest) ≡ length xs + length rest = length-append (keys_in xs) rest ∙ ap (λ (n : ℕ). n + length rest) (keys_long xs) in
      let done = keys_done xs rest taken body behind limit 0 (at + 4) fits (behind_piece body (big_bytes 4 (length xs)) (flat_map (pair_bytes pair) xs ++ behind) at 4 refl here) all rise in
      record {
        none = ap (λ (n : ℕ). option_or (bad_outside (if more == 0 then limit - length taken else 0) (limit - length taken + 1) n at) (keys_fault limit taken 0 n body (at + 4))) count
            ∙ ap (λ (o : Option ℕ). option_or o (keys_fault limit taken 0 (length xs) body (at + 4)))
            (count_fine limit (length taken) more (length xs) at (few (length xs) (length rest) (length taken) limit (length (keys_in xs ++ rest)) parts all.long)
            (λ none. enough (length xs) (length rest) (length taken) limit (length (keys_in xs ++ rest)) parts (last none) all.long))
            ∙ done.none;
        all = subst (λ (n : ℕ). AreAll limit rest (keys_taken n body (at + 4) taken)) (sym count) done.all;
        behind_is = row_behind pair xs body behind at small here;
      }

-- ---- all sections

-- the keys of the vertices of a part, and of its edges
abbrev pub vertex_keys : SavedPart → List ℕ
vertex_keys part = keys_in vertex_pair part.vertices.items

abbrev pub edge_keys : SavedPart → List ℕ
edge_keys part = keys_in edge_pair part.edges.items

-- each part has its keys in order
pub record IsInOrder (part : SavedPart) : Type 0 where
  pub vertices : RiseFrom 0 (vertex_keys part)
  pub edges : RiseFrom 0 (edge_keys part)

fits_first : (front back : List (ℕ × ℕ)) → AllByRecursion PairFits (front ++ back) → AllByRecursion PairFits front × AllByRecursion PairFits back
fits_first [] back fits = (tt, fits)
fits_first (pair ∷ front) back fits = let rest = fits_first front back fits.1 in ((fits.0, rest.0), rest.1)

none_behind : (f : SavedPart → List ℕ) (parts : List SavedPart) → length parts ≡ 0 → length (flat_map f parts) ≡ 0
none_behind f [] none = refl
none_behind f (part ∷ parts) none = absurd (omega arith)

-- the next of the sections, split at its rows
split_section : (part : SavedPart) (parts : List SavedPart) (body more : List ℕ) (at : ℕ) → drop at body ≡ flat_map section_bytes (part ∷ parts) ++ more →
    drop at body ≡ row_bytes vertex_pair part.vertices.items ++ (row_bytes edge_pair part.edges.items ++ (flat_map section_bytes parts ++ more))
split_section part parts body more at here =
    let vertices = row_bytes vertex_pair part.vertices.items in
    let edges = row_bytes edge_pair part.edges.items in
    here ∙ append_assoc (vertices ++ edges) (flat_map section_bytes parts) more ∙ append_assoc vertices edges (flat_map section_bytes parts ++ more)

pub sections_fine : (header : Header) (parts : List SavedPart) (vertices edges body more : List ℕ) (at : ℕ) → AllByRecursion PartFits parts → AllByRecursion IsInOrder parts →
    AllByRecursion PairFits (flat_map part_vertices parts) → AllByRecursion PairFits (flat_map part_edges parts) → drop at body ≡ flat_map section_bytes parts ++ more →
    AreAll header.n (flat_map vertex_keys parts) vertices → AreAll header.m (flat_map edge_keys parts) edges → sections_fault header (length parts) vertices edges body at ≡ None
sections_fine header [] vertices edges body more at small order fits_v fits_e here all_v all_e = refl
sections_fine header (part ∷ parts) vertices edges body more at small order fits_v fits_e here all_v all_e =
    let rest : List ℕ = flat_map section_bytes parts ++ more in
    let v = fits_first (part_vertices part) (flat_map part_vertices parts) fits_v in
    let e = fits_first (part_edges part) (flat_map part_edges parts) fits_e in
    let one = row_read vertex_pair part.vertices.items (flat_map vertex_keys parts) vertices body (row_bytes edge_pair part.edges.items ++ rest) header.n (length parts) at
    small.0.vertices v.0 (split_section part parts body more at here) all_v order.0.vertices (none_behind vertex_keys parts) in
    let other = row_read edge_pair part.edges.items (flat_map edge_keys parts) edges body rest header.m (length parts) (row_end body at)
    small.0.edges e.0 one.behind_is all_e order.0.edges (none_behind edge_keys parts) in
    let others = sections_fine header parts (row_taken body at vertices) (row_taken body (row_end body at) edges) body more (row_end body (row_end body at))
    small.1 order.1 v.1 e.1 other.behind_is one.all other.all in
    ap₂ (λ (a b : Option ℕ). option_or a (option_or b (sections_fault header (length parts) (row_taken body at vertices) (row_taken body (row_end body at) edges) body (row_end body (row_end body at))))) one.none other.none
    ∙ others

-- ---- how long they are

pairs_long : {X : Type 0} (pair : X → ℕ × ℕ) (xs : List X) → length (flat_map (pair_bytes pair) xs) ≡ 12 * length xs
pairs_long pair [] = refl
pairs_long pair (x ∷ xs) =
    let one : length (pair_bytes pair x) ≡ 12 = refl in
    omega (arith, length-append (pair_bytes pair x) (flat_map (pair_bytes pair) xs), one, pairs_long pair xs)

row_long : {X : Type 0} (pair : X → ℕ × ℕ) (xs : List X) → length (row_bytes pair xs) ≡ 4 + 12 * length xs
row_long pair xs = omega (arith, length-append (big_bytes 4 (length xs)) (flat_map (pair_bytes pair) xs), pairs_long pair xs)

pub sections_long : (parts : List SavedPart) → length (flat_map section_bytes parts) ≡ 8 * length parts + 12 * length (flat_map vertex_keys parts) + 12 * length (flat_map edge_keys parts)
sections_long [] = refl
sections_long (part ∷ parts) =
    omega (
      arith,
      length-append (section_bytes part) (flat_map section_bytes parts),
      length-append (row_bytes vertex_pair part.vertices.items) (row_bytes edge_pair part.edges.items),
      row_long vertex_pair part.vertices.items,
      row_long edge_pair part.edges.items,
      length-append (vertex_keys part) (flat_map vertex_keys parts),
      length-append (edge_keys part) (flat_map edge_keys parts),
      keys_long vertex_pair part.vertices.items,
      keys_long edge_pair part.edges.items,
      sections_long parts,
    )
