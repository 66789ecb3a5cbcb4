-- The ranges of an identifier table: how they are filled, and what a search in them finds.
use Rattle.std.proofs.Common.{◌≡◌, ℕ, zero, suc, ◌+◌, ◌-◌, ◌/◌, ◌^◌, ◌<◌, ◌≤◌, List, [], ◌∷◌, ◌++◌, length, get_or, slice_range, Err, Contains, refl, ◌∙◌, subst, ⊎_elim, arith}
use Rattle.std.proofs.Math.Nat.{div-mul-le_self}
use Rattle.std.proofs.lemmas.Bool.{cases_lt}
use Rattle.std.proofs.lemmas.List.{get_or_append_left, get_or_push, get_or_default, get_or_read, length_push}
use Rattle.std.proofs.lemmas.List.Edits.{length-between, get_or-between}
use Rattle.std.proofs.lemmas.List.Sorted.{searched}
use Rattle.std.proofs.lemmas.Nat.{le-div, pow_pos}
use Rattle.std.specs.List.Sorted.{IsBinarySearchResult}
use Rattle.std.specs.Ordering.{nat_cmp}
use Rattle.gl_base.specs.Lists.{Ascends}
use Rattle.graph_core.specs.IdTable.{AreRanges, range_of}
use Rattle.graph_core.proofs.IdRanges.{AreRangesTo}

ascends_le : (ids : List ℕ) → Ascends ids → (i j : ℕ) → i ≤ j → j < length ids → get_or ids i 0 ≤ get_or ids j 0
ascends_le ids up i j le inside =
    ⊎_elim (λ l. omega (arith, up i j l inside)) (λ l. let e : i ≡ j = omega arith in rw e (omega arith)) (cases_lt i j)

-- each step of an ascending list is one at least
ascends_by : (ids : List ℕ) → Ascends ids → (i d : ℕ) → i + d < length ids → get_or ids i 0 + d ≤ get_or ids (i + d) 0
ascends_by ids up i zero inside = let e : i + zero ≡ i = omega arith in rw e (omega arith)
ascends_by ids up i (suc d) inside =
    let before = ascends_by ids up i d (omega arith) in
    let step = up (i + d) (i + suc d) (omega arith) inside in
    omega arith

-- a list without gaps
pub consecutive : (ids : List ℕ) (least n : ℕ) → Ascends ids → length ids ≡ n → get_or ids 0 0 ≡ least → get_or ids (n - 1) 0 - least < n → (k : ℕ) → k < length ids → get_or ids k 0 ≡ least + k
consecutive ids least n up len first span k inside =
    let low = ascends_by ids up 0 k (omega arith) in
    let zero_k : 0 + k ≡ k = omega arith in
    let low' : get_or ids 0 0 + k ≤ get_or ids k 0 = rw zero_k at low in
    let rest : k + (n - 1 - k) ≡ n - 1 = omega arith in
    let high = ascends_by ids up k (n - 1 - k) (omega arith) in
    let high' : get_or ids k 0 + (n - 1 - k) ≤ get_or ids (n - 1) 0 = rw rest at high in
    omega arith

range-mono : (least shift a b : ℕ) → a ≤ b → range_of least shift a ≤ range_of least shift b
range-mono least shift a b le =
    let some : 0 < 2 ^ shift = pow_pos shift in
    le-div ((a - least) / 2 ^ shift) (b - least) (2 ^ shift) some (omega (arith, div-mul-le_self (a - least) (2 ^ shift)))

-- what filling up to the range of the next identifier leaves
record Fills (k : ℕ) (ids : List ℕ) (least shift : ℕ) (starts filled : List ℕ) : Type 0 where
  so : AreRangesTo k ids least shift starts
  up : Ascends ids
  inside : k < length ids
  len : length filled ≡ range_of least shift (get_or ids k 0) + 1
  old : (j : ℕ) → j < length starts → get_or filled j 0 ≡ get_or starts j 0
  fresh : (j : ℕ) → length starts ≤ j → j < length filled → get_or filled j 0 ≡ k

fills_within : (k : ℕ) (ids : List ℕ) (least shift : ℕ) (starts filled : List ℕ) → Fills k ids least shift starts filled → (r : ℕ) → r < length filled → get_or filled r 0 ≤ k
fills_within k ids least shift starts filled h r l =
    ⊎_elim (λ c. omega (arith, h.old r c, h.so.within r c)) (λ c. omega (arith, h.fresh r c l)) (cases_lt r (length starts))

fills_ascending : (k : ℕ) (ids : List ℕ) (least shift : ℕ) (starts filled : List ℕ) → Fills k ids least shift starts filled → (r : ℕ) → r + 1 < length filled → get_or filled r 0 ≤ get_or filled (r + 1) 0
fills_ascending k ids least shift starts filled h r l =
    ⊎_elim
    (λ c. omega (arith, h.old r (omega arith), h.old (r + 1) c, h.so.ascending r c))
    (λ c. omega (arith, fills_within k ids least shift starts filled h r (omega arith), h.fresh (r + 1) c l))
    (cases_lt (r + 1) (length starts))

fills_found : (k : ℕ) (ids : List ℕ) (least shift : ℕ) (starts filled : List ℕ) → Fills k ids least shift starts filled → (j : ℕ) → j < k + 1 → range_of least shift (get_or ids j 0) < length filled
fills_found k ids least shift starts filled h j l =
    let mono = range-mono least shift (get_or ids j 0) (get_or ids k 0) (ascends_le ids h.up j k (omega arith) h.inside) in
    omega (arith, h.len)

fills_begins : (k : ℕ) (ids : List ℕ) (least shift : ℕ) (starts filled : List ℕ) → Fills k ids least shift starts filled → (j : ℕ) → j < k + 1 → get_or filled (range_of least shift (get_or ids j 0)) 0 ≤ j
fills_begins k ids least shift starts filled h j l =
    ⊎_elim
    (λ c. omega (arith, h.old (range_of least shift (get_or ids j 0)) (h.so.found j c), h.so.begins j c))
    (λ c. let e : j ≡ k = omega arith in
    rw e (fills_within k ids least shift starts filled h (range_of least shift (get_or ids k 0)) (omega (arith, h.len))))
    (cases_lt j k)

fills_ends : (k : ℕ) (ids : List ℕ) (least shift : ℕ) (starts filled : List ℕ) → Fills k ids least shift starts filled → (j : ℕ) → j < k + 1 → range_of least shift (get_or ids j 0) + 1 < length filled → j < get_or filled (range_of least shift (get_or ids j 0) + 1) 0
fills_ends k ids least shift starts filled h j l inside =
    ⊎_elim
    (λ c. ⊎_elim
    (λ b. omega (arith, h.old (range_of least shift (get_or ids j 0) + 1) b, h.so.ends j c b))
    (λ b. omega (arith, h.fresh (range_of least shift (get_or ids j 0) + 1) b inside))
    (cases_lt (range_of least shift (get_or ids j 0) + 1) (length starts)))
    (λ c. let e : j ≡ k = omega arith in
    let in_k : range_of least shift (get_or ids k 0) + 1 < length filled = subst (λ i. range_of least shift (get_or ids i 0) + 1 < length filled) e inside in
    absurd (omega (arith, h.len)))
    (cases_lt j k)

-- a step: the ranges up to that of the next identifier begin at its place
pub ranges_more : (k : ℕ) (ids : List ℕ) (least shift : ℕ) (starts filled : List ℕ) → AreRangesTo k ids least shift starts → Ascends ids → k < length ids → length filled ≡ range_of least shift (get_or ids k 0) + 1 → ((j : ℕ) → j < length starts → get_or filled j 0 ≡ get_or starts j 0) → ((j : ℕ) → length starts ≤ j → j < length filled → get_or filled j 0 ≡ k) → AreRangesTo (k + 1) ids least shift filled
ranges_more k ids least shift starts filled so up inside len old fresh =
    let h : Fills k ids least shift starts filled = record { so = so; up = up; inside = inside; len = len; old = old; fresh = fresh } in
    record {
      ascending = fills_ascending k ids least shift starts filled h;
      within = λ r l. omega (arith, fills_within k ids least shift starts filled h r l);
      found = fills_found k ids least shift starts filled h;
      begins = fills_begins k ids least shift starts filled h;
      ends = fills_ends k ids least shift starts filled h;
      next = λ j l in'. omega (arith, len, range-mono least shift (get_or ids k 0) (get_or ids j 0) (ascends_le ids up k j (omega arith) in'));
    }

-- the end: the number of identifiers stands behind the last range
pub ranges_all : (ids : List ℕ) (least shift : ℕ) (starts : List ℕ) → AreRangesTo (length ids) ids least shift starts → Ascends ids → shift < 64 → get_or ids 0 0 ≡ least → AreRanges ids least shift (starts ++ length ids ∷ [])
ranges_all ids least shift starts so up bits first =
    let len = length_push starts (length ids) in
    let same = λ (j : ℕ) (l : j < length starts). get_or_append_left starts (length ids ∷ []) 0 j l in
    let last : get_or (starts ++ length ids ∷ []) (length starts) 0 ≡ length ids = get_or_push starts (length ids) 0 (length starts) refl in
    record {
      bits = bits;
      some = omega arith;
      low = λ k l. omega (arith, ascends_le ids up 0 k (omega arith) l);
      ascending = λ r l. ⊎_elim
          (λ c. omega (arith, same r (omega arith), same (r + 1) c, so.ascending r c))
          (λ c. let e : r + 1 ≡ length starts = omega arith in
          let at_end : get_or (starts ++ length ids ∷ []) (r + 1) 0 ≡ length ids = rw e last in
          omega (arith, same r (omega arith), so.within r (omega arith)))
          (cases_lt (r + 1) (length starts));
      within = λ r l. ⊎_elim
          (λ c. omega (arith, same r c, so.within r c))
          (λ c. let e : r ≡ length starts = omega arith in rw e (omega arith))
          (cases_lt r (length starts));
      found = λ k l. omega (arith, so.found k l);
      begins = λ k l. omega (arith, same (range_of least shift (get_or ids k 0)) (so.found k l), so.begins k l);
      ends = λ k l. ⊎_elim
          (λ c. omega (arith, same (range_of least shift (get_or ids k 0) + 1) c, so.ends k l c))
          (λ c. let e : range_of least shift (get_or ids k 0) + 1 ≡ length starts = omega (arith, so.found k l) in rw e (omega arith))
          (cases_lt (range_of least shift (get_or ids k 0) + 1) (length starts));
    }

-- where a search in the range of an identifier finds no place, no place has it
pub search_none : (ids : List ℕ) (least shift : ℕ) (starts : List ℕ) (id start stop i : ℕ) → AreRanges ids least shift starts → Ascends ids → start ≡ get_or starts (range_of least shift id) start → stop ≡ get_or starts (range_of least shift id + 1) stop → IsBinarySearchResult (λ y. nat_cmp y id) (slice_range ids start stop) (Err i) → Contains ids id → ⊥
search_none ids least shift starts id start stop i so up start_read stop_read found (k, inside, read) =
    let is : get_or ids k 0 ≡ id = get_or_default ids k 0 id inside ∙ read in
    let in_range : range_of least shift id + 1 < length starts = subst (λ x. range_of least shift x + 1 < length starts) is (so.found k inside) in
    let start_is : start ≡ get_or starts (range_of least shift id) 0 = get_or_read starts (range_of least shift id) start (omega arith) start_read 0 in
    let stop_is : stop ≡ get_or starts (range_of least shift id + 1) 0 = get_or_read starts (range_of least shift id + 1) stop in_range stop_read 0 in
    let begins : start ≤ k = rw start_is (subst (λ x. get_or starts (range_of least shift x) 0 ≤ k) is (so.begins k inside)) in
    let ends : k < stop = rw stop_is (subst (λ x. k < get_or starts (range_of least shift x + 1) 0) is (so.ends k inside)) in
    let within : stop ≤ length ids = rw stop_is (so.within (range_of least shift id + 1) in_range) in
    let len = length-between ids start stop within in
    let at = λ (j : ℕ) (l : start + j < stop). get_or-between ids start stop j 0 l in
    let rises : (a b : ℕ) → a ≤ b → b < length (slice_range ids start stop) → get_or (slice_range ids start stop) a 0 ≤ get_or (slice_range ids start stop) b 0 =
    λ a b le l. rw (at a (omega arith), at b (omega arith)) (ascends_le ids up (start + a) (start + b) (omega arith) (omega arith)) in
    let none = searched (slice_range ids start stop) id (Err i) found rises in
    let back : start + (k - start) ≡ k = omega arith in
    let here : get_or (slice_range ids start stop) (k - start) 0 ≡ id = at (k - start) (omega arith) ∙ rw back is in
    ⊎_elim
    (λ l. omega (arith, none.1 (k - start) l))
    (λ l. omega (arith, none.2 (k - start) l (omega arith)))
    (cases_lt (k - start) i)
