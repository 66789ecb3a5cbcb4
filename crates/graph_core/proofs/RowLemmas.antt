-- Lists by key: how a counting sort fills them.
use Rattle.std.proofs.Common.{◌^◌, ◌≡◌, ℕ, Bool, true, false, cond, nat_lt, zero, suc, ◌+◌, ◌-◌, ◌<◌, ◌≤◌, List, [], ◌∷◌, ◌++◌, length, map, get_or, set, take, drop, slice_range, refl, sym, ap, ◌∙◌, subst, ⊎_elim, eqb, sum, slice_get, Some, All, add-one, arith}
use Rattle.std.specs.List.{filter}
use Rattle.std.proofs.lemmas.Bool.{cases_eq, cases_lt, eq-eqb, ne_eqb, le-ltb, lt-ltb}
use Rattle.std.proofs.lemmas.List.{drop_more, take_more, get_or-set_same, get_or-set_other, drop-set, drop-set-lt, take-set-le, length-set, length-append, map-append, take_all, drop_all}
use Rattle.std.proofs.lemmas.List.Elements.{All-head, All-tail, filter-append}
use Rattle.std.proofs.lemmas.List.FromFn.{length-map-range_with_len, get_or-map-range_with_len}
use Rattle.std.proofs.lemmas.List.Sums.{sum_by_more, sum_by-take-le}
use Rattle.std.proofs.lemmas.Option.{get_or_from_slice_get, slice_get_within}
use Rattle.std.proofs.lemmas.Slice.{between_is}
use Rattle.graph_core.specs.Rows.{with_key, rows_of}
use Rattle.graph_core.specs.Inner.RowSteps.{count_below, AreRowsAt, AreRowsFrom, AreStarts, place_in}
use Rattle.graph_core.proofs.RowSums.{IsSummedUpTo}

pub with_key-here : {T : Type 0} (k : ℕ) (p : ℕ × T) (ps : List (ℕ × T)) → p.0 ≡ k → with_key k (p ∷ ps) ≡ p.1 ∷ with_key k ps
with_key-here k p ps h = rw (eq-eqb p.0 k h) refl

pub with_key-past : {T : Type 0} (k : ℕ) (p : ℕ × T) (ps : List (ℕ × T)) → (p.0 ≡ k → ⊥) → with_key k (p ∷ ps) ≡ with_key k ps
with_key-past k p ps h = rw (ne_eqb p.0 k h) refl

pub count_below-cons_past : {T : Type 0} (n : ℕ) (p : ℕ × T) (ps : List (ℕ × T)) → n ≤ p.0 → count_below n (p ∷ ps) ≡ count_below n ps
count_below-cons_past zero p ps h = refl
count_below-cons_past (suc n) p ps h =
    let before : count_below n (p ∷ ps) ≡ count_below n ps = count_below-cons_past n p ps (omega arith) in
    let here : with_key n (p ∷ ps) ≡ with_key n ps = with_key-past n p ps (λ e. omega arith) in
    rw (before, here) refl

pub count_below-cons_in : {T : Type 0} (n : ℕ) (p : ℕ × T) (ps : List (ℕ × T)) → p.0 < n → count_below n (p ∷ ps) ≡ count_below n ps + 1
count_below-cons_in zero p ps h = absurd (omega arith)
count_below-cons_in (suc n) p ps h =
    ⊎_elim
    (λ e. let before : count_below n (p ∷ ps) ≡ count_below n ps = count_below-cons_past n p ps (omega arith) in
    let here : length (with_key n (p ∷ ps)) ≡ suc (length (with_key n ps)) = ap length (with_key-here n p ps e) in
    omega arith)
    (λ e. let before : count_below n (p ∷ ps) ≡ count_below n ps + 1 = count_below-cons_in n p ps (omega arith) in
    let here : length (with_key n (p ∷ ps)) ≡ length (with_key n ps) = ap length (with_key-past n p ps e) in
    omega arith)
    (cases_eq p.0 n)

count_below-nil : (T : Type 0) (n : ℕ) → count_below {T = T} n [] ≡ 0
count_below-nil T zero = refl
count_below-nil T (suc n) = omega (arith, count_below-nil T n)

pub count_below-le : {T : Type 0} (n : ℕ) (ps : List (ℕ × T)) → count_below n ps ≤ length ps
count_below-le {T} n [] = omega (arith, count_below-nil T n)
count_below-le n (p ∷ ps) =
    ⊎_elim
    (λ h. omega (arith, count_below-cons_in n p ps h, count_below-le n ps))
    (λ h. omega (arith, count_below-cons_past n p ps h, count_below-le n ps))
    (cases_lt p.0 n)

pub count_below-all : {T : Type 0} (n : ℕ) (ps : List (ℕ × T)) → All (λ p. p.0 < n) ps → count_below n ps ≡ length ps
count_below-all {T} n [] h = count_below-nil T n
count_below-all n (p ∷ ps) h =
    omega (arith, count_below-cons_in n p ps (All-head (λ q. q.0 < n) p ps h), count_below-all n ps (All-tail (λ q. q.0 < n) p ps h))

pub count_below-mono : {T : Type 0} (m n : ℕ) (ps : List (ℕ × T)) → m ≤ n → count_below m ps ≤ count_below n ps
count_below-mono m zero ps h = let e : m ≡ 0 = omega arith in rw e (omega arith)
count_below-mono m (suc n) ps h =
    ⊎_elim
    (λ l. omega (arith, count_below-mono m n ps (omega arith)))
    (λ (l : suc n ≤ m). let e : m ≡ suc n = omega arith in rw e (omega arith))
    (cases_lt m (suc n))

pub length-with_key-drop : {T : Type 0} (k i : ℕ) (ps : List (ℕ × T)) → length (with_key k (drop i ps)) ≤ length (with_key k ps)
length-with_key-drop k zero ps = omega arith
length-with_key-drop k (suc i) [] = omega arith
length-with_key-drop k (suc i) (p ∷ ps) =
    ⊎_elim
    (λ h. omega (arith, length-with_key-drop k i ps, ap length (with_key-here k p ps h)))
    (λ h. omega (arith, length-with_key-drop k i ps, ap length (with_key-past k p ps h)))
    (cases_eq p.0 k)

-- the sums of the counts are where the rows end
pub sum_counts : {T : Type 0} (counts : List ℕ) (ps : List (ℕ × T)) → ((k : ℕ) → k < length counts → get_or counts k 0 ≡ length (with_key k ps)) → (n : ℕ) → n ≤ length counts → sum (take n counts) ≡ count_below n ps
sum_counts counts ps each zero h = refl
sum_counts counts ps each (suc n) h =
    let before : sum (take n counts) ≡ count_below n ps = sum_counts counts ps each n (omega arith) in
    let more : sum (take (n + 1) counts) ≡ sum (take n counts) + get_or counts n 0 = sum_by_more (λ x. x) counts n 0 (omega arith) in
    rw (← add-one n) (omega (arith, each n (omega arith)))

-- one item more in its row
range-set_first : {T : Type 0} (xs : List T) (p s e : ℕ) (x : T) → p + 1 ≡ s → s ≤ e → p < length xs → slice_range (set xs p x) p e ≡ x ∷ slice_range xs s e
range-set_first xs p s e x next below inside =
    let first : drop p (set xs p x) ≡ x ∷ drop (p + 1) xs = drop-set xs p x inside in
    let count : e - p ≡ suc (e - s) = omega arith in
    rw (first, count, next) refl

-- a row that ends before the place, or begins behind it, stays
range-set_past : {T : Type 0} (xs : List T) (p s e : ℕ) (x : T) → (e ≤ p) → slice_range (set xs p x) s e ≡ slice_range xs s e
range-set_past xs p s e x h =
    let same : take e (set xs p x) ≡ take e xs = take-set-le e xs p x h in
    between_is (set xs p x) s e ∙ ap (drop s) same ∙ sym (between_is xs s e)

range-set_before : {T : Type 0} (xs : List T) (p s e : ℕ) (x : T) → (p < s) → slice_range (set xs p x) s e ≡ slice_range xs s e
range-set_before xs p s e x h =
    let same : drop s (set xs p x) ≡ drop s xs = drop-set-lt s xs p x h in
    ap (take (e - s)) same

-- the row that takes the item at this place, and the others
record Places {T : Type 0} (ps : List (ℕ × T)) (i : ℕ) (p : ℕ × T) (f : ℕ → ℕ) (starts : List ℕ) (items : List T) : Type 0 where
  from : AreRowsAt f ps starts items
  at : f p.0 ≡ i + 1
  inside : i < length ps
  read : get_or ps i p ≡ p
  key : p.0 < length starts
  room : length items ≡ length ps

-- the row of this key goes one item on, and those of the others stay
pub record Moves {T : Type 0} (ps : List (ℕ × T)) (i : ℕ) (p : ℕ × T) (f g : ℕ → ℕ) : Type 0 where
  pub here : g p.0 ≡ i
  pub others : (k : ℕ) → (p.0 ≡ k → ⊥) → with_key k (drop (g k) ps) ≡ with_key k (drop (f k) ps)

places_of : {T : Type 0} (ps : List (ℕ × T)) (i : ℕ) (p : ℕ × T) (f : ℕ → ℕ) (starts : List ℕ) (items : List T) → AreRowsAt f ps starts items → f p.0 ≡ i + 1 → slice_get ps i ≡ Some p → p.0 < length starts → length items ≡ length ps → Places ps i p f starts items
places_of ps i p f starts items from next at key room =
    record { from = from; at = next; inside = slice_get_within ps i p at; read = get_or_from_slice_get ps i p p at; key = key; room = room }

left_of : {T : Type 0} (ps : List (ℕ × T)) (i : ℕ) (p : ℕ × T) (f : ℕ → ℕ) (starts : List ℕ) (items : List T) → Places ps i p f starts items → get_or starts p.0 0 + length (with_key p.0 (drop (i + 1) ps)) ≡ count_below (suc p.0) ps
left_of ps i p f starts items h = subst (λ n. get_or starts p.0 0 + length (with_key p.0 (drop n ps)) ≡ count_below (suc p.0) ps) h.at (h.from.left p.0 h.key)

row_of : {T : Type 0} (ps : List (ℕ × T)) (i : ℕ) (p : ℕ × T) (f : ℕ → ℕ) (starts : List ℕ) (items : List T) → Places ps i p f starts items → slice_range items (get_or starts p.0 0) (count_below (suc p.0) ps) ≡ with_key p.0 (drop (i + 1) ps)
row_of ps i p f starts items h = subst (λ n. slice_range items (get_or starts p.0 0) (count_below (suc p.0) ps) ≡ with_key p.0 (drop n ps)) h.at (h.from.rows p.0 h.key)

more_here : {T : Type 0} (ps : List (ℕ × T)) (i : ℕ) (p : ℕ × T) → i < length ps → get_or ps i p ≡ p → with_key p.0 (drop i ps) ≡ p.1 ∷ with_key p.0 (drop (i + 1) ps)
more_here ps i p inside read =
    let d : drop i ps ≡ get_or ps i p ∷ drop (i + 1) ps = drop_more ps i p inside in
    rw (d, read) (with_key-here p.0 p (drop (i + 1) ps) refl)

more_past : {T : Type 0} (k : ℕ) (ps : List (ℕ × T)) (i : ℕ) (p : ℕ × T) → i < length ps → get_or ps i p ≡ p → (p.0 ≡ k → ⊥) → with_key k (drop i ps) ≡ with_key k (drop (i + 1) ps)
more_past k ps i p inside read other =
    let d : drop i ps ≡ get_or ps i p ∷ drop (i + 1) ps = drop_more ps i p inside in
    rw (d, read) (with_key-past k p (drop (i + 1) ps) other)

-- the place before the start of the row is the row's own
record Room {T : Type 0} (ps : List (ℕ × T)) (k start total : ℕ) : Type 0 where
  above : count_below k ps < start
  below : start ≤ count_below (suc k) ps
  all : count_below (suc k) ps ≤ total

room_of : {T : Type 0} (ps : List (ℕ × T)) (i : ℕ) (p : ℕ × T) (f : ℕ → ℕ) (starts : List ℕ) (items : List T) → Places ps i p f starts items → Room ps p.0 (get_or starts p.0 0) (length items)
room_of ps i p f starts items h =
    let left = left_of ps i p f starts items h in
    let more : length (with_key p.0 (drop i ps)) ≡ suc (length (with_key p.0 (drop (i + 1) ps))) = ap length (more_here ps i p h.inside h.read) in
    record {
      above = omega (arith, left, more, length-with_key-drop p.0 i ps);
      below = omega (arith, left);
      all = omega (arith, h.room, count_below-le (suc p.0) ps);
    }

step_left : {T : Type 0} (ps : List (ℕ × T)) (i : ℕ) (p : ℕ × T) (f g : ℕ → ℕ) (starts : List ℕ) (items : List T) → Moves ps i p f g → Places ps i p f starts items → (k : ℕ) → k < length starts → get_or (set starts p.0 (get_or starts p.0 0 - 1)) k 0 + length (with_key k (drop (g k) ps)) ≡ count_below (suc k) ps
step_left ps i p f g starts items m h k inside =
    let room = room_of ps i p f starts items h in
    ⊎_elim
    (λ e. let same : get_or (set starts p.0 (get_or starts p.0 0 - 1)) p.0 0 ≡ get_or starts p.0 0 - 1 = get_or-set_same starts p.0 (get_or starts p.0 0 - 1) 0 h.key in
    let more : length (with_key p.0 (drop i ps)) ≡ suc (length (with_key p.0 (drop (i + 1) ps))) = ap length (more_here ps i p h.inside h.read) in
    let left = left_of ps i p f starts items h in
    subst (λ j. get_or (set starts p.0 (get_or starts p.0 0 - 1)) j 0 + length (with_key j (drop (g j) ps)) ≡ count_below (suc j) ps) e (rw m.here (omega (arith, room.above))))
    (λ e. let same : get_or (set starts p.0 (get_or starts p.0 0 - 1)) k 0 ≡ get_or starts k 0 = get_or-set_other starts p.0 k (get_or starts p.0 0 - 1) 0 (λ q. e (sym q)) in
    rw (same, m.others k e) (h.from.left k inside))
    (cases_eq p.0 k)

step_rows : {T : Type 0} (ps : List (ℕ × T)) (i : ℕ) (p : ℕ × T) (f g : ℕ → ℕ) (starts : List ℕ) (items : List T) → Moves ps i p f g → Places ps i p f starts items → (k : ℕ) → k < length starts → slice_range (set items (get_or starts p.0 0 - 1) p.1) (get_or (set starts p.0 (get_or starts p.0 0 - 1)) k 0) (count_below (suc k) ps) ≡ with_key k (drop (g k) ps)
step_rows ps i p f g starts items m h k inside =
    let room = room_of ps i p f starts items h in
    let at : ℕ = get_or starts p.0 0 - 1 in
    ⊎_elim
    (λ e. let same : get_or (set starts p.0 (get_or starts p.0 0 - 1)) p.0 0 ≡ get_or starts p.0 0 - 1 = get_or-set_same starts p.0 (get_or starts p.0 0 - 1) 0 h.key in
    let first = range-set_first items (get_or starts p.0 0 - 1) (get_or starts p.0 0) (count_below (suc p.0) ps) p.1 (omega (arith, room.above)) room.below (omega (arith, room.above, room.below, room.all)) in
    subst (λ j. slice_range (set items (get_or starts p.0 0 - 1) p.1) (get_or (set starts p.0 (get_or starts p.0 0 - 1)) j 0) (count_below (suc j) ps) ≡ with_key j (drop (g j) ps)) e
    (rw (same, m.here, more_here ps i p h.inside h.read) (first ∙ ap (λ xs. p.1 ∷ xs) (row_of ps i p f starts items h))))
    (λ e. let same : get_or (set starts p.0 (get_or starts p.0 0 - 1)) k 0 ≡ get_or starts k 0 = get_or-set_other starts p.0 k (get_or starts p.0 0 - 1) 0 (λ q. e (sym q)) in
    let left : get_or starts k 0 + length (with_key k (drop (f k) ps)) ≡ count_below (suc k) ps = h.from.left k inside in
    let stays : slice_range (set items (get_or starts p.0 0 - 1) p.1) (get_or starts k 0) (count_below (suc k) ps) ≡ slice_range items (get_or starts k 0) (count_below (suc k) ps) =
    ⊎_elim
    (λ l. range-set_past items (get_or starts p.0 0 - 1) (get_or starts k 0) (count_below (suc k) ps) p.1 (omega (arith, room.above, count_below-mono (suc k) p.0 ps l)))
    (λ l. range-set_before items (get_or starts p.0 0 - 1) (get_or starts k 0) (count_below (suc k) ps) p.1
    (let mono : count_below (suc p.0) ps ≤ count_below k ps = count_below-mono (suc p.0) k ps (omega (arith, e)) in
    omega (arith, room.above, room.below, length-with_key-drop k (f k) ps)))
    (cases_lt k p.0) in
    rw (same, m.others k e) (stays ∙ h.from.rows k inside))
    (cases_eq p.0 k)

-- a step of the sort: the item at the place goes before the start of its row
pub rows_more : {T : Type 0} (ps : List (ℕ × T)) (i : ℕ) (p : ℕ × T) (f g : ℕ → ℕ) (starts : List ℕ) (items : List T) → AreRowsAt f ps starts items → f p.0 ≡ i + 1 → Moves ps i p f g → slice_get ps i ≡ Some p → p.0 < length starts → length items ≡ length ps → AreRowsAt g ps (set starts p.0 (get_or starts p.0 0 - 1)) (set items (get_or starts p.0 0 - 1) p.1)
rows_more ps i p f g starts items from next m at key room =
    let h = places_of ps i p f starts items from next at key room in
    record {
      left = λ k l. step_left ps i p f g starts items m h k (omega (arith, l, length-set starts p.0 (get_or starts p.0 0 - 1)));
      rows = λ k l. step_rows ps i p f g starts items m h k (omega (arith, l, length-set starts p.0 (get_or starts p.0 0 - 1)));
    }

-- the start of a row that takes an item is above 0, and its new place is one of the items
pub rows_room : {T : Type 0} (ps : List (ℕ × T)) (i : ℕ) (p : ℕ × T) (f : ℕ → ℕ) (starts : List ℕ) (items : List T) → AreRowsAt f ps starts items → f p.0 ≡ i + 1 → slice_get ps i ≡ Some p → p.0 < length starts → length items ≡ length ps → (0 < get_or starts p.0 0) × (get_or starts p.0 0 - 1 < length items)
rows_room ps i p f starts items from next at key room =
    let h = places_of ps i p f starts items from next at key room in
    let r = room_of ps i p f starts items h in
    (omega (arith, r.above), omega (arith, r.above, r.below, r.all))

-- rows at places that come to the same
pub rows_same : {T : Type 0} (ps : List (ℕ × T)) (f g : ℕ → ℕ) (starts : List ℕ) (items : List T) → ((k : ℕ) → k < length starts → with_key k (drop (g k) ps) ≡ with_key k (drop (f k) ps)) → AreRowsAt f ps starts items → AreRowsAt g ps starts items
rows_same ps f g starts items same from =
    record { left = λ k l. rw (same k l) (from.left k l); rows = λ k l. from.rows k l ∙ sym (same k l) }

-- before the first step no item is in its row
pub rows_none : {T : Type 0} (ps : List (ℕ × T)) (starts : List ℕ) (items : List T) → ((k : ℕ) → k < length starts → get_or starts k 0 ≡ count_below (suc k) ps) → AreRowsFrom (length ps) ps starts items
rows_none ps starts items ends =
    let none : drop (length ps) ps ≡ [] = drop_all (length ps) ps (omega arith) in
    record {
      left = λ k l. rw (none) (omega (arith, ends k l));
      rows = λ k l. rw (none, ends k l) (let z : count_below (suc k) ps - count_below (suc k) ps ≡ 0 = omega arith in rw z refl);
    }

-- at the end every row is whole
record AreGrouped {T : Type 0} (count : ℕ) (ps : List (ℕ × T)) (starts : List ℕ) (items : List T) : Type 0 where
  all : AreRowsFrom 0 ps starts items
  starts_len : length starts ≡ count + 1
  items_len : length items ≡ length ps
  keys : All (λ p. p.0 < count) ps

start_is : {T : Type 0} (ps : List (ℕ × T)) (starts : List ℕ) (items : List T) → AreRowsFrom 0 ps starts items → (k : ℕ) → k < length starts → get_or starts k 0 ≡ count_below k ps
start_is ps starts items all k l = omega (arith, all.left k l)

pub starts_of_rows : {T : Type 0} (count : ℕ) (ps : List (ℕ × T)) (starts : List ℕ) (items : List T) → AreRowsFrom 0 ps starts items → length starts ≡ count + 1 → length items ≡ length ps → length ps < 2 ^ 32 → All (λ p. p.0 < count) ps → AreStarts starts (length items)
starts_of_rows count ps starts items all starts_len items_len few keys =
    record {
      few = omega (arith, few, items_len);
      some = omega (arith, starts_len);
      first = start_is ps starts items all 0 (omega (arith, starts_len));
      ascending = λ k l. omega (arith, start_is ps starts items all k (omega (arith, l)), start_is ps starts items all (k + 1) l, count_below-mono k (k + 1) ps (omega arith));
      within = λ k l. omega (arith, start_is ps starts items all k l, count_below-le k ps, items_len);
      last =
          let e : length starts - 1 ≡ count = omega (arith, starts_len) in
          rw e (omega (arith, start_is ps starts items all count (omega (arith, starts_len)), count_below-all count ps keys, items_len));
    }

pub length_of_rows : {T : Type 0} (starts : List ℕ) (items : List T) (rows : List (List T)) → rows_of starts items ≡ rows → length rows ≡ length starts - 1
length_of_rows starts items rows e =
    sym (ap length e) ∙ length-map-range_with_len (λ k. slice_range items (get_or starts k 0) (get_or starts (k + 1) 0)) 0 (length starts - 1)

pub get_or-rows_of : {T : Type 0} (starts : List ℕ) (items : List T) (k : ℕ) → k + 1 < length starts → get_or (rows_of starts items) k [] ≡ slice_range items (get_or starts k 0) (get_or starts (k + 1) 0)
get_or-rows_of starts items k l =
    get_or-map-range_with_len (λ k. slice_range items (get_or starts k 0) (get_or starts (k + 1) 0)) 0 (length starts - 1) k k [] (omega (arith, l)) (omega arith)

pub row_is : {T : Type 0} (ps : List (ℕ × T)) (starts : List ℕ) (items : List T) → AreRowsFrom 0 ps starts items → (k : ℕ) → k + 1 < length starts → get_or (rows_of starts items) k [] ≡ with_key k ps
row_is ps starts items all k l =
    let next : get_or starts (k + 1) 0 ≡ count_below (suc k) ps = subst (λ j. get_or starts (k + 1) 0 ≡ count_below j ps) (add-one k) (start_is ps starts items all (k + 1) l) in
    get_or-rows_of starts items k l ∙ (rw next (all.rows k (omega (arith, l))))

-- a list that takes one item more
with_key-push : {T : Type 0} (k : ℕ) (ps : List (ℕ × T)) (p : ℕ × T) → with_key k (ps ++ p ∷ []) ≡ with_key k ps ++ with_key k (p ∷ [])
with_key-push k ps p = ap (map (λ q. q.1)) (filter-append (λ q. eqb q.0 k) ps (p ∷ [])) ∙ map-append (λ q. q.1) (filter (λ q. eqb q.0 k) ps) (filter (λ q. eqb q.0 k) (p ∷ []))

with_key-take : {T : Type 0} (k : ℕ) (ps : List (ℕ × T)) (i : ℕ) (p : ℕ × T) → i < length ps → get_or ps i p ≡ p → with_key k (take (i + 1) ps) ≡ with_key k (take i ps) ++ with_key k (p ∷ [])
with_key-take k ps i p inside read =
    let more : take (i + 1) ps ≡ take i ps ++ get_or ps i p ∷ [] = take_more ps i p inside in
    rw (more, read) (with_key-push k (take i ps) p)

pub length-with_key-take : {T : Type 0} (k : ℕ) (ps : List (ℕ × T)) (i : ℕ) → length (with_key k (take i ps)) ≤ i
length-with_key-take k ps zero = omega arith
length-with_key-take k [] (suc i) = omega arith
length-with_key-take k (p ∷ ps) (suc i) =
    ⊎_elim
    (λ h. omega (arith, length-with_key-take k ps i, ap length (with_key-here k p (take i ps) h)))
    (λ h. omega (arith, length-with_key-take k ps i, ap length (with_key-past k p (take i ps) h)))
    (cases_eq p.0 k)

-- one item more is counted
pub counts_more : {T : Type 0} (ps : List (ℕ × T)) (i : ℕ) (p : ℕ × T) (counts : List ℕ) → slice_get ps i ≡ Some p → ((k : ℕ) → k < length counts → get_or counts k 0 ≡ length (with_key k (take i ps))) → p.0 < length counts → (k : ℕ) → k < length (set counts p.0 (get_or counts p.0 0 + 1)) → get_or (set counts p.0 (get_or counts p.0 0 + 1)) k 0 ≡ length (with_key k (take (i + 1) ps))
counts_more ps i p counts at each key k l =
    let inside : i < length ps = slice_get_within ps i p at in
    let read : get_or ps i p ≡ p = get_or_from_slice_get ps i p p at in
    let more : length (with_key k (take (i + 1) ps)) ≡ length (with_key k (take i ps)) + length (with_key k (p ∷ [])) =
    ap length (with_key-take k ps i p inside read) ∙ length-append (with_key k (take i ps)) (with_key k (p ∷ [])) in
    let here : k < length counts = omega (arith, l, length-set counts p.0 (get_or counts p.0 0 + 1)) in
    ⊎_elim
    (λ e. let same : get_or (set counts p.0 (get_or counts p.0 0 + 1)) k 0 ≡ get_or counts k 0 + 1 =
    subst (λ j. get_or (set counts p.0 (get_or counts p.0 0 + 1)) j 0 ≡ get_or counts j 0 + 1) e (get_or-set_same counts p.0 (get_or counts p.0 0 + 1) 0 key) in
    let one : length (with_key k (p ∷ [])) ≡ 1 = ap length (with_key-here k p [] e) in
    omega (arith, each k here))
    (λ e. let same : get_or (set counts p.0 (get_or counts p.0 0 + 1)) k 0 ≡ get_or counts k 0 = get_or-set_other counts p.0 k (get_or counts p.0 0 + 1) 0 (λ q. e (sym q)) in
    let none : length (with_key k (p ∷ [])) ≡ 0 = ap length (with_key-past k p [] e) in
    omega (arith, each k here))
    (cases_eq p.0 k)

pub key_below : {T : Type 0} (n : ℕ) (ps : List (ℕ × T)) (i : ℕ) (p : ℕ × T) → All (λ q. q.0 < n) ps → slice_get ps i ≡ Some p → p.0 < n
key_below n ps i p all at =
    let h : (get_or ps i p).0 < n = all i p (slice_get_within ps i p at) in
    subst (λ (q : ℕ × _). q.0 < n) (get_or_from_slice_get ps i p p at) h

pub row_of_rows : {T : Type 0} (starts : List ℕ) (items : List T) (rows : List (List T)) (k : ℕ) → rows_of starts items ≡ rows → k + 1 < length starts → get_or rows k [] ≡ slice_range items (get_or starts k 0) (get_or starts (k + 1) 0)
row_of_rows starts items rows k e l = rw (← e) (get_or-rows_of starts items k l)

-- ---- one part of the rows after another

-- the place of a key of the part
in_part : (low high place total k : ℕ) → low ≤ k → k < high → place_in low high place total k ≡ place
in_part low high place total k above below = rw (le-ltb k low above, lt-ltb k high below) refl

-- other keys stay where they are
others_stay : {T : Type 0} (ps : List (ℕ × T)) (low high place total k : ℕ) (p : ℕ × T) → 0 < place → slice_get ps (place - 1) ≡ Some p → (low ≤ k → k < high → p.0 ≡ k → ⊥)
    → with_key k (drop (place_in low high (place - 1) total k) ps) ≡ with_key k (drop (place_in low high place total k) ps)
others_stay ps low high place total k p some at other =
    let next : place - 1 + 1 ≡ place = omega arith in
    ⊎_elim
    (λ (c : k < low). rw (lt-ltb k low c) refl)
    (λ (c : low ≤ k). ⊎_elim
    (λ (d : k < high). rw (le-ltb k low c, lt-ltb k high d)
    (subst (λ n. with_key k (drop (place - 1) ps) ≡ with_key k (drop n ps)) next
    (more_past k ps (place - 1) p (slice_get_within ps (place - 1) p at) (get_or_from_slice_get ps (place - 1) p p at) (other c d))))
    (λ (d : high ≤ k). rw (le-ltb k low c, le-ltb k high d) refl)
    (cases_lt k high))
    (cases_lt k low)

-- an item of the part
part_moves : {T : Type 0} (ps : List (ℕ × T)) (low high place total : ℕ) (p : ℕ × T) → 0 < place → slice_get ps (place - 1) ≡ Some p → low ≤ p.0 → p.0 < high
    → Moves ps (place - 1) p (place_in low high place total) (place_in low high (place - 1) total)
part_moves ps low high place total p some at above below =
    record { here = in_part low high (place - 1) total p.0 above below; others = λ k e. others_stay ps low high place total k p some at (λ _ _. e) }

next_in_part : {T : Type 0} (low high place total : ℕ) (p : ℕ × T) → 0 < place → low ≤ p.0 → p.0 < high → place_in low high place total p.0 ≡ place - 1 + 1
next_in_part low high place total p some above below = in_part low high place total p.0 above below ∙ omega arith

pub part_placed : {T : Type 0} (ps : List (ℕ × T)) (low high place total : ℕ) (p : ℕ × T) (starts : List ℕ) (items : List T) → 0 < place → AreRowsAt (place_in low high place total) ps starts items → slice_get ps (place - 1) ≡ Some p → p.0 < length starts → length items ≡ length ps → low ≤ p.0 → p.0 < high
    → AreRowsAt (place_in low high (place - 1) total) ps (set starts p.0 (get_or starts p.0 0 - 1)) (set items (get_or starts p.0 0 - 1) p.1)
part_placed ps low high place total p starts items some from at key room above below =
    rows_more ps (place - 1) p (place_in low high place total) (place_in low high (place - 1) total) starts items from (next_in_part low high place total p some above below) (part_moves ps low high place total p some at above below) at key room

pub part_room : {T : Type 0} (ps : List (ℕ × T)) (low high place total : ℕ) (p : ℕ × T) (starts : List ℕ) (items : List T) → 0 < place → AreRowsAt (place_in low high place total) ps starts items → slice_get ps (place - 1) ≡ Some p → p.0 < length starts → length items ≡ length ps → low ≤ p.0 → p.0 < high
    → (0 < get_or starts p.0 0) × (get_or starts p.0 0 - 1 < length items)
part_room ps low high place total p starts items some from at key room above below =
    rows_room ps (place - 1) p (place_in low high place total) starts items from (next_in_part low high place total p some above below) at key room

-- an item of another part
pub part_passed : {T : Type 0} (ps : List (ℕ × T)) (low high place total : ℕ) (p : ℕ × T) (starts : List ℕ) (items : List T) → 0 < place → AreRowsAt (place_in low high place total) ps starts items → slice_get ps (place - 1) ≡ Some p → (low ≤ p.0 → p.0 < high → ⊥)
    → AreRowsAt (place_in low high (place - 1) total) ps starts items
part_passed ps low high place total p starts items some from at outside =
    rows_same ps (place_in low high place total) (place_in low high (place - 1) total) starts items
    (λ k l. others_stay ps low high place total k p some at (λ above below e. outside (omega arith) (omega arith))) from

-- no part is done, a part behind those that are done, and all
pub parts_none : {T : Type 0} (ps : List (ℕ × T)) (total : ℕ) (starts : List ℕ) (items : List T) → AreRowsFrom total ps starts items → AreRowsAt (place_in 0 0 total total) ps starts items
parts_none ps total starts items from = rows_same ps (λ k. total) (place_in 0 0 total total) starts items (λ k l. rw (le-ltb k 0 (omega arith)) refl) from

pub parts_begin : {T : Type 0} (ps : List (ℕ × T)) (low high total : ℕ) (starts : List ℕ) (items : List T) → AreRowsAt (place_in low low total total) ps starts items → AreRowsAt (place_in low high total total) ps starts items
parts_begin ps low high total starts items from =
    rows_same ps (place_in low low total total) (place_in low high total total) starts items
    (λ k l. ap (λ n. with_key k (drop n ps)) (same (nat_lt k low) (nat_lt k high))) from
  where
    same : (s t : Bool) → cond s 0 (cond t total total) ≡ cond s 0 (cond s total total)
    same true t = refl
    same false true = refl
    same false false = refl

pub parts_more : {T : Type 0} (ps : List (ℕ × T)) (low high total : ℕ) (starts : List ℕ) (items : List T) → low ≤ high → AreRowsAt (place_in low high 0 total) ps starts items → AreRowsAt (place_in high high total total) ps starts items
parts_more ps low high total starts items up from =
    rows_same ps (place_in low high 0 total) (place_in high high total total) starts items
    (λ k l. ⊎_elim
    (λ (c : k < high). rw (lt-ltb k high c) (ap (λ n. with_key k (drop n ps)) (done (nat_lt k low) 0)))
    (λ (c : high ≤ k). rw (le-ltb k high c, le-ltb k low (omega arith)) refl)
    (cases_lt k high)) from
  where
    done : (s : Bool) (n : ℕ) → n ≡ cond s n n
    done true n = refl
    done false n = refl

pub parts_all : {T : Type 0} (ps : List (ℕ × T)) (low total : ℕ) (starts : List ℕ) (items : List T) → length starts ≤ low → AreRowsAt (place_in low low total total) ps starts items → AreRowsFrom 0 ps starts items
parts_all ps low total starts items end from =
    rows_same ps (place_in low low total total) (λ k. 0) starts items (λ k l. rw (lt-ltb k low (omega arith)) refl) from

-- one number more is summed up
pub sums_more : (k : ℕ) (old new : List ℕ) → 0 < k → k < length old → IsSummedUpTo k old new → length new ≡ length old → IsSummedUpTo (k + 1) old (set new k (get_or new k 0 + get_or new (k - 1) 0))
sums_more k old new some inside so same_len =
    record {
      done = λ j l in'.
          ⊎_elim
          (λ e. let stays : get_or (set new k (get_or new k 0 + get_or new (k - 1) 0)) k 0 ≡ get_or new k 0 + get_or new (k - 1) 0 = get_or-set_same new k (get_or new k 0 + get_or new (k - 1) 0) 0 (omega arith) in
          let before : get_or new (k - 1) 0 ≡ sum (take (k - 1 + 1) old) = so.done (k - 1) (omega arith) (omega arith) in
          let down : k - 1 + 1 ≡ k = omega arith in
          let more : sum (take (k + 1) old) ≡ sum (take k old) + get_or old k 0 = sum_by_more (λ x. x) old k 0 inside in
          let before' : get_or new (k - 1) 0 ≡ sum (take k old) = subst (λ i. get_or new (k - 1) 0 ≡ sum (take i old)) down before in
          subst (λ i. get_or (set new k (get_or new k 0 + get_or new (k - 1) 0)) i 0 ≡ sum (take (i + 1) old)) (sym e) (omega (arith, so.left k (omega arith))))
          (λ e. let stays : get_or (set new k (get_or new k 0 + get_or new (k - 1) 0)) j 0 ≡ get_or new j 0 = get_or-set_other new k j (get_or new k 0 + get_or new (k - 1) 0) 0 e in
          rw stays (so.done j (omega (arith, e)) in'))
          (cases_eq j k);
      left = λ j l.
          let stays : get_or (set new k (get_or new k 0 + get_or new (k - 1) 0)) j 0 ≡ get_or new j 0 = get_or-set_other new k j (get_or new k 0 + get_or new (k - 1) 0) 0 (λ e. omega arith) in
          rw stays (so.left j (omega arith));
    }

pub sums_fit : (k : ℕ) (old new : List ℕ) → 0 < k → k < length old → IsSummedUpTo k old new → get_or new k 0 + get_or new (k - 1) 0 ≤ sum old
sums_fit k old new some inside so =
    let before : get_or new (k - 1) 0 ≡ sum (take (k - 1 + 1) old) = so.done (k - 1) (omega arith) (omega arith) in
    let down : k - 1 + 1 ≡ k = omega arith in
    let before' : get_or new (k - 1) 0 ≡ sum (take k old) = subst (λ i. get_or new (k - 1) 0 ≡ sum (take i old)) down before in
    let more : sum (take (k + 1) old) ≡ sum (take k old) + get_or old k 0 = sum_by_more (λ x. x) old k 0 inside in
    omega (arith, so.left k (omega arith), sum_by-take-le (λ x. x) old (k + 1))

-- the counts add up to no more than there are items
pub counts_fit : {T : Type 0} (counts : List ℕ) (ps : List (ℕ × T)) → ((k : ℕ) → k < length counts → get_or counts k 0 ≡ length (with_key k ps)) → sum counts ≤ length ps
counts_fit counts ps each =
    let all : take (length counts) counts ≡ counts = take_all (length counts) counts (omega arith) in
    let sums : sum (take (length counts) counts) ≡ count_below (length counts) ps = sum_counts counts ps each (length counts) (omega arith) in
    let sums' : sum counts ≡ count_below (length counts) ps = rw all at sums in
    omega (arith, count_below-le (length counts) ps)
