-- The turns of those that stand in line, and what becomes of them as one comes, as the first leaves, and as another one does.
use Rattle.std.proofs.Common.{◌≡◌, ◌≢◌, ℕ, zero, suc, ◌+◌, ◌-◌, ◌%◌, ◌^◌, ◌<◌, ◌≤◌, ◌↔◌, ◌==◌, Bool, true, false, Option, Some, None, IsSome, IfSome, List, [], ◌∷◌, ◌++◌, length, slice_index_or, slice_set, drop, swap_remove, IsPermutation, refl, sym, ap, ◌∙◌, subst, ⊎_elim, true≢false, arith, eq-eqb, length-append, length-drop}
use Rattle.std.proofs.Math.ListN.{length-set}
use Rattle.std.proofs.Math.Seq.{get_or-append_seam}
use Rattle.std.proofs.lemmas.Bool.{cases_Bool, cases_eq, cases_lt, eqb-true}
use Rattle.std.proofs.lemmas.List.{get_or-set_same, get_or-set_other, get_or-take, get_or-drop, get_or_default, get_or_append_left}
use Rattle.std.proofs.lemmas.List.Sorted.{IsPermutation-swap_remove, sum_by-IsPermutation, length_permutation}
use Rattle.std.proofs.lemmas.List.Sums.{sum_by-cons}
use Rattle.gl_base.specs.declared.numbers.Vertex.{Vertex}
use Rattle.task_sets.specs.vertex_queue.Flags.{is_flagged}
use Rattle.task_sets.specs.vertex_queue.Inner.Queues.{bit_if, how_often, turn_behind, KeepsQueue, IsLine}
use Rattle.task_sets.proofs.vertex_queue.Queueing.{added, bits-le, flag_within, must, popped}

-- ---- numbers that wrap

-- two that are fewer than there are numbers have different turns
same_turn : (first i j : ℕ) → i < 2 ^ 32 → j < 2 ^ 32 → turn_behind first i ≡ turn_behind first j → i ≡ j
same_turn first i j low high same = omega arith

next_turn : (first k : ℕ) → turn_behind first (1 + k) ≡ turn_behind ((first + 1) % 2 ^ 32) k
next_turn first k = omega arith

turned : (first k : ℕ) → (k + first) % 2 ^ 32 ≡ turn_behind first k
turned first k = ap (λ n. n % 2 ^ 32) (omega arith)

-- ---- who stands where

counted_here : (line : List Vertex) (k : ℕ) (d : Vertex) → k < length line → 0 < how_often (slice_index_or line k d).0 line
counted_here [] k d low = absurd (omega arith)
counted_here (w ∷ rest) zero d low =
    let more = sum_by-cons (λ (x : Vertex). bit_if (x.0 == w.0)) w rest in
    let here : bit_if (w.0 == w.0) ≡ 1 = rw (eq-eqb w.0 w.0 refl) in
    omega (arith, more, here)
counted_here (w ∷ rest) (suc k) d low =
    let u = slice_index_or rest k d in
    let more = sum_by-cons (λ (x : Vertex). bit_if (x.0 == u.0)) w rest in
    let some = counted_here rest k d (omega arith) in
    omega (arith, more, some)

-- a place of the line at which u stands
record StandsThere (u : ℕ) (line : List Vertex) : Type 0 where
  place : ℕ
  low : place < length line
  there : (d : Vertex) → (slice_index_or line place d).0 ≡ u

stands_there : (u : ℕ) (line : List Vertex) → 0 < how_often u line → StandsThere u line
stands_there u [] some = absurd (omega arith)
stands_there u (w ∷ rest) some = ⊎_elim
    (λ (here : (w.0 == u) ≡ true). record { place = 0; low = omega arith; there = λ d. eqb-true w.0 u here })
    (λ (other : (w.0 == u) ≡ false).
    let more = sum_by-cons (λ (x : Vertex). bit_if (x.0 == u)) w rest in
    let none : bit_if (w.0 == u) ≡ 0 = rw other in
    let behind = stands_there u rest (omega (arith, more, none, some)) in
    record { place = suc behind.place; low = let low = behind.low in omega arith; there = behind.there })
    (cases_Bool (w.0 == u))

-- one is taken out of the line at this place, and the last one stands there then
pub record TakenAt (line new : List Vertex) (k : ℕ) : Type 0 where
  pub one : Vertex
  pub read : one ≡ slice_index_or line k one
  pub is : new ≡ swap_remove line k one

-- v leaves the line, and these stay: it is taken out at the place that its turn says, where one stands there
pub record Leaves (line : List Vertex) (turns : List ℕ) (first t : ℕ) (v : Vertex) (k : ℕ) (new : List Vertex) : Type 0 where
  pub few : k < 2 ^ 32
  pub turn : (k + first) % 2 ^ 32 ≡ t
  pub noted : slice_index_or turns v.0 0 ≡ t
  pub taken : k < length line → TakenAt line new k

module _ (among : List Bool) (line : List Vertex) (capacity : ℕ) (turns : List ℕ) (first : ℕ) (is : IsLine among line capacity turns first) where
  pub line_few : length line < 2 ^ 32
  line_few = let most = bits-le among in let few = is.queue.few in let all = is.few in omega arith

  -- who stands in line has a flag
  line_flagged : (k : ℕ) (d : Vertex) → k < length line → is_flagged among (slice_index_or line k d).0 ≡ true
  line_flagged k d low =
      let u = (slice_index_or line k d).0 in
      must (is_flagged among u) (subst (λ (n : ℕ). 0 < n) (is.queue.once u) (counted_here line k d low))

  -- no two places have one vertex
  line_apart : (i j : ℕ) (d : Vertex) → i < length line → j < length line → (slice_index_or line i d).0 ≡ (slice_index_or line j d).0 → i ≡ j
  line_apart i j d low high same =
      let few = line_few in
      same_turn first i j (omega arith) (omega arith) (sym (is.turn i d low) ∙ ap (λ (u : ℕ). slice_index_or turns u 0) same ∙ is.turn j d high)

  -- ---- one comes

  pub line_pushed : (v : Vertex) → v.0 < length among → is_flagged among v.0 ≡ false → IsLine (slice_set among v.0 true) (line ++ v ∷ []) capacity (slice_set turns v.0 (turn_behind first (length line))) first
  line_pushed v within away =
      let many = length-set among v.0 true in
      let room = is.room in
      let all = is.few in
      let noted = is.noted in
      record {
        queue = added among among line v within away is.queue;
        room = omega arith;
        few = omega arith;
        noted = length-set turns v.0 (turn_behind first (length line)) ∙ noted ∙ sym many;
        turn = λ k d low.
            ⊎_elim
            (λ (before : k < length line).
            let there = get_or_append_left line (v ∷ []) d k before in
            let other : (slice_index_or line k d).0 ≢ v.0 = λ same. true≢false (sym (line_flagged k d before) ∙ ap (is_flagged among) same ∙ away) in
            ap (λ (u : Vertex). slice_index_or (slice_set turns v.0 (turn_behind first (length line))) u.0 0) there
            ∙ get_or-set_other turns v.0 (slice_index_or line k d).0 (turn_behind first (length line)) 0 other ∙ is.turn k d before)
            (λ (behind : length line ≤ k).
            let long = length-append line (v ∷ []) in
            let last : k ≡ length line = omega arith in
            let here : slice_index_or (line ++ v ∷ []) k d ≡ v = ap (λ (i : ℕ). slice_index_or (line ++ v ∷ []) i d) last ∙ get_or-append_seam line v [] d in
            ap (λ (u : Vertex). slice_index_or (slice_set turns v.0 (turn_behind first (length line))) u.0 0) here
            ∙ get_or-set_same turns v.0 (turn_behind first (length line)) 0 (omega arith) ∙ ap (turn_behind first) (sym last))
            (cases_lt k (length line));
      }

  -- ---- the first leaves

  pub line_popped : (v : Vertex) → 0 < length line → v ≡ slice_index_or line 0 v → IsLine (slice_set among v.0 false) (drop 1 line) capacity turns ((first + 1) % 2 ^ 32)
  line_popped v some front =
      let many = length-set among v.0 false in
      let room = is.room in
      let all = is.few in
      record {
        queue = popped among line v some front is.queue;
        room = omega arith;
        few = omega arith;
        noted = is.noted ∙ sym many;
        turn = λ k d low.
            let long = length-drop 1 line in
            ap (λ (u : Vertex). slice_index_or turns u.0 0) (get_or-drop 1 line k d) ∙ is.turn (1 + k) d (omega arith) ∙ next_turn first k;
      }

  -- ---- one leaves, whether it is the first or not

  -- what the code reads says so
  pub leaves_so : (t : ℕ) (v : Vertex) (n : ℕ) (o : Option Vertex) (new : List Vertex) → first < 2 ^ 32 → is_flagged among v.0 ≡ true → t ≡ slice_index_or turns v.0 t → n ≡ length line
      → IsSome o ↔ ((t + (2 ^ 32 - first)) % 2 ^ 32 < n) → IfSome o (λ y. y ≡ slice_index_or line ((t + (2 ^ 32 - first)) % 2 ^ 32) y) → IfSome o (λ y. new ≡ swap_remove line ((t + (2 ^ 32 - first)) % 2 ^ 32) y)
      → Leaves line turns first t v ((t + (2 ^ 32 - first)) % 2 ^ 32) new
  leaves_so t v n o new low there read long some value items =
      let within : v.0 < length turns = let inner = flag_within among v.0 there in let noted = is.noted in omega arith in
      let stands = stands_there v.0 line (let once = is.queue.once v.0 in let one : bit_if (is_flagged among v.0) ≡ 1 = rw there in omega arith) in
      let noted : slice_index_or turns v.0 0 ≡ t = get_or_default turns v.0 0 t within ∙ sym read in
      let turn : t ≡ turn_behind first stands.place = sym noted ∙ ap (λ (u : ℕ). slice_index_or turns u 0) (sym (stands.there v)) ∙ is.turn stands.place v stands.low in
      record {
        few = omega arith;
        turn = omega arith;
        noted = noted;
        taken = λ inside. by o (some.1 (omega arith)) value items;
      }
    where
      by : (o : Option Vertex) → IsSome o → IfSome o (λ y. y ≡ slice_index_or line ((t + (2 ^ 32 - first)) % 2 ^ 32) y) → IfSome o (λ y. new ≡ swap_remove line ((t + (2 ^ 32 - first)) % 2 ^ 32) y)
          → TakenAt line new ((t + (2 ^ 32 - first)) % 2 ^ 32)
      by None some value items = absurd (true≢false (sym some))
      by (Some y) some value items = record { one = y; read = value; is = items }

  module _ (t : ℕ) (v : Vertex) (k : ℕ) (new : List Vertex) (there : is_flagged among v.0 ≡ true) (leaves : Leaves line turns first t v k new) where
    stands : StandsThere v.0 line
    stands = stands_there v.0 line (let once = is.queue.once v.0 in let one : bit_if (is_flagged among v.0) ≡ 1 = rw there in omega arith)

    -- that is its place
    place_is : k ≡ stands.place
    place_is =
        let few = line_few in
        let within = stands.low in
        same_turn first k stands.place leaves.few (omega arith)
        (sym (turned first k) ∙ leaves.turn ∙ sym leaves.noted ∙ ap (λ (u : ℕ). slice_index_or turns u 0) (sym (stands.there v)) ∙ is.turn stands.place v stands.low)

    within : k < length line
    within = subst (λ (n : ℕ). n < length line) (sym place_is) stands.low

    here : (d : Vertex) → slice_index_or line k d ≡ v
    here d = let same = ap (λ (n : ℕ). (slice_index_or line n d).0) place_is ∙ stands.there d in λ i. record { 0 = same i }

    left_is : new ≡ swap_remove line k v
    left_is = let taken = leaves.taken within in taken.is ∙ ap (swap_remove line k) (taken.read ∙ here taken.one)

    pub line_others : IsPermutation line (v ∷ new)
    line_others = subst (λ (ws : List Vertex). IsPermutation line (v ∷ ws)) (sym left_is) (IsPermutation-swap_remove line k v within (sym (here v)))

    long : length new + 1 ≡ length line
    long = let same = length_permutation line (v ∷ new) line_others in omega arith

    -- the last one takes its place, and the others stay
    moved_here : (d : Vertex) → k < length new → slice_index_or new k d ≡ slice_index_or line (length line - 1) v
    moved_here d inside =
        let many = long in
        ap (λ (ws : List Vertex). slice_index_or ws k d) left_is
        ∙ get_or-take (length line - 1) (slice_set line k (slice_index_or line (length line - 1) v)) k d (omega arith)
        ∙ get_or-set_same line k (slice_index_or line (length line - 1) v) d within

    stays_there : (j : ℕ) (d : Vertex) → j < length new → j ≢ k → slice_index_or new j d ≡ slice_index_or line j d
    stays_there j d inside other =
        let many = long in
        ap (λ (ws : List Vertex). slice_index_or ws j d) left_is
        ∙ get_or-take (length line - 1) (slice_set line k (slice_index_or line (length line - 1) v)) j d (omega arith)
        ∙ get_or-set_other line k j (slice_index_or line (length line - 1) v) d other

    queue_left : KeepsQueue (slice_set among v.0 false) (slice_set among v.0 false) new
    queue_left = popped among (v ∷ new) v (omega arith) refl
        (record {
          as_many = refl;
          once = λ u. sum_by-IsPermutation (λ (w : Vertex). bit_if (w.0 == u)) line (v ∷ new) line_others ∙ is.queue.once u;
          few = length_permutation line (v ∷ new) line_others ∙ is.queue.few;
          waiting = is.queue.waiting;
        })

    line_left : (later : List ℕ) → length later ≡ length turns → ((j : ℕ) (d : Vertex) → j < length new → slice_index_or later (slice_index_or new j d).0 0 ≡ turn_behind first j) → IsLine (slice_set among v.0 false) new capacity later first
    line_left later many noted =
        let flags = length-set among v.0 false in
        let room = is.room in
        let all = is.few in
        record { queue = queue_left; room = omega arith; few = omega arith; noted = many ∙ is.noted ∙ sym flags; turn = noted }

    -- it was the last
    pub line_left_last : length new ≤ k → IsLine (slice_set among v.0 false) new capacity turns first
    line_left_last past = line_left turns refl
        (λ j d inside. ap (λ (u : Vertex). slice_index_or turns u.0 0) (stays_there j d inside (omega arith)) ∙ is.turn j d (let many = long in omega arith))

    last_flagged : is_flagged among (slice_index_or line (length line - 1) v).0 ≡ true
    last_flagged = let some = within in line_flagged (length line - 1) v (omega arith)

    pub moved_within : (w : Vertex) → k < length new → w ≡ slice_index_or new k w → w.0 < length turns
    moved_within w inside read =
        let low = flag_within among w.0 (ap (λ (u : Vertex). is_flagged among u.0) (read ∙ moved_here w inside) ∙ last_flagged) in
        let noted = is.noted in
        omega arith

    -- the one that has its place has its turn
    pub line_left_moved : (w : Vertex) → k < length new → w ≡ slice_index_or new k w → IsLine (slice_set among v.0 false) new capacity (slice_set turns w.0 t) first
    line_left_moved w inside read =
        let many = long in
        let end : length line - 1 < length line = omega arith in
        let is_last : w ≡ slice_index_or line (length line - 1) v = read ∙ moved_here w inside in
        line_left (slice_set turns w.0 t) (length-set turns w.0 t)
        (λ j d low_j.
        ⊎_elim
        (λ (same : j ≡ k).
        let one : slice_index_or new j d ≡ w = ap (λ (n : ℕ). slice_index_or new n d) same ∙ moved_here d inside ∙ sym is_last in
        ap (λ (u : Vertex). slice_index_or (slice_set turns w.0 t) u.0 0) one
        ∙ get_or-set_same turns w.0 t 0 (moved_within w inside read) ∙ sym leaves.turn ∙ turned first k ∙ ap (turn_behind first) (sym same))
        (λ (other : j ≢ k).
        let before : j < length line = omega arith in
        let apart : (slice_index_or line j d).0 ≢ w.0 = λ equal.
        let same = line_apart j (length line - 1) d before end (equal ∙ ap (λ (u : Vertex). u.0) (is_last ∙ get_or_default line (length line - 1) v d end)) in omega arith in
        ap (λ (u : Vertex). slice_index_or (slice_set turns w.0 t) u.0 0) (stays_there j d low_j other)
        ∙ get_or-set_other turns w.0 (slice_index_or line j d).0 t 0 apart ∙ is.turn j d before)
        (cases_eq j k))
