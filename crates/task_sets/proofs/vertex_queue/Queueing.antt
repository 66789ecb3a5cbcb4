-- A queue of members, and what adding, removing and dropping leave of it.
use Rattle.std.proofs.Common.{◌≡◌, ℕ, ◌+◌, ◌<◌, ◌≤◌, Bool, true, false, if◌then◌else◌, ◌==◌, nat_lt, List, [], ◌∷◌, ◌++◌, length, slice_index_or, slice_set, drop, sum_by, refl, sym, ◌∙◌, subst, ⊎_elim, true≢false, arith, eq-eqb, ne_eqb, length-append}
use Rattle.std.specs.List.{list_any}
use Rattle.std.proofs.Math.ListN.{length-set, replicate}
use Rattle.std.proofs.lemmas.Bool.{cases_Bool, cases_eq, cases_lt, lt-ltb, le-ltb}
use Rattle.std.proofs.lemmas.List.{get_or-set_same, get_or-set_other, get_or_past, get_or-replicate, length-replicate}
use Rattle.std.proofs.lemmas.List.Sums.{sum_by-cons, sum_by_push, sum_by-set, sum_by-le}
use Rattle.std.proofs.lemmas.List.Folds.{sum_by-replicate}
use Rattle.gl_base.specs.declared.numbers.Vertex.{Vertex}
use Rattle.task_sets.specs.vertex_queue.Flags.{is_flagged}
use Rattle.task_sets.specs.vertex_queue.Inner.Queues.{bit_if, how_often, KeepsQueue, IsMemberFirst}

-- what a is_flagged is after one was written
pub is_flagged-set : (flags : List Bool) (v u : ℕ) (b : Bool) → v < length flags → is_flagged (slice_set flags v b) u ≡ (if u == v then b else is_flagged flags u)
is_flagged-set flags v u b within = ⊎_elim
    (λ (same : u ≡ v). rw (eq-eqb u v same) (subst (λ x. is_flagged (slice_set flags v b) x ≡ b) (sym same) (get_or-set_same flags v b false within)))
    (λ (other : u ≡ v → ⊥). rw (ne_eqb u v other) (get_or-set_other flags v u b false other))
    (cases_eq u v)

-- what is true stays so where another one becomes true
is_flagged-raised : (flags : List Bool) (v u : ℕ) → v < length flags → is_flagged flags u ≡ true → is_flagged (slice_set flags v true) u ≡ true
is_flagged-raised flags v u within yes_before = ⊎_elim
    (λ (same : u ≡ v). subst (λ x. is_flagged (slice_set flags v true) x ≡ true) (sym same) (get_or-set_same flags v true false within))
    (λ (other : u ≡ v → ⊥). get_or-set_other flags v u true false other ∙ yes_before)
    (cases_eq u v)

-- a is_flagged that is true is one of the list
pub flag_within : (flags : List Bool) (u : ℕ) → is_flagged flags u ≡ true → u < length flags
flag_within flags u yes_flag = ⊎_elim
    (λ (within : u < length flags). within)
    (λ (past : length flags ≤ u). absurd (true≢false (sym yes_flag ∙ get_or_past flags u false past)))
    (cases_lt u (length flags))

bit_if-le : (b : Bool) → bit_if b ≤ 1
bit_if-le true = omega arith
bit_if-le false = omega arith

pub bits-le : (flags : List Bool) → sum_by bit_if flags ≤ length flags
bits-le flags = let most = sum_by-le bit_if 1 flags (λ k d within. bit_if-le (slice_index_or flags k d)) in omega arith

-- one is_flagged that is false leaves room for it
pub room_for_one : (flags : List Bool) (v : ℕ) → v < length flags → is_flagged flags v ≡ false → sum_by bit_if flags < length flags
room_for_one flags v within down =
    let longer = sum_by-set bit_if flags v true false within in
    let most = bits-le (slice_set flags v true) in
    let long = length-set flags v true in
    let none : bit_if (is_flagged flags v) ≡ 0 = rw down in
    omega arith

pub added_again : (members queued : List Bool) (queue : List Vertex) (v : ℕ) → v < length members → is_flagged queued v ≡ true → KeepsQueue members queued queue → KeepsQueue (slice_set members v true) queued queue
added_again members queued queue v within there is =
    record {
      as_many = is.as_many ∙ sym (length-set members v true);
      once = is.once;
      few = is.few;
      waiting = λ u member. ⊎_elim
          (λ (same : u ≡ v). subst (λ x. is_flagged queued x ≡ true) (sym same) there)
          (λ (other : u ≡ v → ⊥). is.waiting u (sym (get_or-set_other members v u true false other) ∙ member))
          (cases_eq u v);
    }

pub added : (members queued : List Bool) (queue : List Vertex) (v : Vertex) → v.0 < length members → is_flagged queued v.0 ≡ false → KeepsQueue members queued queue → KeepsQueue (slice_set members v.0 true) (slice_set queued v.0 true) (queue ++ v ∷ [])
added members queued queue v within absent is =
    let inside : v.0 < length queued = let m = is.as_many in omega arith in
    record {
      as_many = length-set queued v.0 true ∙ is.as_many ∙ sym (length-set members v.0 true);
      once = λ u.
          let longer = sum_by_push (λ (w : Vertex). bit_if (w.0 == u)) queue v in
          let before = is.once u in ⊎_elim
          (λ (same : u ≡ v.0).
          let here : bit_if (v.0 == u) ≡ 1 = rw (eq-eqb v.0 u (sym same)) in
          let was : bit_if (is_flagged queued u) ≡ 0 = subst (λ x. bit_if (is_flagged queued x) ≡ 0) (sym same) (rw absent) in
          let now : bit_if (is_flagged (slice_set queued v.0 true) u) ≡ 1 = subst (λ x. bit_if (is_flagged (slice_set queued v.0 true) x) ≡ 1) (sym same) (rw (get_or-set_same queued v.0 true false inside)) in
          omega (arith, longer, before, here, was, now))
          (λ (other : u ≡ v.0 → ⊥).
          let here : bit_if (v.0 == u) ≡ 0 = rw (ne_eqb v.0 u (λ same. other (sym same))) in
          let now : bit_if (is_flagged (slice_set queued v.0 true) u) ≡ bit_if (is_flagged queued u) = rw (get_or-set_other queued v.0 u true false other) in
          omega (arith, longer, before, here, now))
          (cases_eq u v.0);
      few =
          let longer = sum_by-set bit_if queued v.0 true false inside in
          let none : bit_if (is_flagged queued v.0) ≡ 0 = rw absent in
          let more = length-append queue (v ∷ []) in
          let before = is.few in omega (arith, longer, none, more, before);
      waiting = λ u member. ⊎_elim
          (λ (same : u ≡ v.0). subst (λ x. is_flagged (slice_set queued v.0 true) x ≡ true) (sym same) (get_or-set_same queued v.0 true false inside))
          (λ (other : u ≡ v.0 → ⊥). get_or-set_other queued v.0 u true false other ∙ is.waiting u (sym (get_or-set_other members v.0 u true false other) ∙ member))
          (cases_eq u v.0);
    }

pub removed : (members queued : List Bool) (queue : List Vertex) (v : ℕ) → v < length members → KeepsQueue members queued queue → KeepsQueue (slice_set members v false) queued queue
removed members queued queue v within is =
    record {
      as_many = is.as_many ∙ sym (length-set members v false);
      once = is.once;
      few = is.few;
      waiting = λ u member. ⊎_elim
          (λ (same : u ≡ v). absurd (true≢false (sym member ∙ subst (λ x. is_flagged (slice_set members v false) x ≡ false) (sym same) (get_or-set_same members v false false within))))
          (λ (other : u ≡ v → ⊥). is.waiting u (sym (get_or-set_other members v u false false other) ∙ member))
          (cases_eq u v);
    }

-- whatever stands in the queue is queued
first_queued : (queued : List Bool) (v : Vertex) (rest : List Vertex) → how_often v.0 (v ∷ rest) ≡ bit_if (is_flagged queued v.0) → is_flagged queued v.0 ≡ true
first_queued queued v rest once = ⊎_elim
    (λ (up : is_flagged queued v.0 ≡ true). up)
    (λ (down : is_flagged queued v.0 ≡ false).
    let more = sum_by-cons (λ (w : Vertex). bit_if (w.0 == v.0)) v rest in
    let here : bit_if (v.0 == v.0) ≡ 1 = rw (eq-eqb v.0 v.0 refl) in
    let none : bit_if (is_flagged queued v.0) ≡ 0 = rw down in
    absurd (omega (arith, more, here, none, once)))
    (cases_Bool (is_flagged queued v.0))

-- the first vertex of the queue is one that has a is_flagged
pub first_within : (members queued : List Bool) (queue : List Vertex) (v : Vertex) → 0 < length queue → v ≡ slice_index_or queue 0 v → KeepsQueue members queued queue → v.0 < length queued
first_within members queued [] v some first is = absurd (omega arith)
first_within members queued (w ∷ rest) v some first is =
    subst (λ (x : Vertex). x.0 < length queued) (sym first) (flag_within queued w.0 (first_queued queued w rest (is.once w.0)))

pub dropped : (members queued : List Bool) (v : Vertex) (rest : List Vertex) → is_flagged members v.0 ≡ false → KeepsQueue members queued (v ∷ rest) → KeepsQueue members (slice_set queued v.0 false) rest
dropped members queued v rest done is =
    let there = first_queued queued v rest (is.once v.0) in
    let inside = flag_within queued v.0 there in
    record {
      as_many = length-set queued v.0 false ∙ is.as_many;
      once = λ u.
          let shorter = sum_by-cons (λ (w : Vertex). bit_if (w.0 == u)) v rest in
          let before = is.once u in ⊎_elim
          (λ (same : u ≡ v.0).
          let here : bit_if (v.0 == u) ≡ 1 = rw (eq-eqb v.0 u (sym same)) in
          let was : bit_if (is_flagged queued u) ≡ 1 = subst (λ x. bit_if (is_flagged queued x) ≡ 1) (sym same) (rw there) in
          let now : bit_if (is_flagged (slice_set queued v.0 false) u) ≡ 0 = subst (λ x. bit_if (is_flagged (slice_set queued v.0 false) x) ≡ 0) (sym same) (rw (get_or-set_same queued v.0 false false inside)) in
          omega (arith, shorter, before, here, was, now))
          (λ (other : u ≡ v.0 → ⊥).
          let here : bit_if (v.0 == u) ≡ 0 = rw (ne_eqb v.0 u (λ same. other (sym same))) in
          let now : bit_if (is_flagged (slice_set queued v.0 false) u) ≡ bit_if (is_flagged queued u) = rw (get_or-set_other queued v.0 u false false other) in
          omega (arith, shorter, before, here, now))
          (cases_eq u v.0);
      few =
          let shorter = sum_by-set bit_if queued v.0 false false inside in
          let one : bit_if (is_flagged queued v.0) ≡ 1 = rw there in
          let before = is.few in omega (arith, shorter, one, before);
      waiting = λ u member. get_or-set_other queued v.0 u false false (λ same. true≢false (sym member ∙ subst (λ x. is_flagged members x ≡ false) (sym same) done)) ∙ is.waiting u member;
    }

-- the first vertex leaves the queue, where it is no member any more
pub first_dropped : (members queued : List Bool) (queue : List Vertex) (v : Vertex) → 0 < length queue → v ≡ slice_index_or queue 0 v → is_flagged members v.0 ≡ false → KeepsQueue members queued queue → KeepsQueue members (slice_set queued v.0 false) (drop 1 queue)
first_dropped members queued [] v some first done is = absurd (omega arith)
first_dropped members queued (w ∷ rest) v some first done is =
    subst (λ (x : Vertex). KeepsQueue members (slice_set queued x.0 false) rest) (sym first) (dropped members queued w rest (subst (λ (x : Vertex). is_flagged members x.0 ≡ false) first done) is)

-- where nothing is queued, nothing is a member
pub none_waits : (members queued : List Bool) (queue : List Vertex) → length queue ≡ 0 → KeepsQueue members queued queue → (u : ℕ) → is_flagged members u ≡ false
none_waits members queued (v ∷ rest) none is u = absurd (omega arith)
none_waits members queued [] none is u = ⊎_elim
    (λ (member : is_flagged members u ≡ true).
    let one : bit_if (is_flagged queued u) ≡ 1 = rw (is.waiting u member) in
    let zero_times = is.once u in absurd (omega (arith, one, zero_times)))
    (λ (no_task : is_flagged members u ≡ false). no_task)
    (cases_Bool (is_flagged members u))

pub flags_down : (n u : ℕ) → is_flagged (replicate n false) u ≡ false
flags_down n u = ⊎_elim
    (λ (within : u < n). get_or-replicate n u false false within)
    (λ (past : n ≤ u). get_or_past (replicate n false) u false (rw length-replicate past))
    (cases_lt u n)

pub none_queued : (n : ℕ) → KeepsQueue (replicate n false) (replicate n false) []
none_queued n =
    record {
      as_many = refl;
      once = λ u. rw (flags_down n u) refl;
      few = let sum = sum_by-replicate bit_if n false in omega (arith, sum);
      waiting = λ u member. absurd (true≢false (sym member ∙ flags_down n u));
    }

pub first_raised : (members : List Bool) (queue : List Vertex) (v : ℕ) → v < length members → IsMemberFirst members queue → IsMemberFirst (slice_set members v true) queue
first_raised members queue v within first = λ d some. is_flagged-raised members v (slice_index_or queue 0 d).0 within (first d some)

pub first_added : (members : List Bool) (queue : List Vertex) (v : Vertex) → v.0 < length members → IsMemberFirst members queue → IsMemberFirst (slice_set members v.0 true) (queue ++ v ∷ [])
first_added members [] v within first = λ d some. get_or-set_same members v.0 true false within
first_added members (w ∷ queue) v within first = λ d some. is_flagged-raised members v.0 w.0 within (first d (omega arith))

-- the members below i were added, one after another
pub added_below : (flags : List Bool) (i u : ℕ) → i < length flags → is_flagged flags u ≡ nat_lt u i → is_flagged (slice_set flags i true) u ≡ nat_lt u (i + 1)
added_below flags i u within before = is_flagged-set flags i u true within ∙ rw before (at_most i u)
  where
    at_most : (i u : ℕ) → (if u == i then true else nat_lt u i) ≡ nat_lt u (i + 1)
    at_most i u = ⊎_elim
        (λ (same : u ≡ i). rw (eq-eqb u i same) (sym (lt-ltb u (i + 1) (omega arith))))
        (λ (other : u ≡ i → ⊥). rw (ne_eqb u i other) (⊎_elim
        (λ (low : u < i). lt-ltb u i low ∙ sym (lt-ltb u (i + 1) (omega arith)))
        (λ (high : i ≤ u). le-ltb u i high ∙ sym (le-ltb u (i + 1) (omega arith)))
        (cases_lt u i)))
        (cases_eq u i)

-- the first in line leaves it
pub popped : (among : List Bool) (line : List Vertex) (v : Vertex) → 0 < length line → v ≡ slice_index_or line 0 v → KeepsQueue among among line → KeepsQueue (slice_set among v.0 false) (slice_set among v.0 false) (drop 1 line)
popped among line v some first is =
    let within = first_within among among line v some first is in
    first_dropped (slice_set among v.0 false) among line v some first (get_or-set_same among v.0 false false within) (removed among among line v.0 within is)

pub must : (b : Bool) → 0 < bit_if b → b ≡ true
must true some = refl
must false some = absurd (omega arith)

-- who stands in the line once is one of it
pub listed : (u : ℕ) (line : List Vertex) (b : Bool) → how_often u line ≡ bit_if b → list_any (λ v. v.0 == u) line ≡ b
listed u [] true is = let none : 0 ≡ 1 = is in absurd (omega arith)
listed u [] false is = refl
listed u (v ∷ rest) b is =
    let more = sum_by-cons (λ (w : Vertex). bit_if (w.0 == u)) v rest in ⊎_elim
    (λ (here : (v.0 == u) ≡ true).
    let one : bit_if (v.0 == u) ≡ 1 = rw here in
    let up : b ≡ true = must b (omega (arith, more, one, is)) in rw here (sym up))
    (λ (other : (v.0 == u) ≡ false).
    let none : bit_if (v.0 == u) ≡ 0 = rw other in
    let fewer : how_often u rest ≡ bit_if b = omega (arith, more, none, is) in
    rw other (listed u rest b fewer))
    (cases_Bool (v.0 == u))
