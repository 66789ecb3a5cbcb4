-- A queue of tasks, and what adding, removing and dropping leave of it.
use Rattle.std.proofs.Common.{◌≡◌, ap, take, ◌||◌, ℕ, ◌+◌, ◌<◌, ◌≤◌, Bool, true, false, if◌then◌else◌, ◌==◌, nat_lt, List, [], ◌∷◌, ◌++◌, length, slice_index_or, slice_set, drop, sum_by, refl, sym, ◌∙◌, subst, ⊎_elim, true≢false, arith, eq-eqb, ne_eqb, length-append}
use Rattle.std.proofs.Math.ListN.{length-set, replicate}
use Rattle.std.proofs.lemmas.Bool.{cases_Bool, cases_eq, cases_lt, lt-ltb, le-ltb}
use Rattle.std.proofs.lemmas.List.{take_more, map-append, get_or-set_same, get_or-set_other, get_or_past, get_or-replicate, length-replicate}
use Rattle.std.proofs.lemmas.List.Sums.{sum_by-cons, sum_by_push, sum_by-set, sum_by-le}
use Rattle.std.proofs.lemmas.List.Folds.{sum_by-replicate}
use Rattle.gl_base.specs.declared.numbers.Vertex.{Vertex}
use Rattle.graph_core.specs.Growth.{is_listed, numbers_of}
use Rattle.graph_core.proofs.GrowthMarks.{is_listed-push}
use Rattle.seq_run.specs.Inner.TaskQueues.{flag, bit, times, IsQueueOf, IsTaskFirst}

-- what a flag is after one was written
pub flag-set : (flags : List Bool) (v u : ℕ) (b : Bool) → v < length flags → flag (slice_set flags v b) u ≡ (if u == v then b else flag flags u)
flag-set flags v u b within = ⊎_elim
    (λ (same : u ≡ v). rw (eq-eqb u v same) (subst (λ x. flag (slice_set flags v b) x ≡ b) (sym same) (get_or-set_same flags v b false within)))
    (λ (other : u ≡ v → ⊥). rw (ne_eqb u v other) (get_or-set_other flags v u b false other))
    (cases_eq u v)

-- what is true stays so where another one becomes true
flag-raised : (flags : List Bool) (v u : ℕ) → v < length flags → flag flags u ≡ true → flag (slice_set flags v true) u ≡ true
flag-raised flags v u within yes_before = ⊎_elim
    (λ (same : u ≡ v). subst (λ x. flag (slice_set flags v true) x ≡ true) (sym same) (get_or-set_same flags v true false within))
    (λ (other : u ≡ v → ⊥). get_or-set_other flags v u true false other ∙ yes_before)
    (cases_eq u v)

-- a flag that is true is one of the list
pub flag_within : (flags : List Bool) (u : ℕ) → flag flags u ≡ true → u < length flags
flag_within flags u yes_flag = ⊎_elim
    (λ (within : u < length flags). within)
    (λ (past : length flags ≤ u). absurd (true≢false (sym yes_flag ∙ get_or_past flags u false past)))
    (cases_lt u (length flags))

bit-le : (b : Bool) → bit b ≤ 1
bit-le true = omega arith
bit-le false = omega arith

bits-le : (flags : List Bool) → sum_by bit flags ≤ length flags
bits-le flags = let most = sum_by-le bit 1 flags (λ k d within. bit-le (slice_index_or flags k d)) in omega arith

-- one flag that is false leaves room for it
pub room_for_one : (flags : List Bool) (v : ℕ) → v < length flags → flag flags v ≡ false → sum_by bit flags < length flags
room_for_one flags v within down =
    let longer = sum_by-set bit flags v true false within in
    let most = bits-le (slice_set flags v true) in
    let long = length-set flags v true in
    let none : bit (flag flags v) ≡ 0 = rw down in
    omega arith

pub added_again : (tasks queued : List Bool) (queue : List Vertex) (v : ℕ) → v < length tasks → flag queued v ≡ true → IsQueueOf tasks queued queue → IsQueueOf (slice_set tasks v true) queued queue
added_again tasks queued queue v within there is =
    record {
      as_many = is.as_many ∙ sym (length-set tasks v true);
      once = is.once;
      few = is.few;
      waiting = λ u task. ⊎_elim
          (λ (same : u ≡ v). subst (λ x. flag queued x ≡ true) (sym same) there)
          (λ (other : u ≡ v → ⊥). is.waiting u (sym (get_or-set_other tasks v u true false other) ∙ task))
          (cases_eq u v);
    }

pub added : (tasks queued : List Bool) (queue : List Vertex) (v : Vertex) → v.0 < length tasks → flag queued v.0 ≡ false → IsQueueOf tasks queued queue → IsQueueOf (slice_set tasks v.0 true) (slice_set queued v.0 true) (queue ++ v ∷ [])
added tasks queued queue v within absent is =
    let inside : v.0 < length queued = let m = is.as_many in omega arith in
    record {
      as_many = length-set queued v.0 true ∙ is.as_many ∙ sym (length-set tasks v.0 true);
      once = λ u.
          let longer = sum_by_push (λ (w : Vertex). bit (w.0 == u)) queue v in
          let before = is.once u in ⊎_elim
          (λ (same : u ≡ v.0).
          let here : bit (v.0 == u) ≡ 1 = rw (eq-eqb v.0 u (sym same)) in
          let was : bit (flag queued u) ≡ 0 = subst (λ x. bit (flag queued x) ≡ 0) (sym same) (rw absent) in
          let now : bit (flag (slice_set queued v.0 true) u) ≡ 1 = subst (λ x. bit (flag (slice_set queued v.0 true) x) ≡ 1) (sym same) (rw (get_or-set_same queued v.0 true false inside)) in
          omega (arith, longer, before, here, was, now))
          (λ (other : u ≡ v.0 → ⊥).
          let here : bit (v.0 == u) ≡ 0 = rw (ne_eqb v.0 u (λ same. other (sym same))) in
          let now : bit (flag (slice_set queued v.0 true) u) ≡ bit (flag queued u) = rw (get_or-set_other queued v.0 u true false other) in
          omega (arith, longer, before, here, now))
          (cases_eq u v.0);
      few =
          let longer = sum_by-set bit queued v.0 true false inside in
          let none : bit (flag queued v.0) ≡ 0 = rw absent in
          let more = length-append queue (v ∷ []) in
          let before = is.few in omega (arith, longer, none, more, before);
      waiting = λ u task. ⊎_elim
          (λ (same : u ≡ v.0). subst (λ x. flag (slice_set queued v.0 true) x ≡ true) (sym same) (get_or-set_same queued v.0 true false inside))
          (λ (other : u ≡ v.0 → ⊥). get_or-set_other queued v.0 u true false other ∙ is.waiting u (sym (get_or-set_other tasks v.0 u true false other) ∙ task))
          (cases_eq u v.0);
    }

pub removed : (tasks queued : List Bool) (queue : List Vertex) (v : ℕ) → v < length tasks → IsQueueOf tasks queued queue → IsQueueOf (slice_set tasks v false) queued queue
removed tasks queued queue v within is =
    record {
      as_many = is.as_many ∙ sym (length-set tasks v false);
      once = is.once;
      few = is.few;
      waiting = λ u task. ⊎_elim
          (λ (same : u ≡ v). absurd (true≢false (sym task ∙ subst (λ x. flag (slice_set tasks v false) x ≡ false) (sym same) (get_or-set_same tasks v false false within))))
          (λ (other : u ≡ v → ⊥). is.waiting u (sym (get_or-set_other tasks v u false false other) ∙ task))
          (cases_eq u v);
    }

-- whatever stands in the queue is queued
first_queued : (queued : List Bool) (v : Vertex) (rest : List Vertex) → times v.0 (v ∷ rest) ≡ bit (flag queued v.0) → flag queued v.0 ≡ true
first_queued queued v rest once = ⊎_elim
    (λ (up : flag queued v.0 ≡ true). up)
    (λ (down : flag queued v.0 ≡ false).
    let more = sum_by-cons (λ (w : Vertex). bit (w.0 == v.0)) v rest in
    let here : bit (v.0 == v.0) ≡ 1 = rw (eq-eqb v.0 v.0 refl) in
    let none : bit (flag queued v.0) ≡ 0 = rw down in
    absurd (omega (arith, more, here, none, once)))
    (cases_Bool (flag queued v.0))

-- the first vertex of the queue is one that has a flag
pub first_within : (tasks queued : List Bool) (queue : List Vertex) (v : Vertex) → 0 < length queue → v ≡ slice_index_or queue 0 v → IsQueueOf tasks queued queue → v.0 < length queued
first_within tasks queued [] v some first is = absurd (omega arith)
first_within tasks queued (w ∷ rest) v some first is =
    subst (λ (x : Vertex). x.0 < length queued) (sym first) (flag_within queued w.0 (first_queued queued w rest (is.once w.0)))

pub dropped : (tasks queued : List Bool) (v : Vertex) (rest : List Vertex) → flag tasks v.0 ≡ false → IsQueueOf tasks queued (v ∷ rest) → IsQueueOf tasks (slice_set queued v.0 false) rest
dropped tasks queued v rest done is =
    let there = first_queued queued v rest (is.once v.0) in
    let inside = flag_within queued v.0 there in
    record {
      as_many = length-set queued v.0 false ∙ is.as_many;
      once = λ u.
          let shorter = sum_by-cons (λ (w : Vertex). bit (w.0 == u)) v rest in
          let before = is.once u in ⊎_elim
          (λ (same : u ≡ v.0).
          let here : bit (v.0 == u) ≡ 1 = rw (eq-eqb v.0 u (sym same)) in
          let was : bit (flag queued u) ≡ 1 = subst (λ x. bit (flag queued x) ≡ 1) (sym same) (rw there) in
          let now : bit (flag (slice_set queued v.0 false) u) ≡ 0 = subst (λ x. bit (flag (slice_set queued v.0 false) x) ≡ 0) (sym same) (rw (get_or-set_same queued v.0 false false inside)) in
          omega (arith, shorter, before, here, was, now))
          (λ (other : u ≡ v.0 → ⊥).
          let here : bit (v.0 == u) ≡ 0 = rw (ne_eqb v.0 u (λ same. other (sym same))) in
          let now : bit (flag (slice_set queued v.0 false) u) ≡ bit (flag queued u) = rw (get_or-set_other queued v.0 u false false other) in
          omega (arith, shorter, before, here, now))
          (cases_eq u v.0);
      few =
          let shorter = sum_by-set bit queued v.0 false false inside in
          let one : bit (flag queued v.0) ≡ 1 = rw there in
          let before = is.few in omega (arith, shorter, one, before);
      waiting = λ u task. get_or-set_other queued v.0 u false false (λ same. true≢false (sym task ∙ subst (λ x. flag tasks x ≡ false) (sym same) done)) ∙ is.waiting u task;
    }

-- the first vertex leaves the queue, where it is no task any more
pub first_dropped : (tasks queued : List Bool) (queue : List Vertex) (v : Vertex) → 0 < length queue → v ≡ slice_index_or queue 0 v → flag tasks v.0 ≡ false → IsQueueOf tasks queued queue → IsQueueOf tasks (slice_set queued v.0 false) (drop 1 queue)
first_dropped tasks queued [] v some first done is = absurd (omega arith)
first_dropped tasks queued (w ∷ rest) v some first done is =
    subst (λ (x : Vertex). IsQueueOf tasks (slice_set queued x.0 false) rest) (sym first) (dropped tasks queued w rest (subst (λ (x : Vertex). flag tasks x.0 ≡ false) first done) is)

-- where nothing is queued, nothing is a task
pub none_waits : (tasks queued : List Bool) (queue : List Vertex) → length queue ≡ 0 → IsQueueOf tasks queued queue → (u : ℕ) → flag tasks u ≡ false
none_waits tasks queued (v ∷ rest) none is u = absurd (omega arith)
none_waits tasks queued [] none is u = ⊎_elim
    (λ (task : flag tasks u ≡ true).
    let one : bit (flag queued u) ≡ 1 = rw (is.waiting u task) in
    let zero_times = is.once u in absurd (omega (arith, one, zero_times)))
    (λ (no_task : flag tasks u ≡ false). no_task)
    (cases_Bool (flag tasks u))

pub flags_down : (n u : ℕ) → flag (replicate n false) u ≡ false
flags_down n u = ⊎_elim
    (λ (within : u < n). get_or-replicate n u false false within)
    (λ (past : n ≤ u). get_or_past (replicate n false) u false (rw length-replicate past))
    (cases_lt u n)

pub none_queued : (n : ℕ) → IsQueueOf (replicate n false) (replicate n false) []
none_queued n =
    record {
      as_many = refl;
      once = λ u. rw (flags_down n u) refl;
      few = let sum = sum_by-replicate bit n false in omega (arith, sum);
      waiting = λ u task. absurd (true≢false (sym task ∙ flags_down n u));
    }

pub first_raised : (tasks : List Bool) (queue : List Vertex) (v : ℕ) → v < length tasks → IsTaskFirst tasks queue → IsTaskFirst (slice_set tasks v true) queue
first_raised tasks queue v within first = λ d some. flag-raised tasks v (slice_index_or queue 0 d).0 within (first d some)

pub first_added : (tasks : List Bool) (queue : List Vertex) (v : Vertex) → v.0 < length tasks → IsTaskFirst tasks queue → IsTaskFirst (slice_set tasks v.0 true) (queue ++ v ∷ [])
first_added tasks [] v within first = λ d some. get_or-set_same tasks v.0 true false within
first_added tasks (w ∷ queue) v within first = λ d some. flag-raised tasks v.0 w.0 within (first d (omega arith))

-- the tasks below i were added, one after another
pub added_below : (flags : List Bool) (i u : ℕ) → i < length flags → flag flags u ≡ nat_lt u i → flag (slice_set flags i true) u ≡ nat_lt u (i + 1)
added_below flags i u within before = flag-set flags i u true within ∙ rw before (at_most i u)
  where
    at_most : (i u : ℕ) → (if u == i then true else nat_lt u i) ≡ nat_lt u (i + 1)
    at_most i u = ⊎_elim
        (λ (same : u ≡ i). rw (eq-eqb u i same) (sym (lt-ltb u (i + 1) (omega arith))))
        (λ (other : u ≡ i → ⊥). rw (ne_eqb u i other) (⊎_elim
        (λ (low : u < i). lt-ltb u i low ∙ sym (lt-ltb u (i + 1) (omega arith)))
        (λ (high : i ≤ u). le-ltb u i high ∙ sym (le-ltb u (i + 1) (omega arith)))
        (cases_lt u i)))
        (cases_eq u i)

either : (a b : Bool) → (if a then true else b) ≡ (b || a)
either true true = refl
either true false = refl
either false true = refl
either false false = refl

-- the vertices up to this place of a list were added, one after another
pub added_listed : (flags : List Bool) (vertices : List Vertex) (i u : ℕ) (d : Vertex) → i < length vertices → (slice_index_or vertices i d).0 < length flags → flag flags u ≡ is_listed (numbers_of (take i vertices)) u → flag (slice_set flags (slice_index_or vertices i d).0 true) u ≡ is_listed (numbers_of (take (i + 1) vertices)) u
added_listed flags vertices i u d within inside before =
    let v : Vertex = slice_index_or vertices i d in
    let longer : numbers_of (take (i + 1) vertices) ≡ numbers_of (take i vertices) ++ v.0 ∷ [] = ap numbers_of (take_more vertices i d within) ∙ map-append (λ (w : Vertex). w.0) (take i vertices) (v ∷ []) in
    flag-set flags v.0 u true inside ∙ rw before (either (u == v.0) (is_listed (numbers_of (take i vertices)) u))
    ∙ sym (ap (λ (list : List ℕ). is_listed list u) longer ∙ is_listed-push (numbers_of (take i vertices)) v.0 u)
