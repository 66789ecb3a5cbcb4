-- How tasks are kept when a flag changes.
use Rattle.std.proofs.Common.{◌≡◌, ℕ, ◌+◌, ◌<◌, ◌≤◌, ◌==◌, Bool, true, false, ◌&&◌, not, Option, Some, None, List, length, slice_set, nat_lt, sum_by, if◌then◌else◌, refl, sym, ◌∙◌, ap, ap₂, subst, ⊎_elim, true≢false, arith, eq-eqb, ne_eqb}
use Rattle.std.proofs.Math.ListN.{length-set}
use Rattle.std.proofs.lemmas.Bool.{cases_eq, ltb-true}
use Rattle.std.proofs.lemmas.List.{get_or-set_same, get_or-set_other}
use Rattle.std.proofs.lemmas.List.Sums.{sum_by-set}
use Rattle.task_sets.specs.vertex_queue.Inner.Queues.{bit_if}
use Rattle.task_sets.specs.task_sched.Tasks.{is_flagged, is_free, is_below, IsUpTo}
use Rattle.task_sets.specs.task_sched.Inner.Stages.{StagesView, stage_count, is_staged}
use Rattle.task_sets.specs.task_sched.Inner.Kept.{AreTasksKept}
use Rattle.task_sets.proofs.task_sched.Counting.{none_counted}
use Rattle.task_sets.proofs.task_sched.Staging.{flag-set}

-- ---- flags

-- what holds of v and of each other one holds of each
at_or_else : (P : ℕ → Type 0) (v u : ℕ) → P v → ((u ≡ v → ⊥) → P u) → P u
at_or_else P v u here there = ⊎_elim
    (λ (same : u ≡ v). subst P (sym same) here)
    (λ (other : u ≡ v → ⊥). there other)
    (cases_eq u v)

-- a choice at v that agrees with another flag
chosen : (v u : ℕ) (b : Bool) (f g : ℕ → Bool) → g v ≡ b → ((u ≡ v → ⊥) → g u ≡ f u) → (if u == v then b else f u) ≡ g u
chosen v u b f g here there = ⊎_elim
    (λ (same : u ≡ v). rw (eq-eqb u v same) (sym (subst (λ x. g x ≡ b) (sym same) here)))
    (λ (other : u ≡ v → ⊥). rw (ne_eqb u v other) (sym (there other)))
    (cases_eq u v)

pub set_here : (flags : List Bool) (v : ℕ) (b : Bool) → v < length flags → is_flagged (slice_set flags v b) v ≡ b
set_here flags v b within = get_or-set_same flags v b false within

set_there : (flags : List Bool) (v u : ℕ) (b : Bool) → (u ≡ v → ⊥) → is_flagged (slice_set flags v b) u ≡ is_flagged flags u
set_there flags v u b other = get_or-set_other flags v u b false other

pub and_true : (b : Bool) → (b && true) ≡ b
and_true true = refl
and_true false = refl

pub and_false : (b : Bool) → (b && false) ≡ false
and_false true = refl
and_false false = refl

-- who is admitted is not free
pub no_free : (flags admitted : List Bool) (u : ℕ) → is_flagged admitted u ≡ true → is_free flags admitted u ≡ false
no_free flags admitted u is = ap (λ b. is_flagged flags u && not b) is ∙ and_false (is_flagged flags u)

no_flag : (flags admitted : List Bool) (u : ℕ) → is_flagged flags u ≡ false → is_free flags admitted u ≡ false
no_flag flags admitted u is = ap (λ b. b && not (is_flagged admitted u)) is

pub is_free-yes : (flags admitted : List Bool) (u : ℕ) → is_flagged flags u ≡ true → is_flagged admitted u ≡ false → is_free flags admitted u ≡ true
is_free-yes flags admitted u is free = ap₂ (λ a b. a && not b) is free

same_free : (flags admitted flags' admitted' : List Bool) (u : ℕ) → is_flagged flags' u ≡ is_flagged flags u → is_flagged admitted' u ≡ is_flagged admitted u → is_free flags' admitted' u ≡ is_free flags admitted u
same_free flags admitted flags' admitted' u one other = ap₂ (λ a b. a && not b) one other

both : (a b : Bool) → (a && not b) ≡ true → (a ≡ true) × (b ≡ false)
both true true is = absurd (true≢false (sym is))
both true false is = (refl, refl)
both false b is = absurd (true≢false (sym is))

-- who is free has the flag and is not admitted
pub free_has : (flags admitted : List Bool) (u : ℕ) → is_free flags admitted u ≡ true → (is_flagged flags u ≡ true) × (is_flagged admitted u ≡ false)
free_has flags admitted u is = both (is_flagged flags u) (is_flagged admitted u) is

not_both : (a b : Bool) → (a && not b) ≡ false → b ≡ false → a ≡ false
not_both true true is free = absurd (true≢false free)
not_both true false is free = absurd (true≢false is)
not_both false b is free = refl

pub no_flag_free : (flags admitted : List Bool) (u : ℕ) → is_free flags admitted u ≡ false → is_flagged admitted u ≡ false → is_flagged flags u ≡ false
no_flag_free flags admitted u is free = not_both (is_flagged flags u) (is_flagged admitted u) is free

-- ---- the window

pub room_taken : (window : Option ℕ) (n : ℕ) → is_below window n ≡ true → IsUpTo window (n + 1)
room_taken None n is = tt
room_taken (Some most) n is = let less = ltb-true n most is in omega arith

pub fewer_fit : (window : Option ℕ) (n m : ℕ) → m ≤ n → IsUpTo window n → IsUpTo window m
fewer_fit None n m less is = tt
fewer_fit (Some most) n m less is = omega arith

none_fit : (window : Option ℕ) → IsUpTo window 0
none_fit None = tt
none_fit (Some most) = omega arith

-- ---- counts

pub planned_counted : (flags : List Bool) (v : ℕ) → v < length flags → bit_if (is_flagged flags v) ≤ sum_by bit_if flags
planned_counted flags v within = let less = sum_by-set bit_if flags v false false within in omega (arith, less)

-- ---- how tasks are kept

pub kept_new : (count : ℕ) (t p a q : List Bool) (s : StagesView) (among : List Bool) (window : Option ℕ) →
    count < 4294967296 → length t ≡ count → length p ≡ count → length a ≡ count → length q ≡ count → stage_count s ≡ count → length among ≡ count →
    ((u : ℕ) → is_flagged t u ≡ nat_lt u count) → ((u : ℕ) → is_flagged p u ≡ false) → ((u : ℕ) → is_flagged a u ≡ false) → ((u : ℕ) → is_flagged q u ≡ false) →
    ((u : ℕ) → is_staged s u ≡ nat_lt u count) → ((u : ℕ) → is_flagged among u ≡ false) → AreTasksKept count t p a q s among 0 0 window
kept_new count t p a q s among window few lt lp la lq ls lm tasks no_p no_a no_q staged no_m =
    record {
      few = few;
      tasks = lt;
      pendings = lp;
      admissions = la;
      plannings = lq;
      staged = ls;
      line = lm;
      free_tasks = λ u. staged u ∙ sym (ap₂ (λ x y. x && not y) (tasks u) (no_a u) ∙ and_true (nat_lt u count));
      free_pending = λ u. no_m u ∙ sym (no_flag p a u (no_p u));
      planned_ones = λ u free. no_q u;
      other_ones = λ u is free. absurd (true≢false (sym is ∙ no_a u));
      counted = sym (none_counted q no_q);
      fits = none_fit window;
    }

-- a vertex that is not admitted becomes a task
pub kept_woken : (count : ℕ) (t p a q : List Bool) (s s' : StagesView) (among : List Bool) (plans outside : ℕ) (window : Option ℕ) (v : ℕ) → AreTasksKept count t p a q s among plans outside window →
    v < length t → is_flagged a v ≡ false → stage_count s' ≡ stage_count s → ((u : ℕ) → is_staged s' u ≡ (if u == v then true else is_staged s u)) → AreTasksKept count (slice_set t v true) p a q s' among plans outside window
kept_woken count t p a q s s' among plans outside window v is within free same waits =
    record {
      few = is.few;
      tasks = length-set t v true ∙ is.tasks;
      pendings = is.pendings;
      admissions = is.admissions;
      plannings = is.plannings;
      staged = same ∙ is.staged;
      line = is.line;
      free_tasks = λ u. waits u ∙ chosen v u true (is_staged s) (is_free (slice_set t v true) a)
          (is_free-yes (slice_set t v true) a v (set_here t v true within) free)
          (λ other. same_free t a (slice_set t v true) a u (set_there t v u true other) refl ∙ sym (is.free_tasks u));
      free_pending = is.free_pending;
      planned_ones = is.planned_ones;
      other_ones = is.other_ones;
      counted = is.counted;
      fits = is.fits;
    }

-- a vertex that is admitted becomes a task
pub kept_woken_admitted : (count : ℕ) (t p a q : List Bool) (s : StagesView) (among : List Bool) (plans outside : ℕ) (window : Option ℕ) (v : ℕ) → AreTasksKept count t p a q s among plans outside window →
    is_flagged a v ≡ true → AreTasksKept count (slice_set t v true) p a q s among plans outside window
kept_woken_admitted count t p a q s among plans outside window v is busy =
    record {
      few = is.few;
      tasks = length-set t v true ∙ is.tasks;
      pendings = is.pendings;
      admissions = is.admissions;
      plannings = is.plannings;
      staged = is.staged;
      line = is.line;
      free_tasks = λ u. at_or_else (λ x. is_staged s x ≡ is_free (slice_set t v true) a x) v u
          (is.free_tasks v ∙ no_free t a v busy ∙ sym (no_free (slice_set t v true) a v busy))
          (λ other. is.free_tasks u ∙ sym (same_free t a (slice_set t v true) a u (set_there t v u true other) refl));
      free_pending = is.free_pending;
      planned_ones = is.planned_ones;
      other_ones = is.other_ones;
      counted = is.counted;
      fits = is.fits;
    }

-- who becomes pending is no reason against a plan
still_other : (p a q : List Bool) (v u : ℕ) → v < length p → ((x : ℕ) → is_flagged a x ≡ true → is_flagged p x ≡ false → is_flagged q x ≡ true) → is_flagged a u ≡ true → is_flagged (slice_set p v true) u ≡ false → is_flagged q u ≡ true
still_other p a q v u within ones = at_or_else (λ x. is_flagged a x ≡ true → is_flagged (slice_set p v true) x ≡ false → is_flagged q x ≡ true) v u
    (λ is none. absurd (true≢false (sym (set_here p v true within) ∙ none)))
    (λ other is none. ones u is (sym (set_there p v u true other) ∙ none))

-- a vertex that is not admitted becomes pending, and stands in line
pub kept_pended : (count : ℕ) (t p a q : List Bool) (s : StagesView) (among : List Bool) (plans outside : ℕ) (window : Option ℕ) (v : ℕ) → AreTasksKept count t p a q s among plans outside window →
    v < count → is_flagged a v ≡ false → AreTasksKept count t (slice_set p v true) a q s (slice_set among v true) plans outside window
kept_pended count t p a q s among plans outside window v is within free =
    let in_p : v < length p = let long = is.pendings in omega arith in
    let in_line : v < length among = let long = is.line in omega arith in
    record {
      few = is.few;
      tasks = is.tasks;
      pendings = length-set p v true ∙ is.pendings;
      admissions = is.admissions;
      plannings = is.plannings;
      staged = is.staged;
      line = length-set among v true ∙ is.line;
      free_tasks = is.free_tasks;
      free_pending = λ u. flag-set among v u true in_line ∙ chosen v u true (is_flagged among) (is_free (slice_set p v true) a)
          (is_free-yes (slice_set p v true) a v (set_here p v true in_p) free)
          (λ other. same_free p a (slice_set p v true) a u (set_there p v u true other) refl ∙ sym (is.free_pending u));
      planned_ones = is.planned_ones;
      other_ones = λ u. still_other p a q v u in_p is.other_ones;
      counted = is.counted;
      fits = is.fits;
    }

-- a vertex that is admitted becomes pending
pub kept_pended_admitted : (count : ℕ) (t p a q : List Bool) (s : StagesView) (among : List Bool) (plans outside : ℕ) (window : Option ℕ) (v : ℕ) → AreTasksKept count t p a q s among plans outside window →
    v < count → is_flagged a v ≡ true → AreTasksKept count t (slice_set p v true) a q s among plans outside window
kept_pended_admitted count t p a q s among plans outside window v is within busy =
    let in_p : v < length p = let long = is.pendings in omega arith in
    record {
      few = is.few;
      tasks = is.tasks;
      pendings = length-set p v true ∙ is.pendings;
      admissions = is.admissions;
      plannings = is.plannings;
      staged = is.staged;
      line = is.line;
      free_tasks = is.free_tasks;
      free_pending = λ u. at_or_else (λ x. is_flagged among x ≡ is_free (slice_set p v true) a x) v u
          (is.free_pending v ∙ no_free p a v busy ∙ sym (no_free (slice_set p v true) a v busy))
          (λ other. is.free_pending u ∙ sym (same_free p a (slice_set p v true) a u (set_there p v u true other) refl));
      planned_ones = is.planned_ones;
      other_ones = λ u. still_other p a q v u in_p is.other_ones;
      counted = is.counted;
      fits = is.fits;
    }

-- the first in line is admitted
pub kept_snapshot : (count : ℕ) (t p a q : List Bool) (s s' : StagesView) (among : List Bool) (plans outside : ℕ) (window : Option ℕ) (v : ℕ) → AreTasksKept count t p a q s among plans outside window →
    v < count → is_free p a v ≡ true → stage_count s' ≡ stage_count s → ((u : ℕ) → is_staged s' u ≡ (if u == v then false else is_staged s u)) → AreTasksKept count t p (slice_set a v true) q s' (slice_set among v false) plans outside window
kept_snapshot count t p a q s s' among plans outside window v is within asked same waits =
    let in_a : v < length a = let long = is.admissions in omega arith in
    let in_line : v < length among = let long = is.line in omega arith in
    let now = set_here a v true in_a in
    record {
      few = is.few;
      tasks = is.tasks;
      pendings = is.pendings;
      admissions = length-set a v true ∙ is.admissions;
      plannings = is.plannings;
      staged = same ∙ is.staged;
      line = length-set among v false ∙ is.line;
      free_tasks = λ u. waits u ∙ chosen v u false (is_staged s) (is_free t (slice_set a v true))
          (no_free t (slice_set a v true) v now)
          (λ other. same_free t a t (slice_set a v true) u refl (set_there a v u true other) ∙ sym (is.free_tasks u));
      free_pending = λ u. flag-set among v u false in_line ∙ chosen v u false (is_flagged among) (is_free p (slice_set a v true))
          (no_free p (slice_set a v true) v now)
          (λ other. same_free p a p (slice_set a v true) u refl (set_there a v u true other) ∙ sym (is.free_pending u));
      planned_ones = λ u. at_or_else (λ x. is_flagged (slice_set a v true) x ≡ false → is_flagged q x ≡ false) v u
          (λ free. absurd (true≢false (sym now ∙ free)))
          (λ other free. is.planned_ones u (sym (set_there a v u true other) ∙ free));
      other_ones = λ u. at_or_else (λ x. is_flagged (slice_set a v true) x ≡ true → is_flagged p x ≡ false → is_flagged q x ≡ true) v u
          (λ busy none. absurd (true≢false (sym (free_has p a v asked).0 ∙ none)))
          (λ other busy none. is.other_ones u (sym (set_there a v u true other) ∙ busy) none);
      counted = is.counted;
      fits = is.fits;
    }

-- a task is admitted for an update
pub kept_update : (count : ℕ) (t p a q : List Bool) (s s' : StagesView) (among : List Bool) (plans outside : ℕ) (window : Option ℕ) (v : ℕ) → AreTasksKept count t p a q s among plans outside window →
    v < count → is_free t a v ≡ true → is_flagged p v ≡ false → is_below window (outside + plans) ≡ true → stage_count s' ≡ stage_count s → ((u : ℕ) → is_staged s' u ≡ (if u == v then false else is_staged s u)) →
    AreTasksKept count t p (slice_set a v true) (slice_set q v true) s' among (plans + 1) outside window
kept_update count t p a q s s' among plans outside window v is within task quiet room same waits =
    let in_a : v < length a = let long = is.admissions in omega arith in
    let in_q : v < length q = let long = is.plannings in omega arith in
    let now = set_here a v true in_a in
    let planned = set_here q v true in_q in
    record {
      few = is.few;
      tasks = is.tasks;
      pendings = is.pendings;
      admissions = length-set a v true ∙ is.admissions;
      plannings = length-set q v true ∙ is.plannings;
      staged = same ∙ is.staged;
      line = is.line;
      free_tasks = λ u. waits u ∙ chosen v u false (is_staged s) (is_free t (slice_set a v true))
          (no_free t (slice_set a v true) v now)
          (λ other. same_free t a t (slice_set a v true) u refl (set_there a v u true other) ∙ sym (is.free_tasks u));
      free_pending = λ u. at_or_else (λ x. is_flagged among x ≡ is_free p (slice_set a v true) x) v u
          (is.free_pending v ∙ no_flag p a v quiet ∙ sym (no_flag p (slice_set a v true) v quiet))
          (λ other. is.free_pending u ∙ sym (same_free p a p (slice_set a v true) u refl (set_there a v u true other)));
      planned_ones = λ u. at_or_else (λ x. is_flagged (slice_set a v true) x ≡ false → is_flagged (slice_set q v true) x ≡ false) v u
          (λ free. absurd (true≢false (sym now ∙ free)))
          (λ other free. set_there q v u true other ∙ is.planned_ones u (sym (set_there a v u true other) ∙ free));
      other_ones = λ u. at_or_else (λ x. is_flagged (slice_set a v true) x ≡ true → is_flagged p x ≡ false → is_flagged (slice_set q v true) x ≡ true) v u
          (λ busy none. planned)
          (λ other busy none. set_there q v u true other ∙ is.other_ones u (sym (set_there a v u true other) ∙ busy) none);
      counted =
          let more = sum_by-set bit_if q v true false in_q in
          let none : bit_if (is_flagged q v) ≡ 0 = rw (is.planned_ones v (free_has t a v task).1) in
          let before = is.counted in omega (arith, more, none, before);
      fits = subst (λ n. IsUpTo window n) (let total : (outside + plans) + 1 ≡ outside + (plans + 1) = omega arith in total) (room_taken window (outside + plans) room);
    }

-- the update of a vertex was made
pub kept_ran : (count : ℕ) (t p a q : List Bool) (s : StagesView) (among : List Bool) (plans plans' outside : ℕ) (window : Option ℕ) (v : ℕ) → AreTasksKept count t p a q s among plans outside window →
    v < count → is_flagged a v ≡ true → is_flagged p v ≡ false → plans' + 1 ≡ plans → AreTasksKept count (slice_set t v false) p (slice_set a v false) (slice_set q v false) s among plans' (outside + 1) window
kept_ran count t p a q s among plans plans' outside window v is within busy quiet fewer =
    let in_t : v < length t = let long = is.tasks in omega arith in
    let in_a : v < length a = let long = is.admissions in omega arith in
    let in_q : v < length q = let long = is.plannings in omega arith in
    let now = set_here a v false in_a in
    record {
      few = is.few;
      tasks = length-set t v false ∙ is.tasks;
      pendings = is.pendings;
      admissions = length-set a v false ∙ is.admissions;
      plannings = length-set q v false ∙ is.plannings;
      staged = is.staged;
      line = is.line;
      free_tasks = λ u. at_or_else (λ x. is_staged s x ≡ is_free (slice_set t v false) (slice_set a v false) x) v u
          (is.free_tasks v ∙ no_free t a v busy ∙ sym (no_flag (slice_set t v false) (slice_set a v false) v (set_here t v false in_t)))
          (λ other. is.free_tasks u ∙ sym (same_free t a (slice_set t v false) (slice_set a v false) u (set_there t v u false other) (set_there a v u false other)));
      free_pending = λ u. at_or_else (λ x. is_flagged among x ≡ is_free p (slice_set a v false) x) v u
          (is.free_pending v ∙ no_free p a v busy ∙ sym (no_flag p (slice_set a v false) v quiet))
          (λ other. is.free_pending u ∙ sym (same_free p a p (slice_set a v false) u refl (set_there a v u false other)));
      planned_ones = λ u. at_or_else (λ x. is_flagged (slice_set a v false) x ≡ false → is_flagged (slice_set q v false) x ≡ false) v u
          (λ free. set_here q v false in_q)
          (λ other free. set_there q v u false other ∙ is.planned_ones u (sym (set_there a v u false other) ∙ free));
      other_ones = λ u. at_or_else (λ x. is_flagged (slice_set a v false) x ≡ true → is_flagged p x ≡ false → is_flagged (slice_set q v false) x ≡ true) v u
          (λ busy none. absurd (true≢false (sym busy ∙ now)))
          (λ other busy none. set_there q v u false other ∙ is.other_ones u (sym (set_there a v u false other) ∙ busy) none);
      counted =
          let less = sum_by-set bit_if q v false false in_q in
          let one : bit_if (is_flagged q v) ≡ 1 = rw (is.other_ones v busy quiet) in
          let before = is.counted in omega (arith, less, one, before, fewer);
      fits = subst (λ n. IsUpTo window n) (let total : outside + plans ≡ (outside + 1) + plans' = omega (arith, fewer) in total) is.fits;
    }

-- a vertex that is no task waits nowhere
pub chosen_same : (t a : List Bool) (s : StagesView) (v : ℕ) → ((u : ℕ) → is_staged s u ≡ is_free t a u) → is_flagged t v ≡ false → (u : ℕ) → is_staged s u ≡ (if u == v then is_flagged t v else is_staged s u)
chosen_same t a s v kept none u = sym (chosen v u (is_flagged t v) (is_staged s) (is_staged s) (kept v ∙ no_flag t a v none ∙ sym none) (λ other. refl))

-- the snapshot update of a vertex was made, where it waits again as a task, or is none
pub kept_marked : (count : ℕ) (t p a q : List Bool) (s s' : StagesView) (among : List Bool) (plans plans' outside : ℕ) (window : Option ℕ) (v : ℕ) → AreTasksKept count t p a q s among plans outside window →
    v < count → is_flagged a v ≡ true → plans' + bit_if (is_flagged q v) ≡ plans → stage_count s' ≡ stage_count s → ((u : ℕ) → is_staged s' u ≡ (if u == v then is_flagged t v else is_staged s u)) →
    AreTasksKept count t (slice_set p v false) (slice_set a v false) (slice_set q v false) s' among plans' outside window
kept_marked count t p a q s s' among plans plans' outside window v is within busy fewer same waits =
    let in_p : v < length p = let long = is.pendings in omega arith in
    let in_a : v < length a = let long = is.admissions in omega arith in
    let in_q : v < length q = let long = is.plannings in omega arith in
    let now = set_here a v false in_a in
    record {
      few = is.few;
      tasks = is.tasks;
      pendings = length-set p v false ∙ is.pendings;
      admissions = length-set a v false ∙ is.admissions;
      plannings = length-set q v false ∙ is.plannings;
      staged = same ∙ is.staged;
      line = is.line;
      free_tasks = λ u. waits u ∙ chosen v u (is_flagged t v) (is_staged s) (is_free t (slice_set a v false))
          (ap (λ b. is_flagged t v && not b) now ∙ and_true (is_flagged t v))
          (λ other. same_free t a t (slice_set a v false) u refl (set_there a v u false other) ∙ sym (is.free_tasks u));
      free_pending = λ u. at_or_else (λ x. is_flagged among x ≡ is_free (slice_set p v false) (slice_set a v false) x) v u
          (is.free_pending v ∙ no_free p a v busy ∙ sym (no_flag (slice_set p v false) (slice_set a v false) v (set_here p v false in_p)))
          (λ other. is.free_pending u ∙ sym (same_free p a (slice_set p v false) (slice_set a v false) u (set_there p v u false other) (set_there a v u false other)));
      planned_ones = λ u. at_or_else (λ x. is_flagged (slice_set a v false) x ≡ false → is_flagged (slice_set q v false) x ≡ false) v u
          (λ free. set_here q v false in_q)
          (λ other free. set_there q v u false other ∙ is.planned_ones u (sym (set_there a v u false other) ∙ free));
      other_ones = λ u. at_or_else (λ x. is_flagged (slice_set a v false) x ≡ true → is_flagged (slice_set p v false) x ≡ false → is_flagged (slice_set q v false) x ≡ true) v u
          (λ busy none. absurd (true≢false (sym busy ∙ now)))
          (λ other busy none. set_there q v u false other ∙ is.other_ones u (sym (set_there a v u false other) ∙ busy) (sym (set_there p v u false other) ∙ none));
      counted = let less = sum_by-set bit_if q v false false in_q in let before = is.counted in omega (arith, less, before, fewer);
      fits = fewer_fit window (outside + plans) (outside + plans') (omega (arith, fewer)) is.fits;
    }

-- some updates are outside no more
pub kept_acknowledged : (count : ℕ) (t p a q : List Bool) (s : StagesView) (among : List Bool) (plans outside outside' : ℕ) (window : Option ℕ) → AreTasksKept count t p a q s among plans outside window → outside' ≤ outside → AreTasksKept count t p a q s among plans outside' window
kept_acknowledged count t p a q s among plans outside outside' window is fewer =
    record {
      few = is.few;
      tasks = is.tasks;
      pendings = is.pendings;
      admissions = is.admissions;
      plannings = is.plannings;
      staged = is.staged;
      line = is.line;
      free_tasks = is.free_tasks;
      free_pending = is.free_pending;
      planned_ones = is.planned_ones;
      other_ones = is.other_ones;
      counted = is.counted;
      fits = fewer_fit window (outside + plans) (outside' + plans) (omega (arith, fewer)) is.fits;
    }
