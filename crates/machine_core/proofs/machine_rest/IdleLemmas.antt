-- A machine's part is idle, or it isn't.
use Rattle.std.proofs.Common.{◌≡◌, ◌≢◌, ◌⊎◌, ℕ, ◌<◌, ◌&&◌, ◌==◌, Bool, true, false, not, is_none, Option, None, Some, refl, sym, ap, ◌∙◌, arith, inl, inr, true≢false}
use Rattle.std.specs.Prelude.{nat_lt}
use Rattle.std.specs.List.{list_any}
use Rattle.std.proofs.lemmas.Bool.{and_parts, and_from, cases_Bool, eq-eqb, eqb-true, ltb-true}
use Rattle.graph_core.specs.DataGraph.{size}
use Rattle.cluster_laws.specs.cluster_core.Parts.{Part}
use Rattle.cluster_laws.specs.cluster_core.Ranges.{first_passing}
use Rattle.cluster_laws.proofs.cluster_core.Basics.{first_passing-none, first_passing-some}
use Rattle.cluster_laws.specs.cluster_model.Machines.{is_idle, waits}
use Rattle.machine_core.specs.declared.machine_parts.cores.Core.{Core}
use Rattle.machine_core.specs.machine_parts.Order.{IsOrderly, KnowsPlaces}
use Rattle.machine_core.specs.machine_parts.Parts.{flight_count, is_own, part_of}
use Rattle.machine_core.specs.machine_parts.Settings.{IsPartOf, Setting}
use Rattle.machine_core.specs.machine_rest.Inner.Looking.{HasNoWork, HasWork, is_at_lock}
use Rattle.machine_core.proofs.machine_rest.ScopeLemmas.{IsWaitedFor, nobody_there}
use Rattle.machine_core.proofs.machine_rest.TaskLemmas.{IsAtWork, at_work, no_pending, no_task}

-- ---- none of a range passes

first_is_none : (o : Option ℕ) → is_none o ≡ true → o ≡ None
first_is_none None is = refl
first_is_none (Some x) is = absurd (cc)

none_passes : (test : ℕ → Bool) (n : ℕ) → is_none (first_passing test 0 n) ≡ true → (v : ℕ) → v < n → test v ≡ false
none_passes test n is v low = first_passing-none test 0 n (first_is_none (first_passing test 0 n) is) v (omega arith) (omega arith)

passes_none : (test : ℕ → Bool) (n : ℕ) → ((v : ℕ) → v < n → test v ≡ false) → is_none (first_passing test 0 n) ≡ true
passes_none test n none = by (first_passing test 0 n) refl
  where
    by : (o : Option ℕ) → first_passing test 0 n ≡ o → is_none o ≡ true
    by None is = refl
    by (Some x) is =
        let found = first_passing-some test 0 n x is in
        let low : x < n = omega (arith, found.1) in
        absurd (true≢false (sym found.2 ∙ none x low))

-- ---- the parts of being idle

pub record IsIdle (st : Setting) (part : Part) : Type 0 where
  pub task : (u : ℕ) → u < size st.graph → part.task u ≡ false
  pub pending : (u : ℕ) → u < size st.graph → part.pending u ≡ false
  pub flying : part.flying ≡ 0
  pub queue : (x : ℕ) → x < size st.graph → waits (part.queue x) ≡ false

idle_parts : (st : Setting) (part : Part) → is_idle st part ≡ true → IsIdle st part
idle_parts st part idle =
    let n : ℕ = size st.graph in
    let no_tasks : Bool = is_none (first_passing part.task 0 n) in
    let no_pending : Bool = is_none (first_passing part.pending 0 n) in
    let no_waits : Bool = is_none (first_passing (λ x. waits (part.queue x)) 0 n) in
    let first = and_parts (no_tasks && no_pending && part.flying == 0) no_waits idle in
    let second = and_parts (no_tasks && no_pending) (part.flying == 0) first.0 in
    let third = and_parts no_tasks no_pending second.0 in
    record {
      task = none_passes part.task n third.0;
      pending = none_passes part.pending n third.1;
      flying = eqb-true part.flying 0 second.1;
      queue = none_passes (λ x. waits (part.queue x)) n first.1;
    }

pub idle_from : (st : Setting) (part : Part) → IsIdle st part → is_idle st part ≡ true
idle_from st part idle =
    let n : ℕ = size st.graph in
    let no_tasks : Bool = is_none (first_passing part.task 0 n) in
    let no_pending : Bool = is_none (first_passing part.pending 0 n) in
    let no_waits : Bool = is_none (first_passing (λ x. waits (part.queue x)) 0 n) in
    and_from (no_tasks && no_pending && part.flying == 0) no_waits
    (and_from (no_tasks && no_pending) (part.flying == 0)
    (and_from no_tasks no_pending (passes_none part.task n idle.task) (passes_none part.pending n idle.pending))
    (eq-eqb part.flying 0 idle.flying))
    (passes_none (λ x. waits (part.queue x)) n idle.queue)

-- what is not idle
pub not_idle : (st : Setting) (part : Part) → (IsIdle st part → ⊥) → is_idle st part ≡ false
not_idle st part refuted = elim (cases_Bool (is_idle st part)) [
  | inl idle ↦ absurd (refuted (idle_parts st part idle))
  | inr busy ↦ busy
]

-- ---- of a machine

low_own : (st : Setting) (m : Core) (x : ℕ) → IsPartOf st m → is_own m.numbers.local x ≡ true → x < size st.graph
low_own st m x here own =
    let both : (nat_lt x (size st.graph) && st.owner x == m.numbers.local.me.0) ≡ true = sym (here.local.own x) ∙ own in
    ltb-true x (size st.graph) (and_parts (nat_lt x (size st.graph)) (st.owner x == m.numbers.local.me.0) both).0

pub flights_busy : (st : Setting) (m : Core) → flight_count m.pipe ≢ 0 → is_idle st (part_of m) ≡ false
flights_busy st m some = not_idle st (part_of m) (λ idle. some idle.flying)

pub waited_busy : (st : Setting) (m : Core) → IsPartOf st m → IsWaitedFor m → is_idle st (part_of m) ≡ false
waited_busy st m here waited =
    not_idle st (part_of m)
    (λ idle. true≢false (sym (ap waits waited.queue) ∙ idle.queue waited.lock (low_own st m waited.lock here waited.own)))

work_busy : (st : Setting) (m : Core) → IsPartOf st m → IsAtWork m → is_idle st (part_of m) ≡ false
work_busy st m here work = not_idle st (part_of m) (refuted work.flag)
  where
    low : work.vertex < size st.graph
    low = low_own st m work.vertex here work.own

    refuted : ((part_of m).task work.vertex ≡ true) ⊎ ((part_of m).pending work.vertex ≡ true) → IsIdle st (part_of m) → ⊥
    refuted (inl task) idle = true≢false (sym task ∙ idle.task work.vertex low)
    refuted (inr pending) idle = true≢false (sym pending ∙ idle.pending work.vertex low)

tasks_busy : (st : Setting) (m : Core) → IsOrderly m → KnowsPlaces m → IsPartOf st m → HasWork m.numbers.tasks → is_idle st (part_of m) ≡ false
tasks_busy st m orderly places here work = work_busy st m here (at_work m orderly places work)

rests : (st : Setting) (m : Core) → IsOrderly m → KnowsPlaces m → flight_count m.pipe ≡ 0 → list_any (is_at_lock m.locks) m.pipe.entered ≡ false → HasNoWork m.numbers.tasks → is_idle st (part_of m) ≡ true
rests st m orderly places flights nobody none =
    idle_from st (part_of m)
    (record {
      task = λ u low. no_task m orderly places flights none u;
      pending = λ u low. no_pending m orderly places flights none u;
      flying = flights;
      queue = λ x low. ap waits (nobody_there m orderly nobody x);
    })

-- where no scope is in flight and nobody waits, it is idle exactly where there is no work
pub rests_or_not : (m : Core) (b : Bool) → IsOrderly m → KnowsPlaces m → flight_count m.pipe ≡ 0 → list_any (is_at_lock m.locks) m.pipe.entered ≡ false
    → (b ≡ true → HasWork m.numbers.tasks) → (b ≡ false → HasNoWork m.numbers.tasks) → (st : Setting) → IsPartOf st m → not b ≡ is_idle st (part_of m)
rests_or_not m true orderly places flights nobody some none st here = sym (tasks_busy st m orderly places here (some refl))
rests_or_not m false orderly places flights nobody some none st here = sym (rests st m orderly places flights nobody (none refl))
