-- The lists that are gathered from a course.
use Rattle.std.proofs.Common.{All, Bool, List, [], ap, ap₂, append_assoc, append-nil, arith, get_or, if◌then◌else◌, length, map, refl, subst, subst₂, suc, sym, true, zero, ℕ, ⊎_elim, ◌&&◌, ◌++◌, ◌+◌, ◌<◌, ◌==◌, ◌∙◌, ◌∷◌, ◌≡◌, ltb-true, not}
use Rattle.std.specs.List.{AllByRecursion, range_with_len}
use Rattle.std.specs.List.Sorted.{IsNonDecreasingBy, IsPermutation}
use Rattle.std.specs.Prelude.{nat_le, slice_index, slice_index_or}
use Rattle.std.proofs.lemmas.Bool.{and_parts, or_cases}
use Rattle.gl_base.specs.Lists.{AreEach}
use Rattle.gl_base.specs.declared.entries.Entry.{Entry}
use Rattle.gl_base.specs.declared.entries.Entry.TheVariants.{Go, Restart}
use Rattle.gl_base.specs.declared.jobs.FailureAt.{FailureAt}
use Rattle.call_laws.proofs.attempts.Opening.{call_in_turn, last_begins, opening_begins}
use Rattle.call_laws.specs.attempts.EngineCalls.{EngineCall, IsEngineCall, call_order, last_beginning, opening}
use Rattle.cluster_step.specs.trace.Traces.{CallOpening, Cluster, TraceView, IsTraceNow, Machine, Setting, first_setting}
use Rattle.engine_runs.specs.finish.Gathered.{AreNumbers, IsEntryOf, IsMerge, all_logged, machine_logs, reached_places}
use Rattle.cluster_laws.specs.cluster_model.Events as law
use Rattle.cluster_laws.specs.cluster_model.Machines.{completed}
use Rattle.cluster_laws.specs.cluster_runs.Recorded.{shared_of}
use Rattle.graph_core.specs.DataGraph.{DataGraph, IsDataGraph, size}
use Rattle.cluster_laws.proofs.merged_logs.PartLemmas.{logs_merge, updates_rise}
use Rattle.cluster_laws.specs.merged_logs.Merges.{logs_of, ticket_of}
use Rattle.seq_run.proofs.Waking.{wakes-within}
use Rattle.seq_run.specs.Orders.{IsValidFrom, after_entry, all_tasks, replay, tasks_after_entry}
use Rattle.seq_run.specs.States.{GraphState, start_state, wakes}
use Rattle.update_api.specs.Updates.{Update}
use Rattle.call_laws.proofs.whole_calls.Calling.{the_call}
use Rattle.call_laws.proofs.whole_calls.Leading.{behind_since}
use Rattle.call_laws.specs.whole_calls.Called.{IsCallOf}

-- one more at its place
all_more : (P : Entry → Type 0) (x : Entry) (xs : List Entry) → P x → All P xs → (i : ℕ) (d : Entry) → i < length (x ∷ xs) → P (get_or (x ∷ xs) i d)
all_more P x xs one all zero d low = one
all_more P x xs one all (suc i) d low = all i d (less i (length xs) low)
  where
    less : (i n : ℕ) → suc i < suc n → i < n
    less i n low = omega arith

-- so each at its place
pub all_of : (P : Entry → Type 0) (xs : List Entry) → AllByRecursion P xs → All P xs
all_of P [] all = λ i d low. absurd (none i low)
  where
    none : (i : ℕ) → i < 0 → ⊥
    none i low = omega arith
all_of P (x ∷ xs) all = all_more P x xs all.0 (all_of P xs all.1)

-- ---- updates of a valid order are of vertices

valid_within : (g : DataGraph) (p : Update) → IsDataGraph g → (s : GraphState) (tasks : ℕ → Bool) (order : List Entry) → ((u : ℕ) → tasks u ≡ true → u < size g) → IsValidFrom g p s tasks order → AllByRecursion (IsEntryOf g) order
valid_within g p is s tasks [] within valid = tt
valid_within g p is s tasks (Restart ticket ∷ order) within valid = (tt, valid_within g p is s (all_tasks g) order (λ u task. ltb-true u (size g) task) valid.1)
valid_within g p is s tasks (Go machine vertex ticket ∷ order) within valid = (
  within vertex.0 valid.0,
  valid_within g p is (after_entry g p s (Go machine vertex ticket)) (tasks_after_entry g p s tasks (Go machine vertex ticket)) order
      (λ u task. ⊎_elim
      (λ (woken : wakes g p s vertex.0 u ≡ true). wakes-within g is p s vertex.0 u woken)
      (λ (was : (tasks u && not (u == vertex.0)) ≡ true). within u (and_parts (tasks u) (not (u == vertex.0)) was).0)
      (or_cases (wakes g p s vertex.0 u) (tasks u && not (u == vertex.0)) task))
      valid.1,
)

-- ---- places of failures

pub reached_same : (f g : ℕ → ℕ) (n place : ℕ) (failures : List FailureAt) → AllByRecursion (λ (failure : FailureAt). failure.machine.0 < n) failures → ((m : ℕ) → m < n → f m ≡ g m) →
    reached_places f place failures ≡ reached_places g place failures
reached_same f g n place [] owned same = refl
reached_same f g n place (failure ∷ failures) owned same =
    ap₂ (λ (b : Bool) (rest : List ℕ). if b then place ∷ rest else rest) (ap (nat_le failure.after) (same failure.machine.0 owned.0)) (reached_same f g n (suc place) failures owned.1 same)

-- ---- the order

module _ {M : Type 0} (represents : Setting → ℕ → Machine → M → Type 0) (v : TraceView M) (st : Setting) (o : CallOpening) (events : List law.Event) (c : Cluster) (now : IsTraceNow represents v st o events c) where
  -- as many machines as the setting has
  pub machines_are : length v.now.machines.items ≡ st.machines
  machines_are = now.code.many ∙ ap (λ (s : Setting). s.machines) (behind_since events (first_setting st o))

  pub record IsOrderHere (order : List Entry) : Type 0 where
    pub call : EngineCall
    pub of : IsCallOf st v.failures o.kept o.resumed c call
    pub order_is : order ≡ call_order call

  module _ (front merged order : List Entry) (base : c.base.order ≡ front) (behind : order ≡ front ++ merged) (merges : IsMerge (all_logged (machine_logs st.machines c)) merged) where
    pub order_here : IsOrderHere order
    order_here =
        let made = the_call st v.failures o.kept o.resumed o.base o.first events c now.trace in
        let call : EngineCall = made.0 in
        let of : IsCallOf st v.failures o.kept o.resumed c call = made.1 in
        let is : IsEngineCall (shared_of st v.failures) call = of.is in
        let logs : machine_logs st.machines c ≡ logs_of st.machines call.last.made = ap (λ (log : ℕ → List Entry). map log (range_with_len 0 st.machines)) (λ i. λ m. of.logs m i) in
        let same : merged ≡ call.last.made = logs_merge st.machines call.last.made merged (updates_rise (last_beginning call).next call.last.made (last_begins (shared_of st v.failures) (opening call) call.failed call.last (opening_begins (shared_of st v.failures) call is) is.attempts).1.tickets) of.machines
        (subst (λ (ls : List (List Entry)). IsMerge (all_logged ls) merged) logs merges) in
        record { call = call; of = of; order_is = behind ∙ ap₂ (λ (xs ys : List Entry). xs ++ ys) (sym base ∙ of.front) same }

    -- its updates are of vertices
    pub entries_here : (g : DataGraph) → st.graph ≡ g → AllByRecursion (IsEntryOf g) order
    entries_here g graph =
        let here = order_here in
        subst₂ (λ (x : DataGraph) (es : List Entry). AllByRecursion (IsEntryOf x) es) graph (sym here.order_is)
        (valid_within st.graph st.program now.setting.is.graph (start_state st.graph st.program) (all_tasks st.graph) (call_order here.call) (λ u task. ltb-true u (size st.graph) task)
        (call_in_turn (shared_of st v.failures) here.call here.of.is).valid)

    -- the owners' numbers are its replay
    pub numbers_here : (numbers : List ℕ) → length numbers ≡ size st.graph → ((u : ℕ) → u < size st.graph → slice_index numbers u ≡ ((c.machine (st.owner u)).part.datum u).value) → AreNumbers (size st.graph) (replay st.graph st.program order).vertex numbers
    numbers_here numbers many each =
        let here = order_here in
        record { count = many; each = λ u low. each u low ∙ here.of.numbers u low ∙ ap (λ (es : List Entry). (replay st.graph st.program es).vertex u) (sym here.order_is) }

  -- ---- the counts

  pub counts_here : (counts : List ℕ) → length counts ≡ length v.now.machines.items → ((a : ℕ) → a < length v.now.machines.items → slice_index_or counts a 0 ≡ completed (c.machine a)) → AreEach st.machines (λ m count. count ≡ completed (c.machine m)) counts
  counts_here counts many each = record { count = many ∙ machines_are; each = λ k low. each k (subst (λ (n : ℕ). k < n) (sym machines_are) low) }

  pub fired_here : (counts : List ℕ) → ((a : ℕ) → a < length v.now.machines.items → slice_index_or counts a 0 ≡ completed (c.machine a)) →
      reached_places (λ m. slice_index_or counts m 0) 0 v.failures ≡ reached_places (λ m. completed (c.machine m)) 0 v.failures
  fired_here counts each =
      reached_same (λ m. slice_index_or counts m 0) (λ m. completed (c.machine m)) st.machines 0 v.failures now.trace.opened.ordered.owned (λ m low. each m (subst (λ (n : ℕ). m < n) (sym machines_are) low))

-- ---- logs, one behind the other

pub merge_so : (entries all merged : List Entry) → all ≡ entries → IsPermutation all merged → IsNonDecreasingBy ticket_of merged → IsMerge entries merged
merge_so entries all merged are same up = record { same = subst (λ (es : List Entry). IsPermutation es merged) are same; by_ticket = up }

more_of : {X : Type 0} (f : ℕ → X) (a n : ℕ) → map f (range_with_len a (suc n)) ≡ map f (range_with_len a n) ++ f (a + n) ∷ []
more_of f a zero = ap (λ (k : ℕ). f k ∷ []) (plus_none a)
  where
    plus_none : (a : ℕ) → a ≡ a + 0
    plus_none a = omega arith
more_of f a (suc n) = ap (λ xs. f a ∷ xs) (more_of f (a + 1) n ∙ ap (λ (k : ℕ). map f (range_with_len (a + 1) n) ++ f k ∷ []) (moved a n))
  where
    moved : (a n : ℕ) → (a + 1) + n ≡ a + suc n
    moved a n = omega arith

logged_more : (logs : List (List Entry)) (log : List Entry) → all_logged (logs ++ log ∷ []) ≡ all_logged logs ++ log
logged_more [] log = append-nil log
logged_more (first ∷ logs) log = ap (λ (es : List Entry). first ++ es) (logged_more logs log) ∙ sym (append_assoc first (all_logged logs) log)

-- one machine's log more
pub logs_more : (c : Cluster) (n : ℕ) (all log : List Entry) → all ≡ all_logged (machine_logs n c) → log ≡ (c.machine n).part.log → all ++ log ≡ all_logged (machine_logs (n + 1) c)
logs_more c n all log all_is log_is =
    ap₂ (λ (xs ys : List Entry). xs ++ ys) all_is log_is ∙ sym (logged_more (machine_logs n c) (c.machine n).part.log)
    ∙ ap all_logged (sym (more_of (λ a. (c.machine a).part.log) 0 n ∙ ap (λ (k : ℕ). machine_logs n c ++ (c.machine k).part.log ∷ []) (zero_first n)) ∙ ap (λ (k : ℕ). machine_logs k c) (sym (one_behind n)))
  where
    zero_first : (k : ℕ) → 0 + k ≡ k
    zero_first k = omega arith

    one_behind : (k : ℕ) → k + 1 ≡ suc k
    one_behind k = omega arith
