-- When a machine's part is idle.
use Rattle.std.proofs.Common.{◌≡◌, ℕ, ◌<◌, ◌&&◌, ◌==◌, Bool, true, false, is_none, Option, None, Some, List, [], ◌∷◌, refl, sym, ◌∙◌, arith}
use Rattle.std.proofs.Math.Logic.{⊎_elim}
use Rattle.std.proofs.lemmas.Bool.{and_parts, cases_Bool, eq-eqb, eqb-true}
use Rattle.gl_base.specs.declared.scopes.Claim.{Claim}
use Rattle.graph_core.specs.DataGraph.{size}
use Rattle.cluster_laws.specs.cluster_core.Ranges.{first_passing}
use Rattle.cluster_laws.proofs.cluster_core.Basics.{first_passing-none, first_passing-some}
use Rattle.cluster_laws.specs.cluster_model.Machines.{is_idle, waits}
use Rattle.snapshot_machines.specs.wave_counts.Counts.{Part, Setting}
use Rattle.snapshot_machines.specs.wave_counts.Idle.{AreFlagsOf, AreTasksAndScopesOf, HasNothingToDo, PipeView, TasksView, is_flagged}

-- ---- none of a range passes

first_is_none : (o : Option ℕ) → is_none o ≡ true → o ≡ None
first_is_none None is = refl
first_is_none (Some x) is = absurd (cc)

none_passes : (test : ℕ → Bool) (n : ℕ) → is_none (first_passing test 0 n) ≡ true → (v : ℕ) → v < n → test v ≡ false
none_passes test n is v low = first_passing-none test 0 n (first_is_none (first_passing test 0 n) is) v (omega arith) (omega arith)

by_first : (test : ℕ → Bool) (n : ℕ) (o : Option ℕ) → first_passing test 0 n ≡ o → ((v : ℕ) → v < n → test v ≡ false) → is_none o ≡ true
by_first test n None is none = refl
by_first test n (Some x) is none =
    let found = first_passing-some test 0 n x is in
    let low : x < n = omega (arith, found.1) in
    let passes : test x ≡ true = found.2 in
    let fails : test x ≡ false = none x low in
    absurd (cc)

passes_none : (test : ℕ → Bool) (n : ℕ) → ((v : ℕ) → v < n → test v ≡ false) → is_none (first_passing test 0 n) ≡ true
passes_none test n none = by_first test n (first_passing test 0 n) refl none

-- ---- flags and what they tell

no_test : (n : ℕ) (test : ℕ → Bool) (flags : List Bool) → AreFlagsOf n test flags → ((k : ℕ) → is_flagged flags k ≡ false) → (u : ℕ) → u < n → test u ≡ false
no_test n test flags are none u low =
    ⊎_elim
    (λ (passes : test u ≡ true). let some = are.flagged u low passes in let flagged = some.1 in let unflagged = none some.0 in absurd (cc))
    (λ (fails : test u ≡ false). fails)
    (cases_Bool (test u))

no_flag : (n : ℕ) (test : ℕ → Bool) (flags : List Bool) → AreFlagsOf n test flags → ((u : ℕ) → u < n → test u ≡ false) → (k : ℕ) → is_flagged flags k ≡ false
no_flag n test flags are none k =
    ⊎_elim
    (λ (flagged : is_flagged flags k ≡ true). let some = are.vertex k flagged in let passes = some.2 in let fails = none some.0 some.1 in absurd (cc))
    (λ (unflagged : is_flagged flags k ≡ false). unflagged)
    (cases_Bool (is_flagged flags k))

-- ---- queues

nobody_waits : (claims : List Claim) → claims ≡ [] → waits claims ≡ false
nobody_waits [] is = refl
nobody_waits (claim ∷ claims) is = absurd (cc)

no_queue : (claims : List Claim) → waits claims ≡ false → claims ≡ []
no_queue [] is = refl
no_queue (claim ∷ claims) is = absurd (cc)

-- ---- both ways

all_four : (a b c d : Bool) → a ≡ true → b ≡ true → c ≡ true → d ≡ true → (a && b && c && d) ≡ true
all_four a b c d first second third fourth = rw (first, second, third, fourth)

pub rest_is_idle : (st : Setting) (part : Part) (tasks : TasksView) (pipe : PipeView) → AreTasksAndScopesOf st part tasks pipe → HasNothingToDo tasks pipe → is_idle st part ≡ true
rest_is_idle st part tasks pipe are rest =
    let n : ℕ = size st.graph in
    all_four (is_none (first_passing part.task 0 n)) (is_none (first_passing part.pending 0 n)) (part.flying == 0)
    (is_none (first_passing (λ x. waits (part.queue x)) 0 n))
    (passes_none part.task n (no_test n part.task tasks.task are.task rest.task))
    (passes_none part.pending n (no_test n part.pending tasks.pending are.pending rest.pending))
    (eq-eqb part.flying 0 (are.flying ∙ rest.flights))
    (passes_none (λ x. waits (part.queue x)) n (λ x low. nobody_waits (part.queue x) (are.waits rest.come x low)))

pub idle_is_rest : (st : Setting) (part : Part) (tasks : TasksView) (pipe : PipeView) → AreTasksAndScopesOf st part tasks pipe → is_idle st part ≡ true → HasNothingToDo tasks pipe
idle_is_rest st part tasks pipe are idle =
    let n : ℕ = size st.graph in
    let no_tasks : Bool = is_none (first_passing part.task 0 n) in
    let no_pending : Bool = is_none (first_passing part.pending 0 n) in
    let no_waits : Bool = is_none (first_passing (λ x. waits (part.queue x)) 0 n) in
    let first = and_parts (no_tasks && no_pending && part.flying == 0) no_waits idle in
    let second = and_parts (no_tasks && no_pending) (part.flying == 0) first.0 in
    let third = and_parts no_tasks no_pending second.0 in
    record {
      task = no_flag n part.task tasks.task are.task (none_passes part.task n third.0);
      pending = no_flag n part.pending tasks.pending are.pending (none_passes part.pending n third.1);
      flights = sym are.flying ∙ eqb-true part.flying 0 second.1;
      come = are.silent (λ x low. no_queue (part.queue x) (none_passes (λ y. waits (part.queue y)) n first.1 x low));
    }
