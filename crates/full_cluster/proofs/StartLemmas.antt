-- The machines of a cluster before the first update.
use Rattle.std.proofs.Common.{◌≡◌, ◌∙◌, ◌≢◌, ℕ, ◌+◌, ◌^◌, ◌<◌, ◌==◌, ◌++◌, ◌∷◌, [], List, Bool, false, true, length, length-append, replicate, slice_index_or, refl, sym, ap, subst, ⊎_elim, arith, eq-eqb}
use Rattle.std.specs.List.{All}
use Rattle.std.proofs.lemmas.Bool.{cases_eq}
use Rattle.std.proofs.lemmas.List.{get_or_append_left, get_or_at, get_or-replicate}
use Rattle.gl_base.specs.declared.numbers.MachineNo.{MachineNo}
use Rattle.gl_base.specs.declared.scopes.ScopeId.{ScopeId}
use Rattle.graph_core.specs.DataGraph.{DataGraph, size}
use Rattle.seq_run.specs.Runs.{AreNumbers}
use Rattle.seq_run.specs.States.{GraphState}
use Rattle.cluster_laws.specs.cluster_core.Settings.{Setting}
use Rattle.full_scope.specs.FullStates.{full_start}
use Rattle.full_scope.specs.FullUpdates.{FullUpdate}
use Rattle.full_laws.specs.FullRuns.{IsFullStart}
use Rattle.full_laws.specs.Items.{AnEdge, AVertex, IsItem, Item, keeps, number_in}
use Rattle.full_cluster.specs.declared.admitting.FullTerms.{FullTerms}
use Rattle.full_cluster.specs.declared.divisions.Division.{Division}
use Rattle.full_cluster.specs.declared.machines.FullMachine.{FullMachine}
use Rattle.full_cluster.specs.declared.queues.FullQueues.{FullQueues}
use Rattle.full_cluster.specs.FullClusters.{AreOfWorld, IsFullSeat, IsLinkOf, IsSettingOf}
use Rattle.full_cluster.specs.FullQueues.{AreQueuesOf}
use Rattle.full_cluster.specs.FullStarts.{AreOwnTasks, AreSeatsAtStart, divided_setting, part_at_start, world_at_start}
use Rattle.full_cluster.specs.Given.{HasLists, IsDividedAs, is_marked}
use Rattle.full_cluster.specs.Owners.{owner_in}
use Rattle.full_cluster.specs.ScopeMaps.{AreOnce}
use Rattle.full_cluster.specs.WholeLocks.{AreLocksOf}
use Rattle.full_cluster.specs.Written.{state_in}

-- ---- tasks

pub own_more : (f : ℕ → ℕ) (a k : ℕ) (marks : List Bool) (b : Bool) → AreOwnTasks f a k marks → b ≡ (f k == a) → AreOwnTasks f a (k + 1) (marks ++ b ∷ [])
own_more f a k marks b are is =
    let count = are.count in
    record {
      count = let more = length-append marks (b ∷ []) in omega arith;
      own = λ u low. ⊎_elim
          (λ (at : u ≡ k). subst (λ (j : ℕ). is_marked (marks ++ b ∷ []) j ≡ (f j == a)) (sym at) (get_or_at marks b [] false k count ∙ is))
          (λ (off : u ≢ k). let inside : u < k = omega arith in
          get_or_append_left marks (b ∷ []) false u (subst (λ (n : ℕ). u < n) (sym count) inside) ∙ are.own u inside)
          (cases_eq u k);
    }

-- ---- numbers

starts_with : (st : Setting) (s : GraphState) (a : ℕ) (numbers : List ℕ) → AreNumbers (size st.graph) s.vertex numbers → ((e : ℕ) → s.edge e ≡ 0) →
    (i : Item) → IsItem st.graph i → keeps st a i ≡ true → number_in (state_in numbers (replicate (length st.graph.edges) 0)) i ≡ number_in s i
starts_with st s a numbers are none (AVertex x) low keeps_it = are.each x low
starts_with st s a numbers are none (AnEdge e) low keeps_it = get_or-replicate (length st.graph.edges) e 0 0 low ∙ sym (none e)

-- the lists that a machine begins with
pub lists_at_start : (st : Setting) (division : Division) (s : GraphState) (a : ℕ) (numbers edges : List ℕ) (tasks : List Bool) → IsDividedAs st division →
    AreNumbers (size st.graph) s.vertex numbers → ((e : ℕ) → s.edge e ≡ 0) → edges ≡ replicate (length division.graph.now.edges) 0 → length edges ≡ length division.graph.now.edges →
    AreOwnTasks (owner_in division.owner.now) a (size division.graph.now) tasks → HasLists st a numbers edges tasks (part_at_start st s a)
lists_at_start st division s a numbers edges tasks divided are none zeros many own =
    let own_st : AreOwnTasks st.owner a (size st.graph) tasks =
    subst (λ (g : DataGraph). AreOwnTasks st.owner a (size g) tasks) (sym divided.graph)
    (subst (λ (f : ℕ → ℕ). AreOwnTasks f a (size division.graph.now) tasks) (sym divided.owners) own) in
    let zero_st : edges ≡ replicate (length st.graph.edges) 0 = subst (λ (g : DataGraph). edges ≡ replicate (length g.edges) 0) (sym divided.graph) zeros in
    record {
      count = are.count;
      edge_count = subst (λ (g : DataGraph). length edges ≡ length g.edges) (sym divided.graph) many;
      task_count = own_st.count;
      numbers_are = λ i is keeps_it. subst (λ (es : List ℕ). number_in (state_in numbers es) i ≡ number_in s i) (sym zero_st) (starts_with st s a numbers are none i is keeps_it);
      tasks_are = λ u low. own_st.own u low;
    }

-- ---- machines

none_once : {T : Type 0} (entries : List (ScopeId × T)) → entries ≡ [] → AreOnce entries
none_once entries none = λ i j d before low. let empty = ap length none in absurd (omega (arith, low, empty))

pub seat_at_start : (st : Setting) (s : GraphState) (m : FullMachine) → HasLists st m.me.0 m.kept.numbers.items m.kept.edges.items m.kept.tasks.items (part_at_start st s m.me.0) →
    AreLocksOf m.locks.locks.items (λ x t. false) (λ x. []) → length m.locks.locks.items ≡ size st.graph → m.log.items ≡ [] → m.serial ≡ 0 → m.flying ≡ 0 →
    m.flights.entries.items ≡ [] → m.stands.entries.items ≡ [] → m.ready.entries.items ≡ [] → AreQueuesOf st m.out.queues.items (λ q. []) → length m.out.queues.items ≡ st.machines →
    IsFullSeat st m.me.0 m (part_at_start st s m.me.0)
seat_at_start st s m lists locks lock_count log serial flying flights stands ready out queues =
    record {
      me = refl;
      queues = queues;
      is = record {
        numbers = lists;
        locks = locks;
        lock_count = lock_count;
        log = sym log;
        serial = sym serial;
        flying = sym flying;
        flights = λ t. rw flights refl;
        flights_once = none_once m.flights.entries.items flights;
        stands = λ t. rw stands tt;
        stands_once = none_once m.stands.entries.items stands;
        ready = λ t. rw ready refl;
        ready_once = none_once m.ready.entries.items ready;
        out = out;
      };
    }

pub seats_more : (st : Setting) (s : GraphState) (machines : List FullMachine) (k : ℕ) (m : FullMachine) → length machines ≡ k → AreSeatsAtStart st s machines → IsFullSeat st k m (part_at_start st s k) →
    AreSeatsAtStart st s (machines ++ m ∷ [])
seats_more st s machines k m count are seat = λ a d inside. ⊎_elim
    (λ (at : a ≡ k). subst (λ (j : ℕ). IsFullSeat st j (slice_index_or (machines ++ m ∷ []) j d) (part_at_start st s j)) (sym at)
    (subst (λ (one : FullMachine). IsFullSeat st k one (part_at_start st s k)) (sym (get_or_at machines m [] d k count)) seat))
    (λ (off : a ≢ k). let long = length-append machines (m ∷ []) in let early : a < length machines = omega (arith, long, inside, count, off) in
    subst (λ (one : FullMachine). IsFullSeat st a one (part_at_start st s a)) (sym (get_or_append_left machines (m ∷ []) d a early)) (are a d early))
    (cases_eq a k)

-- ---- the cluster

pub is_start : (st : Setting) (p : FullUpdate) (many : ℕ) → IsFullStart st p (world_at_start st p many)
is_start st p many =
    record {
      numbers = λ i a is keeps_it. refl;
      tasks = λ u low. eq-eqb (st.owner u) (st.owner u) refl;
      next = refl;
      logs = λ a. refl;
      flying = λ a. refl;
      flights = λ a t. refl;
      stands = λ a t. refl;
      ready = λ a t. refl;
      holders = λ a x t. refl;
      queues = λ a x. refl;
      silent = λ a b. refl;
    }

pub cluster_at_start : (st : Setting) (p : FullUpdate) (machines : List FullMachine) (links : List FullQueues) (many : ℕ) → length machines ≡ st.machines → length links ≡ st.machines →
    AreSeatsAtStart st (full_start st.graph p) machines → All (λ (link : FullQueues). IsLinkOf st link (λ q. [])) links → many < 2 ^ 64 →
    AreOfWorld st p (world_at_start st p many) machines links 0 many
cluster_at_start st p machines links many count link_count seats empty few =
    record {
      reached = record { start = world_at_start st p many; actions = []; starts = is_start st p many; run = refl };
      count = count;
      link_count = link_count;
      seats = seats;
      links_are = λ a d inside. empty a d inside;
      beyond = λ a past. record { out = λ q. refl; link = λ q. refl; flight = λ t. refl };
      drawn = refl;
      tickets = refl;
      few = omega (arith, few);
    }

-- the division is a setting, where its owners are machines of these terms
pub is_divided : (division : Division) (terms : FullTerms) → All (λ (m : MachineNo). m.0 < terms.machines) division.owner.now → IsSettingOf (divided_setting division terms) division terms
is_divided division terms low =
    let long = division.owned in
    record {
      divided = record {
        setting = record {
          graph = division.built;
          owner = λ v inside. low v (record { 0 = 0 }) (subst (λ (n : ℕ). v < n) (sym long) inside);
        };
        graph = refl;
        owners = refl;
      };
      terms_are = record { machines = refl; pipeline = refl };
    }
