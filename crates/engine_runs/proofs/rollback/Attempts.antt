-- The next attempt, from what the store has.
use Rattle.std.proofs.Common.{◌≡◌, ℕ, ◌+◌, ◌*◌, ◌<◌, ◌++◌, ◌∙◌, true, List, [], ◌∷◌, ap, ap₂, filter, if◌then◌else◌, length, refl, subst, sym, ⊎_elim}
use Rattle.std.specs.Prelude.{slice_index_or}
use Rattle.gl_base.specs.declared.entries.Entry.{Entry}
use Rattle.gl_base.specs.declared.snapshots.Base.{Base}
use Rattle.call_laws.specs.attempts.Stores.{last_order}
use Rattle.cluster_step.specs.trace.Traces.{first_setting}
use Rattle.cluster_laws.specs.cluster_model.Events as law
use Rattle.cluster_laws.specs.cluster_model.Leading.{Snapshot}
use Rattle.cluster_laws.specs.cluster_model.Totals.{total}
use Rattle.whole_laws.specs.cluster_records.Recorded.{HaveSameNumbers}
use Rattle.cluster_laws.specs.cluster_runs.Attempts.{Shared}
use Rattle.cluster_laws.specs.cluster_runs.Recorded.{shared_of}
use Rattle.graph_core.specs.DataGraph.{DataGraph, IsDataGraph, size}
use Rattle.placed_machines.proofs.LawLemmas.{attempt_begins}
use Rattle.placed_machines.specs.declared.placing.Places.{Places}
use Rattle.placed_machines.specs.Beginning.{AreAnyMachinesOf, HaveAdmitted, IsAttemptFrom, IsBaseOf, placed_owner}
use Rattle.placement.proofs.places.OwnerLemmas.{owner_low}
use Rattle.recovery.proofs.Goodness.{last_behind}
use Rattle.recovery.specs.GoodStores.{IsGoodBase, IsGoodStore, orders_behind}
use Rattle.recovery.specs.Recovered.{IsRecovered}
use Rattle.recovery.specs.Orders.{AreNumbers, replay}
use Rattle.engine_runs.proofs.attempt_machines.BeginLemmas.{back_with, begins_so, run_now}
use Rattle.engine_runs.proofs.attempt_machines.EngineLemmas.{led_by}
use Rattle.engine_runs.specs.attempt_machines.Beginning.{if_taken}
use Rattle.engine_runs.specs.stores.Stores.{first_cluster, fronts_in, recorded_in}
use Rattle.recovery.specs.records.Keeping.{AreNextOrders}
use Rattle.update_api.specs.Updates.{Update}
use Rattle.call_laws.proofs.whole_calls.Calling.{the_return}
use Rattle.call_laws.proofs.whole_calls.Leading.{behind_since}
use Rattle.engine_runs.proofs.rollback.Keepings.{machines_same}
use Rattle.engine_runs.proofs.rollback.Restarted.{AreRestarts, behind_before, lacks_so, one_more_each, order_append, same_numbers}
use Rattle.engine_runs.specs.rollback.Failing.{CallOpening, Cluster, TraceView, InEachTrace, IsTraceNow, Setting, newest_setting}
use Rattle.engine_runs.specs.rollback.Returning.{ArePlacesOf, BaseView, AnyMachine, RestartsFrom, HasFailures, Header, IsBaseBehind, IsBaseFor, IsAnyMachineOf, IsKnownTrace, IsRunAt, StartsSaving, StoreView, TakesAway, is_restart, restarts, stored_order}

-- ---- machines for a base begin an attempt of the law, whoever made it

pub starts_so : {P : Type 0} (meaning : P → Update) (g : DataGraph) (program : Update) (places : Places) (many : ℕ) (base : Base) (serials : List ℕ) (machines : List (AnyMachine P)) (next left : ℕ) → IsDataGraph g → ArePlacesOf g many places → IsBaseFor g base →
    ((st : Setting) (view : BaseView) (before : Cluster) → IsRunAt g program places st → IsBaseOf st base view → HaveAdmitted st serials before → AreAnyMachinesOf meaning st view before machines) →
    (store : StoreView) → store.vertices ≡ size g → store.edges ≡ length g.edges → store.newest ≡ base.number →
    (st : Setting) × (to : BaseView) × (before : Cluster) × StartsSaving (IsAnyMachineOf meaning) machines places.run.engine (if_taken places.run.window store) next left st to before
starts_so meaning g program places many base serials machines next left graph placed for stand store vertices edges newest =
    let owner : ℕ → ℕ = placed_owner places.of.items places.owner.items in
    let at : IsAttemptFrom g program owner places.colours.items places.run base serials next left store.store_end =
    attempt_begins g program owner places.colours.items places.run base serials next left store.store_end graph (owner_low g places.run.machines places.of.items places.owner.items placed.each placed.atoms placed.owners)
    placed.colours for in
    let are : AreAnyMachinesOf meaning at.st at.view at.before machines = stand at.st at.view at.before at.runs at.of_base at.admitted in (
      at.st,
      at.view,
      at.before,
      record {
        setting = at.runs.setting;
        led = led_by places.run.engine places.colours.items at.st at.runs.engine;
        many = are.many;
        each = are.each;
        begins = begins_so places.run.window at.st at.runs.window store at.view at.before (ap size at.runs.placed.graph ∙ sym vertices) (ap (λ (x : DataGraph). length x.edges) at.runs.placed.graph ∙ sym edges)
            (at.of_base.number ∙ sym newest) (λ stored. at.store_end_is);
        first = at.next_is;
        tickets = at.left_is;
      },
    )

-- with what is known of the list that was read
pub stand_so : {P : Type 0} (meaning : P → Update) (g : DataGraph) (program : Update) (places : Places) (base : Base) (machines : List (AnyMachine P)) (read serials : List ℕ) → read ≡ serials →
    ((st : Setting) (view : BaseView) (before : Cluster) → IsRunAt g program places st → IsBaseOf st base view → HaveAdmitted st read before → AreAnyMachinesOf meaning st view before machines) →
    (st : Setting) (view : BaseView) (before : Cluster) → IsRunAt g program places st → IsBaseOf st base view → HaveAdmitted st serials before → AreAnyMachinesOf meaning st view before machines
stand_so meaning g program places base machines read serials read_is stand st view before runs of admitted = stand st view before runs of (subst (λ (ss : List ℕ). HaveAdmitted st ss before) (sym read_is) admitted)

-- the serials of the machines that are
pub admitted_so : {P : Type 0} (meaning : P → Update) (v : TraceView (AnyMachine P)) (serials : List ℕ) →
    ((a : ℕ) → a < length v.now.machines.items → InEachTrace (IsAnyMachineOf meaning) v (λ st o events c. slice_index_or serials a 0 ≡ (c.machine a).part.serial)) →
    (st : Setting) (o : CallOpening) (events : List law.Event) (c : Cluster) → IsTraceNow (IsAnyMachineOf meaning) v st o events c → HaveAdmitted (newest_setting st o events) serials c
admitted_so meaning v serials each st o events c is = λ a low.
    let many : length v.now.machines.items ≡ (newest_setting st o events).machines = is.code.many in
    sym (each a (subst (λ (n : ℕ). a < n) (sym many) low) st o events c is)

-- ---- the base of a store, with restarts behind its order

none_stored : (bodies : List (List ℕ)) → length bodies ≡ 0 → stored_order bodies ≡ []
none_stored [] none = refl
none_stored (body ∷ bodies) none = absurd (cc)

pub base_so : (shared : Shared) (g : DataGraph) (program : Update) (header : Header) (bodies : List (List ℕ)) (missing : List Entry) (read base : Base) → IsRecovered g program header bodies read → IsGoodBase shared read →
    base.number ≡ read.number → base.order.items ≡ read.order.items ++ missing → base.values.items ≡ read.values.items → base.edges.items ≡ read.edges.items → IsBaseBehind shared header bodies missing base
base_so shared g program header bodies missing read base recovered good number order values edges =
    let order_is : read.order.items ≡ stored_order bodies = ⊎_elim (λ none. none.1.order ∙ sym (none_stored bodies none.0)) (λ last. last.1.order) recovered in
    let number_is : read.number ≡ length bodies = ⊎_elim (λ none. none.1.number ∙ sym none.0) (λ last. last.1.number) recovered in
    record {
      number = number ∙ number_is;
      order = order ∙ ap (λ (es : List Entry). es ++ missing) order_is;
      vertices = subst (AreNumbers (size shared.graph) (replay shared.graph shared.program (stored_order bodies)).vertex) (sym values)
          (subst (λ (es : List Entry). AreNumbers (size shared.graph) (replay shared.graph shared.program es).vertex read.values.items) order_is good.vertices);
      edges = subst (AreNumbers (length shared.graph.edges) (replay shared.graph shared.program (stored_order bodies)).edge) (sym edges)
          (subst (λ (es : List Entry). AreNumbers (length shared.graph.edges) (replay shared.graph shared.program es).edge read.edges.items) order_is good.edges);
    }

-- ---- where the store is known, the law goes back to its base

module _ {P : Type 0} (meaning : P → Update) (g : DataGraph) (program : Update) (places : Places) (v : TraceView (AnyMachine P)) (header : Header) (start bodies : List (List ℕ)) (lost stored front before : List Entry) (st : Setting) (o : CallOpening)
    (runs : IsRunAt g program places st) (known : IsKnownTrace (IsAnyMachineOf meaning) v header start bodies lost stored front before st o) (has : HasFailures v st known.was.cluster) where
  abbrev c : Cluster
  c = known.was.cluster

  abbrev events : List law.Event
  events = known.was.events

  abbrev now : Setting
  now = newest_setting st o events

  is : IsTraceNow (IsAnyMachineOf meaning) v st o events c
  is = known.was.now

  abbrev pub shared : Shared
  shared = shared_of st v.failures

  pub graph_is : shared.graph ≡ g
  graph_is = runs.placed.graph

  pub program_is : shared.program ≡ program
  program_is = runs.program_is

  pub good_store : IsGoodStore shared header bodies
  good_store = known.was.keeps.good

  abbrev orders : List (List Entry)
  orders = orders_behind (stored_order start) known.was.keeps.added

  last_is : last_order o.kept orders ≡ stored_order bodies
  last_is =
      ap (λ (os : List Entry). last_order os orders) known.kept ∙ last_behind (stored_order start) known.was.keeps.added ∙ sym (order_append [] start known.was.keeps.added)
      ∙ ap stored_order (sym known.was.keeps.stored)

  graph_now : now.graph ≡ st.graph
  graph_now = ap (λ (s : Setting). s.graph) (behind_since events (first_setting st o))

  failures_now : law.failures_in now c ≡ law.failures_in st c
  failures_now = ap (λ (n : ℕ). total n (λ a. if (c.machine a).failed then 1 else 0)) (machines_same st o events)

  module _ (failures ticket : ℕ) (failures_are : failures ≡ law.failures_in st c) (ticket_is : ticket ≡ c.next) (missing : List Entry) (alone : AreRestarts missing)
      (lacks : filter is_restart stored ++ missing ≡ filter is_restart front ++ restarts failures ticket) where
    law_lacks : filter is_restart (last_order o.kept orders) ++ missing ≡ filter is_restart c.base.order ++ restarts (law.failures_in st c) c.next
    law_lacks =
        ap (λ (os : List Entry). filter is_restart os ++ missing) last_is
        ∙ lacks_so stored front (stored_order bodies) before missing failures ticket known.stored_are known.front_are lacks
        ∙ ap (λ (os : List Entry). filter is_restart os ++ restarts failures ticket) (sym known.base)
        ∙ ap₂ (λ (n t : ℕ). filter is_restart c.base.order ++ restarts n t) failures_are ticket_is

    abbrev fronts : List (List Entry)
    fronts = fronts_in (first_setting st o) (first_cluster st o) events

    abbrev taken : List Snapshot
    taken = recorded_in (first_setting st o) (first_cluster st o) events

    next_orders : AreNextOrders st o.kept fronts taken orders
    next_orders = subst (λ (os : List Entry). AreNextOrders st os fronts taken orders) (sym known.kept) known.was.keeps.orders

    back_to : (to : BaseView) × (to.number ≡ c.coordinator.acknowledged) × (to.number ≡ o.base.number + length taken) × (to.order ≡ last_order o.kept orders ++ missing) × HaveSameNumbers st.graph to.numbers (replay st.graph st.program to.order) × law.GoesBackTo now c to
    back_to = the_return st v.failures o.kept o.resumed o.base o.first events c is.trace has.some has.each orders missing next_orders law_lacks

    abbrev to : BaseView
    to = back_to.0

    to_order : to.order ≡ stored_order bodies ++ missing
    to_order = back_to.3 ∙ ap (λ (os : List Entry). os ++ missing) last_is

    module _ (base : Base) (behind : IsBaseBehind shared header bodies missing base) where
      order_is : to.order ≡ base.order.items
      order_is = to_order ∙ sym behind.order

      replayed : replay st.graph st.program to.order ≡ replay st.graph st.program (stored_order bodies)
      replayed = ap (replay st.graph st.program) to_order ∙ same_numbers st.graph st.program (stored_order bodies) missing alone

      of_base : IsBaseOf now base to
      of_base = record {
        number = back_to.1 ∙ known.count ∙ sym behind.number;
        vertices = subst (λ (x : DataGraph). AreNumbers (size x) to.numbers.vertex base.values.items) (sym graph_now)
            (record { count = behind.vertices.count; each = λ k low. behind.vertices.each k low ∙ ap (λ s. s.vertex k) (sym replayed) ∙ sym (back_to.4.vertices k low) });
        edges = subst (λ (x : DataGraph). AreNumbers (length x.edges) to.numbers.edge base.edges.items) (sym graph_now)
            (record { count = behind.edges.count; each = λ k low. behind.edges.each k low ∙ ap (λ s. s.edge k) (sym replayed) ∙ sym (back_to.4.edges k low) });
      }

      run_here : IsRunAt g program places now
      run_here = run_now st o events g program (placed_owner places.of.items places.owner.items) places.colours.items places.run runs

      module _ (machines : List (AnyMachine P)) (stand : (to : BaseView) → IsRunAt g program places now → IsBaseOf now base to → AreAnyMachinesOf meaning now to c machines)
          (store : StoreView) (vertices : store.vertices ≡ size g) (edges : store.edges ≡ length g.edges) (newest : store.newest ≡ base.number) (place : store.store_end ≡ v.now.coordinator.saving.store_end + 16 * failures)
          (ahead later gone : List Entry) (ahead_is : ahead ≡ stored ++ missing) (later_is : later ≡ lost ++ gone) (takes : (to : BaseView) → to.order ≡ base.order.items → law.GoesBackTo now c to → TakesAway now c to gone) where
        store_end_is : now.stored ≡ true → (law.recovers now to c).coordinator.store_end ≡ store.store_end
        store_end_is takes = ap₂ (λ (n k : ℕ). n + 16 * k) ((is.code.coordinator.saving takes).store_end) (failures_now ∙ sym failures_are) ∙ sym place

        pub goes_so : RestartsFrom meaning v machines places.run.engine (if_taken places.run.window store) base.order.items lost later front ahead st o events c
        goes_so = record {
          to = to;
          back = back_with st o events meaning places.run.engine v c to (if_taken places.run.window store) machines is (led_by places.run.engine places.colours.items st runs.engine) back_to.5 has.running has.each (stand to run_here of_base)
              (begins_so places.run.window now run_here.window store to c (ap size (graph_now ∙ graph_is) ∙ sym vertices) (ap (λ (x : DataGraph). length x.edges) (graph_now ∙ graph_is) ∙ sym edges) (of_base.number ∙ sym newest) store_end_is);
          number = back_to.1;
          order_is = order_is;
          gone = gone;
          takes = takes to order_is back_to.5;
          later_is = later_is;
          front_is = ahead_is ∙ behind_before stored front (stored_order bodies) before missing failures ticket known.stored_are known.front_are lacks alone ∙ ap (filter is_restart) (sym to_order);
          more = ap length ahead_is ∙ one_more_each stored front (stored_order bodies) before missing failures ticket known.stored_are known.front_are lacks ∙ ap (λ (n : ℕ). length front + n) failures_are;
        }
