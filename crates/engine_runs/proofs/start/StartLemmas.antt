-- A call has started from what a store has.
use Rattle.std.proofs.Common.{Bool, List, [], ap, append-nil, arith, filter, if◌then◌else◌, inl, inr, length, length-append, min, refl, subst, sym, true, false, ℕ, ◌*◌, ◌++◌, ◌+◌, ◌-◌, ◌<◌, ◌^◌, ◌∙◌, ◌∷◌, ◌≡◌, ◌≤◌, ◌⊎◌}
use Rattle.std.specs.Prelude.{is_some}
use Rattle.std.specs.declared.alloc.Global.{Global}
use Rattle.std.specs.declared.vec.Vec.{Vec}
use Rattle.std.proofs.lemmas.List.Elements.{filter-append}
use Rattle.call_laws.specs.attempts.Entries.{is_restart}
use Rattle.cluster_step.specs.trace.Traces.{CallOpening, TraceView, first_cluster}
use Rattle.engine_runs.proofs.start.TicketLemmas.{tickets_low}
use Rattle.engine_runs.specs.start.Inner.Openings.{CanOpenWith, IsOpeningOf, OpensWith, base_with}
use Rattle.engine_runs.specs.start.Starting.{AreJobFailures, ArePlacesOf, Base, AnyMachine, HasStarted, IsAnyMachineOf, IsGoodStore, IsHeaderOf, IsKnownTrace, IsRunAt, Setting, opening_from, placed_owner, restart_room, run_shared, shared_of}
use Rattle.engine_runs.specs.declared.start.openings.Opening.{Opening}
use Rattle.cluster_laws.specs.cluster_model.Totals.{total}
use Rattle.gl_base.specs.declared.entries.Entry.{Entry}
use Rattle.gl_base.specs.declared.entries.Entry.TheVariants.{Restart}
use Rattle.gl_base.specs.declared.jobs.FailureAt.{FailureAt}
use Rattle.graph_core.specs.DataGraph.{DataGraph, IsDataGraph, size}
use Rattle.placement.proofs.places.OwnerLemmas.{owner_low}
use Rattle.recovery.specs.opened_store.Opening.{IsGoodBase, ticket_above}
use Rattle.placed_machines.proofs.RunLemmas.{engine_of, runs_by, window_back, window_or}
use Rattle.placed_machines.specs.declared.placing.Places.{Places}
use Rattle.recovery.specs.Journals.{records_size, stored_in, stored_order}
use Rattle.recovery.specs.Recovered.{IsRecovered}
use Rattle.engine_runs.proofs.attempt_machines.EngineLemmas.{coloured_by}
use Rattle.seq_run.specs.Orders.{replay}
use Rattle.seq_run.specs.Runs.{AreNumbers}
use Rattle.store.specs.declared.store_format.header.Header.{Header}
use Rattle.engine_runs.specs.stores.Stores.{IsStoredTrace}
use Rattle.update_api.specs.Updates.{Update}
use Rattle.snapshot_machines.proofs.wave_counts.CountLemmas.{total_from-nothing}

-- ---- what was recovered

none_stored : (bodies : List (List ℕ)) → length bodies ≡ 0 → bodies ≡ []
none_stored [] none = refl
none_stored (body ∷ bodies) none = absurd (omega arith)

module _ (g : DataGraph) (program : Update) (header : Header) (bodies : List (List ℕ)) (base : Base) where
  order_stored : IsRecovered g program header bodies base → base.order.items ≡ stored_order bodies
  order_stored (inl start) = start.1.order ∙ ap stored_order (sym (none_stored bodies start.0))
  order_stored (inr last) = last.1.order

  number_stored : IsRecovered g program header bodies base → base.number ≡ length bodies
  number_stored (inl start) = start.1.number ∙ sym start.0
  number_stored (inr last) = last.1.number

  length_stored : IsRecovered g program header bodies base → base.length ≡ 65 + records_size bodies
  length_stored (inl start) = start.1.length ∙ ap (λ (l : List (List ℕ)). 65 + records_size l) (sym (none_stored bodies start.0))
  length_stored (inr last) = last.1.length

-- the tickets of a store are low
pub low_stored : (g : DataGraph) (program : Update) (header : Header) (seen : List ℕ) (base : Base) → IsRecovered g program header (stored_in header seen) base → ticket_above base.order.items ≤ 144115188075855872
low_stored g program header seen base recovered =
    subst (λ (order : List Entry). ticket_above order ≤ 144115188075855872) (sym (order_stored g program header (stored_in header seen) base recovered)) (tickets_low header seen)

-- ---- the restarts of the base

restarts_long : (resumed : Bool) (order : List Entry) (next : ℕ) → 16 * length (filter is_restart (order ++ (if resumed then Restart next ∷ [] else []))) ≡ 16 * length (filter is_restart order) + restart_room resumed
restarts_long true order next =
    ap (λ (es : List Entry). 16 * length es) (filter-append is_restart order (Restart next ∷ [])) ∙ ap (λ (n : ℕ). 16 * n) (length-append (filter is_restart order) (Restart next ∷ [])) ∙ one_more (length (filter is_restart order))
  where
    one_more : (n : ℕ) → 16 * (n + 1) ≡ 16 * n + 16
    one_more n = omega arith
restarts_long false order next = ap (λ (es : List Entry). 16 * length (filter is_restart es)) (append-nil order) ∙ no_more (length (filter is_restart order))
  where
    no_more : (n : ℕ) → 16 * n ≡ 16 * n + 0
    no_more n = omega arith

none_more : (n failed : ℕ) → failed ≡ 0 → n + 16 * failed ≡ n
none_more n failed none = omega (arith, none)

place_is : (ends bytes room stored front : ℕ) → ends ≡ bytes + room → 16 * front ≡ 16 * stored + room → ends + 16 * stored ≡ bytes + 16 * front
place_is ends bytes room stored front one other = omega (arith, one, other)

exact : (next above : ℕ) → next ≡ min above (2 ^ 64 - 1) → above ≤ 144115188075855872 → next ≡ above
exact next above is low = omega (arith, is, low)

few_tickets : (next above budget : ℕ) → next ≡ above → above ≤ 144115188075855872 → budget ≤ 16777216 → next + budget < 2 ^ 64
few_tickets next above budget is low most = omega (arith, is, low, most)

-- the restarts of the base's order begin those of the order with which the call begins
pub restarts_first : (resumed : Bool) (base : Base) (opening : Opening) → IsOpeningOf resumed base opening → (rest : List Entry) × (opening.restarts.front.items ≡ opening.restarts.stored.items ++ rest)
restarts_first resumed base opening op =
    let tail : List Entry = if resumed then Restart opening.next ∷ [] else [] in (
      filter is_restart tail,
      op.front ∙ ap (filter is_restart) op.opened.order ∙ filter-append is_restart base.order.items tail ∙ ap (λ (es : List Entry). es ++ filter is_restart tail) (sym op.stored),
    )

-- there is a setting in which the call runs
pub some_setting : (g : DataGraph) (program : Update) (places : Places) (machines : ℕ) (failures : List FailureAt) → IsDataGraph g → ArePlacesOf g machines places → (st : Setting) × IsRunAt g program places st × (shared_of st failures ≡ run_shared g program places failures)
some_setting g program places machines failures graph are =
    let owner : ℕ → ℕ = placed_owner places.of.items places.owner.items in
    let st : Setting = record {
      graph = g;
      program = program;
      owner = placed_owner places.of.items places.owner.items;
      machines = places.run.machines;
      pipeline = places.run.pipeline;
      engine = engine_of places.run.engine places.colours.items;
      stored = is_some places.run.window;
      window = window_or places.run.window;
      start = record { vertex = λ v. 0; edge = λ e. 0 };
      base = 0;
    } in (
      st,
      record {
        setting = record { is = record { graph = graph; owner = owner_low g places.run.machines places.of.items places.owner.items are.each are.atoms are.owners }; coloured = coloured_by g places.run.engine places.colours.items st refl are.colours };
        engine = runs_by places.run.engine places.colours.items st refl;
        placed = record { graph = refl; machines = refl; owners = λ v inside. refl };
        program_is = refl;
        pipeline = refl;
        window = window_back places.run.window;
      },
      refl,
    )

module _ {P : Type 0} (meaning : P → Update) (g : DataGraph) (program : Update) (header : Header) (bodies : List (List ℕ)) (base : Base) (resumed : Bool) (opening : Opening) (trace : TraceView (AnyMachine P)) (places : Places) (failures : List FailureAt) (budget machines : ℕ)
    (recovered : IsRecovered g program header bodies base) (low : ticket_above base.order.items ≤ 144115188075855872) (op : IsOpeningOf resumed base opening) where
  abbrev kept : Base
  kept = base_with base.order opening.base

  order_is : base.order.items ≡ stored_order bodies
  order_is = order_stored g program header bodies base recovered

  next_is : opening.next ≡ ticket_above base.order.items
  next_is = exact opening.next (ticket_above base.order.items) op.next low

  module _ (st : Setting) (runs : IsRunAt g program places st) (good : IsGoodStore (shared_of st failures) header bodies) (base_is_good : IsGoodBase (shared_of st failures) base) (ordered : AreJobFailures machines failures) (are : ArePlacesOf g machines places)
      (most : budget ≤ 16777216) (fresh : resumed ≡ false → length bodies ≡ 0) where
    machines_are : st.machines ≡ machines
    machines_are = runs.placed.machines ∙ are.many

    kept_good : IsGoodBase (shared_of st failures) kept
    kept_good = record {
      in_turn = base_is_good.in_turn;
      vertices = subst (λ (vs : Vec ℕ Global). AreNumbers (size st.graph) (replay st.graph st.program base.order.items).vertex vs.items) (sym op.opened.values) base_is_good.vertices;
      edges = subst (λ (es : Vec ℕ Global). AreNumbers (length st.graph.edges) (replay st.graph st.program base.order.items).edge es.items) (sym op.opened.edges) base_is_good.edges;
    }

    begins_by : (b : Bool) → resumed ≡ b → (resumed ≡ true) ⊎ ((resumed ≡ false) × (kept.order.items ≡ []))
    begins_by true is = inl is
    begins_by false is = inr (is, order_is ∙ ap stored_order (none_stored bodies (fresh is)))

    pub can_open : CanOpenWith st failures resumed kept opening.next budget
    can_open = record {
      good = kept_good;
      ordered = subst (λ (n : ℕ). AreJobFailures n failures) (sym machines_are) ordered;
      begins = begins_by resumed refl;
      next_is = next_is;
      few = few_tickets opening.next (ticket_above base.order.items) budget next_is low most;
    }

    module _ (opens : OpensWith meaning trace st resumed kept budget) (failures_are : trace.failures ≡ failures) (of : IsHeaderOf g header) (header_machines : header.machines ≡ machines) where
      abbrev o : CallOpening
      o = opening_from st resumed kept budget

      stored_trace : IsStoredTrace (IsAnyMachineOf meaning) trace header bodies bodies [] st o
      stored_trace = record {
        events = [];
        cluster = first_cluster st o;
        now = opens.now;
        keeps = record { added = []; stored = sym (append-nil bodies); orders = tt; good = subst (λ (fs : List FailureAt). IsGoodStore (shared_of st fs) header bodies) (sym failures_are) good };
        taken = refl;
      }

      front_order : kept.order.items ++ (if resumed then Restart (ticket_above kept.order.items) ∷ [] else []) ≡ opening.base.order.items
      front_order = ap (λ (n : ℕ). base.order.items ++ (if resumed then Restart n ∷ [] else [])) (sym next_is) ∙ sym op.opened.order

      ends : (first_cluster st o).coordinator.store_end ≡ (65 + records_size bodies) + restart_room resumed
      ends =
          none_more kept.length (total st.machines (λ a. 0)) (total_from-nothing 0 st.machines (λ a. 0) (λ a. refl)) ∙ op.opened.length
          ∙ ap (λ (n : ℕ). n + restart_room resumed) (length_stored g program header bodies base recovered)

      place : (first_cluster st o).coordinator.store_end + 16 * length opening.restarts.stored.items ≡ 65 + records_size bodies + 16 * length opening.restarts.front.items
      place =
          place_is (first_cluster st o).coordinator.store_end (65 + records_size bodies) (restart_room resumed) (length opening.restarts.stored.items) (length opening.restarts.front.items) ends
          (ap (λ (es : List Entry). 16 * length es) (op.front ∙ ap (filter is_restart) op.opened.order) ∙ restarts_long resumed base.order.items opening.next
          ∙ ap (λ (es : List Entry). 16 * length es + restart_room resumed) (sym op.stored))

      known_is : IsKnownTrace (IsAnyMachineOf meaning) trace header bodies bodies [] opening.restarts.stored.items opening.restarts.front.items opening.base.order.items st o
      unfolding stored_trace
      known_is = record {
        kept = order_is;
        was = stored_trace;
        fits = record { machines = header_machines ∙ sym machines_are; n = of.n ∙ ap size (sym runs.placed.graph); m = of.m ∙ ap (λ (x : DataGraph). length x.edges) (sym runs.placed.graph) };
        stored_are = op.stored ∙ ap (filter is_restart) order_is;
        base = front_order;
        front_are = op.front;
        count = op.opened.number ∙ number_stored g program header bodies base recovered;
        place = place;
      }

      pub has_started : HasStarted meaning (record { trace = trace; places = places; order = opening.base.order; restarts = opening.restarts }) header bodies resumed budget st
      has_started = record {
        opening = o;
        opens = opens.opens;
        resumed_is = refl;
        tickets = refl;
        number = op.opened.number ∙ number_stored g program header bodies base recovered;
        known = known_is;
      }
