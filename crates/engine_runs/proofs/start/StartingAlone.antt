-- A call has started at the start.
use Rattle.std.proofs.Common.{List, [], ap, append-nil, arith, filter, inl, min, refl, subst, sym, false, ℕ, ◌+◌, ◌-◌, ◌^◌, ◌∙◌, ◌≡◌, ◌≤◌}
use Rattle.call_laws.specs.attempts.Entries.{is_restart}
use Rattle.engine_runs.proofs.start.StartLemmas.{can_open, has_started}
use Rattle.engine_runs.specs.start.Inner.Openings.{CanOpenWith, IsOpeningOf, OpensWith, base_with}
use Rattle.engine_runs.specs.start.Starting.{AreJobFailures, ArePlacesOf, TraceView, AnyMachine, HasStarted, IsHeaderOf, IsRunAt, Setting, shared_of}
use Rattle.engine_runs.specs.declared.start.openings.Opening.{Opening}
use Rattle.gl_base.specs.declared.entries.Entry.{Entry}
use Rattle.gl_base.specs.declared.jobs.FailureAt.{FailureAt}
use Rattle.graph_core.specs.DataGraph.{DataGraph}
use Rattle.placed_machines.specs.declared.placing.Places.{Places}
use Rattle.recovery.proofs.Goodness.{base_good, none_good}
use Rattle.recovery.specs.GoodStores.{IsGoodBase, IsGoodStore}
use Rattle.recovery.specs.Recovered.{IsRecovered, IsStartBase}
use Rattle.recovery.specs.opened_store.Opening.{ticket_above}
use Rattle.store.specs.declared.store_format.header.Header.{Header}
use Rattle.update_api.specs.Updates.{Update}

low_at_first : (order : List Entry) → order ≡ [] → ticket_above order ≤ 144115188075855872
low_at_first order none =
    let zero_low : 0 ≤ 144115188075855872 = omega arith in
    subst (λ (es : List Entry). ticket_above es ≤ 144115188075855872) (sym none) zero_low

no_more : (n : ℕ) → n ≡ n + 0
no_more n = omega arith

-- the call opens with this base itself
opens_itself : (opening : Opening) → opening.base.order.items ≡ [] → opening.next ≡ 0 → opening.restarts.stored.items ≡ [] → opening.restarts.front.items ≡ [] → IsOpeningOf false opening.base opening
opens_itself opening none next stored front = record {
  next = next ∙ ap (λ (es : List Entry). min (ticket_above es) (2 ^ 64 - 1)) (sym none);
  opened = record {
    number = refl;
    order = sym (append-nil opening.base.order.items);
    values = refl;
    edges = refl;
    length = no_more opening.base.length;
  };
  stored = stored ∙ ap (filter is_restart) (sym none);
  front = front ∙ ap (filter is_restart) (sym none);
}

module _ {P : Type 0} (meaning : P → Update) (g : DataGraph) (program : Update) (header : Header) (opening : Opening) (trace : TraceView (AnyMachine P)) (places : Places) (failures : List FailureAt) (budget machines : ℕ)
    (start : IsStartBase g program opening.base) (next : opening.next ≡ 0) (stored : opening.restarts.stored.items ≡ []) (front : opening.restarts.front.items ≡ [])
    (st : Setting) (runs : IsRunAt g program places st) (ordered : AreJobFailures machines failures) (are : ArePlacesOf g machines places) (most : budget ≤ 16777216) (of : IsHeaderOf g header) where
  recovered : IsRecovered g program header [] opening.base
  recovered = inl (refl, start)

  good : IsGoodStore (shared_of st failures) header []
  good = none_good (shared_of st failures) header

  good_base : IsGoodBase (shared_of st failures) opening.base
  good_base = base_good (shared_of st failures) g program header [] opening.base runs.placed.graph runs.program_is of good recovered

  pub starts_alone : (CanOpenWith st failures false (base_with opening.base.order opening.base) opening.next budget → OpensWith meaning trace st false (base_with opening.base.order opening.base) budget) → trace.failures ≡ failures → header.machines ≡ machines →
      HasStarted meaning (record { trace = trace; places = places; order = opening.base.order; restarts = opening.restarts }) header [] false budget st
  starts_alone opens same header_machines =
      has_started meaning g program header [] opening.base false opening trace places failures budget machines recovered (low_at_first opening.base.order.items start.order)
      (opens_itself opening start.order next stored front) st runs good good_base ordered are most (λ is. refl)
      (opens
      (can_open meaning g program header [] opening.base false opening trace places failures budget machines recovered (low_at_first opening.base.order.items start.order)
      (opens_itself opening start.order next stored front) st runs good good_base ordered are most (λ is. refl)))
      same of header_machines
