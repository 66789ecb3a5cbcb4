-- What stays in order where a pipe, a table of locks or the outboxes change.
use Rattle.std.proofs.Common.{◌≡◌, ℕ, ◌<◌, Bool, true, false, length, sym, ap, ◌∙◌, subst}
use Rattle.gl_base.specs.declared.numbers.MachineNo.{MachineNo}
use Rattle.gl_base.specs.declared.scopes.ScopeId.{ScopeId}
use Rattle.wire.specs.outboxes.Outboxes.{OutboxesView}
use Rattle.scope_locks.specs.scope_pipe.Entered.{EnteredView}
use Rattle.scope_locks.specs.scope_pipe.Pipes.{PipeView, Flies, flight_at, is_ready}
use Rattle.partition.specs.declared.machine_numbers.keeping.Numbers.{Numbers}
use Rattle.machine_core.specs.declared.machine_parts.cores.Core.{Core}
use Rattle.machine_core.specs.machine_parts.Parts.{LocalView}
use Rattle.machine_core.specs.machine_parts.Order.{IsGraphInOrder, HasComeRight, AreFlightsInOrder, IsReadyAt, IsOrderlyBut}
use Rattle.machine_core.specs.declared.machine_parts.spare.SpareParts.{SpareParts}

-- two pipes have the same scopes of this home; those that were ready are
pub record HaveSameFlights (old new : PipeView) : Type 0 where
  pub home : new.home ≡ old.home
  pub serial : new.serial ≡ old.serial
  pub flight : (s : ScopeId) → flight_at new s ≡ flight_at old s
  pub ready : (s : ScopeId) → is_ready old s ≡ true → is_ready new s ≡ true

pub flights_keep : (n : Numbers) (old new : PipeView) → HaveSameFlights old new → AreFlightsInOrder n old → AreFlightsInOrder n new
flights_keep n old new same are = record {
  home = same.home ∙ are.home;
  given = λ s c flies. let was = are.given s c (sym (same.flight s) ∙ flies) in (was.0 ∙ sym same.home, subst (λ (k : ℕ). s.serial < k) (sym same.serial) was.1);
  own = λ s c flies. are.own s c (sym (same.flight s) ∙ flies);
  single = λ s t c one other. are.single s t c (sym (same.flight s) ∙ one) (sym (same.flight t) ∙ other);
  admitted = λ s c flies. are.admitted s c (sym (same.flight s) ∙ flies);
  flies = λ v own admitted. let was : Flies old v = are.flies v own admitted in record { scope = was.scope; centre = same.flight was.scope ∙ was.centre };
  rows = λ v own out. let was : IsReadyAt old v = are.rows v own out in record { scope = was.scope; centre = same.flight was.scope ∙ was.centre; ready = same.ready was.scope was.ready };
}

-- a scope that has come right still has, where it isn't ready and waits if it did
pub come_keeps : (local : LocalView) (old new : PipeView) (machines : ℕ) (moves moved : Bool) (s : ScopeId) (e : EnteredView) → new.home ≡ old.home → flight_at new s ≡ flight_at old s → is_ready new s ≡ is_ready old s
    → (moved ≡ false → moves ≡ false) → HasComeRight local old machines moves s e → HasComeRight local new machines moved s e
come_keeps local old new machines moves moved s e home flight ready still come = record {
  part = come.part;
  place = come.place;
  rest = come.rest;
  home = come.home;
  stands = λ waits. come.stands (still waits);
  flight = λ at. flight ∙ come.flight (at ∙ ap (λ (a : MachineNo). a.0) home);
  waits = λ at. ready ∙ come.waits (at ∙ ap (λ (a : MachineNo). a.0) home);
}

-- outboxes to as many machines
pub orderly_out : (moving : ScopeId → Bool) (m : Core) (out : OutboxesView) (spare : SpareParts) → length out.machines ≡ length m.out.machines → IsOrderlyBut moving m → IsOrderlyBut moving (record m { out = out; spare = spare })
orderly_out moving m out spare many is = record {
  graph = subst (IsGraphInOrder m.numbers.local) (sym many) is.graph;
  numbers = is.numbers;
  entered = λ s e come. subst (λ (k : ℕ). HasComeRight m.numbers.local m.pipe k (moving s) s e) (sym many) (is.entered s e come);
  locks = is.locks;
  flights = is.flights;
  width = is.width;
}
