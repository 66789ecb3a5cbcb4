-- A call without a store goes on.
use Rattle.std.proofs.Common.{◌≡◌, ℕ, ◌∙◌, List, [], ap, length, subst, subst₂, sym}
use Rattle.std.specs.Prelude.{false}
use Rattle.engine_runs.proofs.Backs.{some_reached}
use Rattle.engine_runs.proofs.Begun.{from_started}
use Rattle.engine_runs.proofs.Playing.{same_first, same_on}
use Rattle.cluster_step.specs.declared.drive.unsaved.UnsavedPause.TheVariants as unsaved
use Rattle.engine_runs.specs.declared.start.starting.Started.{Started}
use Rattle.engine_runs.specs.rollback.Returning.{HasReachedSome, IsKnownTrace}
use Rattle.engine_runs.specs.start.Starting.{HasStarted}
use Rattle.engine_runs.specs.unstored.Inner.Going.{ArePlacesOf, AreRestartsAlone, CallOpening, CanGoOnUnstored, GoesOnUnstored, HasBegunUnstored, Header, IsAnyMachineOf, IsHeaderOf, IsKnownAt, IsRunAt, IsSameCall, PausesUnsaved, Setting, StoredCall}
use Rattle.gl_base.specs.declared.entries.Entry.{Entry}
use Rattle.gl_base.specs.declared.numbers.MachineNo.{MachineNo}
use Rattle.graph_core.specs.DataGraph.{DataGraph, size}
use Rattle.placed_machines.specs.declared.placing.Places.{Places}
use Rattle.update_api.specs.Updates.{Update}

-- ---- as it begins

pub has_begun : {P : Type 0} (meaning : P → Update) (started : Started P) (call : StoredCall P) (header : Header) (budget : ℕ) (st : Setting) → call.trace ≡ started.trace → call.restarts ≡ started.restarts → call.order ≡ started.order →
    call.lost.items ≡ [] → HasStarted meaning started header [] false budget st → HasBegunUnstored meaning call header budget st
has_begun meaning started call header budget st trace restarts order lost has = record {
  opening = has.opening;
  resumed_is = has.resumed_is;
  tickets = has.tickets;
  known = subst (λ (ls : List Entry). IsKnownTrace (IsAnyMachineOf meaning) call.trace header [] [] ls call.restarts.stored.items call.restarts.front.items call.order.items st has.opening) (sym lost)
      (from_started meaning started call header [] st has.opening trace restarts order has.known);
}

-- ---- as it goes on

module _ {P : Type 0} (meaning : P → Update) (g : DataGraph) (program : Update) where
  pub stays : (call : StoredCall P) → CanGoOnUnstored g call → GoesOnUnstored meaning g program call call
  stays call can = record { can = can; same = same_first call; known = λ header st o runs known. known }

  pub goes_then : (a b c : StoredCall P) → GoesOnUnstored meaning g program a b → GoesOnUnstored meaning g program b c → GoesOnUnstored meaning g program a c
  goes_then a b c one other = record {
    can = other.can;
    same = same_on a b c one.same other.same;
    known = λ header st o runs known. other.known header st o (subst (λ (p : Places). IsRunAt g program p st) (sym one.same.places) runs) (one.known header st o runs known);
  }

  -- to its next pause
  pub goes_to : (call mid : StoredCall P) → mid ≡ record call { trace = mid.trace } → IsSameCall call mid →
      ((header : Header) (start bodies : List (List ℕ)) (st : Setting) (o : CallOpening) → IsKnownAt meaning call.trace call header start bodies st o → IsKnownAt meaning mid.trace mid header start bodies st o) →
      CanGoOnUnstored g call → GoesOnUnstored meaning g program call mid
  goes_to call mid same attempt known can = record {
    can = record {
      places = subst₂ (λ (n : ℕ) (p : Places). ArePlacesOf g n p) (sym attempt.machines) (sym attempt.places) can.places;
      graph = can.graph;
      window = ap (λ (p : Places). p.run.window) attempt.places ∙ can.window;
      running = attempt.stopped ∙ can.running;
      stored = ap (λ (c : StoredCall P). c.restarts.stored.items) same ∙ can.stored;
      snapshots = ap (λ (c : StoredCall P). c.snapshots.items) same ∙ can.snapshots;
      saves = attempt.saves ∙ can.saves;
      restarts = subst AreRestartsAlone (sym (ap (λ (c : StoredCall P). c.order.items) same)) can.restarts;
    };
    same = attempt;
    known = λ header st o runs at. known header [] [] st o at;
  }

  -- back to the start
  pub goes_back : (call later : StoredCall P) → IsSameCall call later → later.snapshots ≡ call.snapshots → later.restarts.stored ≡ call.restarts.stored → later.trace.now.stopped ≡ false → AreRestartsAlone later.order.items →
      (m : MachineNo) → PausesUnsaved (IsAnyMachineOf meaning) call.trace (unsaved.Reached m) →
      ((header : Header) (order : List Entry) (st : Setting) (o : CallOpening) → IsHeaderOf g header → IsRunAt g program call.places st →
      (known : IsKnownTrace (IsAnyMachineOf meaning) call.trace header [] [] call.lost.items call.restarts.stored.items call.restarts.front.items order st o) → HasReachedSome call.trace st known.was.cluster →
      IsKnownAt meaning later.trace later header [] [] st o) →
      CanGoOnUnstored g call → GoesOnUnstored meaning g program call later
  goes_back call later attempt snapshots stored running alone m reached back can = record {
    can = record {
      places = subst₂ (λ (n : ℕ) (p : Places). ArePlacesOf g n p) (sym attempt.machines) (sym attempt.places) can.places;
      graph = can.graph;
      window = ap (λ (p : Places). p.run.window) attempt.places ∙ can.window;
      running = running;
      stored = ap (λ v. v.items) stored ∙ can.stored;
      snapshots = ap (λ v. v.items) snapshots ∙ can.snapshots;
      saves = attempt.saves ∙ can.saves;
      restarts = alone;
    };
    same = attempt;
    known = λ header st o runs at.
        back header call.order.items st o (record { n = at.fits.n ∙ ap size runs.placed.graph; m = at.fits.m ∙ ap (λ (x : DataGraph). length x.edges) runs.placed.graph }) runs at
        (some_reached meaning call.trace header [] [] call.lost.items call.restarts.stored.items call.restarts.front.items call.order.items st o at m reached);
  }
