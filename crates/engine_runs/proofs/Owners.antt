-- A run with a store, by whatever owners the placement gives.
use Rattle.std.proofs.Common.{◌≡◌, ◌<◌, ℕ, ◌++◌, Bool, List, length, refl, subst, subst₂, sym}
use Rattle.std.specs.Prelude.{is_some}
use Rattle.graph_atoms.specs.declared.atom_gather.cuts.Cut.{Cut}
use Rattle.gl_base.specs.declared.jobs.FailureAt.{FailureAt}
use Rattle.graph_core.specs.DataGraph.{DataGraph, IsDataGraph, size}
use Rattle.placement.proofs.places.OwnerLemmas.{owner_low}
use Rattle.placed_machines.proofs.RunLemmas.{engine_of, runs_by, window_back, window_or}
use Rattle.placed_machines.specs.Beginning.{placed_owner}
use Rattle.placed_machines.specs.declared.placing.Places.{Places}
use Rattle.engine_runs.proofs.attempt_machines.EngineLemmas.{coloured_by}
use Rattle.engine_runs.specs.declared.answers.runs.StoredEnd.{StoredEnd}
use Rattle.engine_runs.specs.declared.answers.runs.MachinePlan.{MachinePlan}
use Rattle.engine_runs.specs.declared.answers.runs.StoredRun.{StoredRun}
use Rattle.engine_runs.specs.Calls.{CallOpening, DiskPast, Header, HoldsGood, IsCallAt, IsCallEnded, IsRunAt, JournalState, LeavesOnly, Setting, orders_behind, shared_of, stored_order}
use Rattle.engine_runs.specs.Runs.{ArePlacedFor, IsEndAt, IsRunSo, IsStoredRun, KeepsGood, Shared, owned_shared}
use Rattle.engine_runs.specs.declared.calls.StoredCall.{StoredCall}
use Rattle.update_api.specs.Updates.{Update}

-- a setting in which the run has these owners
pub record HasOwner (g : DataGraph) (program : Update) (places : Places) (owner : ℕ → ℕ) (failures : List FailureAt) : Type 0 where
  pub st : Setting
  pub runs : IsRunAt g program places st
  pub shared_is : shared_of st failures ≡ owned_shared g program owner failures

-- the places with these owners
abbrev owned_setting : DataGraph → Update → Places → (ℕ → ℕ) → Setting
owned_setting g program places owner =
    record {
      graph = g;
      program = program;
      owner = owner;
      machines = places.run.machines;
      pipeline = places.run.pipeline;
      engine = engine_of places.run.engine places.colours.items;
      stored = is_some places.run.window;
      window = window_or places.run.window;
      start = record { vertex = λ v. 0; edge = λ e. 0 };
      base = 0;
    }

pub with_owner : (g : DataGraph) (program : Update) (cut : Cut) (plan : MachinePlan) (places : Places) (owner : ℕ → ℕ) (failures : List FailureAt) → IsDataGraph g → ArePlacedFor g cut plan places →
    ((v : ℕ) → v < size g → owner v ≡ placed_owner places.of.items places.owner.items v) → HasOwner g program places owner failures
with_owner g program cut plan places owner failures graph are same = record {
  st = owned_setting g program places owner;
  runs = record {
    setting = record {
      is = record {
        graph = graph;
        owner = λ v low. subst (λ (k : ℕ). k < places.run.machines) (sym (same v low)) (owner_low g places.run.machines places.of.items places.owner.items are.are.each are.are.atoms are.are.owners v low);
      };
      coloured = coloured_by g places.run.engine places.colours.items (owned_setting g program places owner) refl are.are.colours;
    };
    engine = runs_by places.run.engine places.colours.items (owned_setting g program places owner) refl;
    placed = record { graph = refl; machines = refl; owners = same };
    program_is = refl;
    pipeline = refl;
    window = window_back places.run.window;
  };
  shared_is = refl;
}

-- what crashes leave of the store of a call
pub kept_good : {D P : Type 0} (meaning : P → Update) (past : D → DiskPast) (call : StoredCall P) (after : JournalState D) (start : List (List ℕ)) (first : DiskPast) (st : Setting) (o : CallOpening) (shared : Shared) (header : Header) →
    shared_of st call.trace.failures ≡ shared → after.header ≡ header → (at : IsCallAt meaning past call after start first st o) → KeepsGood shared header start (orders_behind (stored_order start) at.added) first (past after.disk)
kept_good meaning past call after start first st o shared header shared_is header_is at = record {
  added = at.added;
  orders = refl;
  any_moment = subst₂ (λ (s : Shared) (h : Header). LeavesOnly first (past after.disk) (HoldsGood s h start)) shared_is header_is at.any_moment;
  at_end = λ image is. subst₂ (λ (s : Shared) (h : Header). HoldsGood s h (start ++ at.added) image) shared_is header_is (at.at_end image is);
}

-- how a call that has ended ends
pub end_at : {D P : Type 0} (meaning : P → Update) (past : D → DiskPast) (call : StoredCall P) (after : JournalState D) (start : List (List ℕ)) (first : DiskPast) (st : Setting) (o : CallOpening) (how : StoredEnd) →
    (e : IsCallEnded meaning past call after start first st o how) → IsEndAt meaning call after.header start e.at.added st o how
end_at meaning past call after start first st o how e = record { lines = e.at.lines; paused = e.paused; known = e.known; failures = e.failures; now = e.now; gives = e.gives }

-- the run by other names
pub run_named : (saves : Bool) (st : Setting) (failures : List FailureAt) (o : CallOpening) (start added : List (List ℕ)) (run : StoredRun) (shared : Shared) (machines window budget stored : ℕ) (resumed : Bool) →
    shared_of st failures ≡ shared → st.machines ≡ machines → st.window ≡ window → o.first.left ≡ budget → length start ≡ stored → o.resumed ≡ resumed → IsRunSo saves st failures o start added run →
    IsStoredRun saves shared machines window budget stored (stored_order start) resumed (orders_behind (stored_order start) added) run
run_named saves st failures o start added run shared machines window budget stored resumed shared_is machines_is window_is budget_is stored_is resumed_is is =
    subst₂ (λ (s : Shared) (m : ℕ). IsStoredRun saves s m window budget stored (stored_order start) resumed (orders_behind (stored_order start) added) run) shared_is machines_is
    (subst₂ (λ (w b : ℕ). IsStoredRun saves (shared_of st failures) st.machines w b stored (stored_order start) resumed (orders_behind (stored_order start) added) run) window_is budget_is
    (subst₂ (λ (n : ℕ) (r : Bool). IsStoredRun saves (shared_of st failures) st.machines st.window o.first.left n (stored_order start) r (orders_behind (stored_order start) added) run) stored_is resumed_is is))
