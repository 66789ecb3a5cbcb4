use Rattle.std.proofs.Common.{◌≡◌, ℕ, ◌<◌, length}
use Rattle.std.specs.Prelude.{slice_index_or}
use Rattle.engine_runs.specs.finish.Gathered.{InEachTrace, IsAnyMachineOf, placed_owner}
use Rattle.graph_core.specs.DataGraph.{size}
use Rattle.engine_runs.proofs.finish.numbers.vertex_numbers.Given as goal

abbrev pub invariant-loop-v : goal.invariant-loop-v
invariant-loop-v g l =
    record {
      count : length l.numbers.items ≡ l.v;
      each : (u : ℕ) → u < l.v → InEachTrace (IsAnyMachineOf g.P.Program.meaning) l.trace (λ st o events c.
          u < size st.graph → st.owner u ≡ placed_owner l.places.of.items l.places.owner.items u → slice_index_or l.numbers.items u 0 ≡ ((c.machine (st.owner u)).part.datum u).value);
    }
