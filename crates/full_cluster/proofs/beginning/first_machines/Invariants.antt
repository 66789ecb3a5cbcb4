use Rattle.std.proofs.Common.{◌≡◌, ℕ, length, vec_capacity}
use Rattle.graph_core.specs.DataGraph.{size}
use Rattle.seq_run.specs.Runs.{AreNumbers}
use Rattle.seq_run.specs.States.{GraphState}
use Rattle.cluster_laws.specs.cluster_core.Settings.{Setting}
use Rattle.full_cluster.specs.FullStarts.{AreSeatsAtStart}
use Rattle.full_cluster.specs.Given.{IsDividedAs}
use Rattle.full_cluster.proofs.beginning.first_machines.Given as goal

abbrev pub invariant-loop-a : goal.invariant-loop-a
invariant-loop-a l =
    record {
      count : length l.all.items ≡ l.a;
      room : vec_capacity l.all ≡ l.machines;
      seats : (st : Setting) (s : GraphState) → IsDividedAs st l.division → st.machines ≡ l.machines → AreNumbers (size st.graph) s.vertex l.values → ((e : ℕ) → s.edge e ≡ 0) → AreSeatsAtStart st s l.all.items;
    }
