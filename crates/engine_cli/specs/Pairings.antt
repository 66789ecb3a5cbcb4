-- Runs of pairs, whose updates write neighbours too.
use Rattle.std.specs.Prelude.{◌≡◌, ◌≤◌, ◌+◌, ◌*◌, ℕ, List, [], length}
use Rattle.full_runs.specs.FullEnds.{RunsFullyTo}
use Rattle.gl_base.specs.declared.numbers.Vertex.{Vertex}
use Rattle.graph_atoms.specs.declared.atom_gather.cuts.Cut.{Cut}
use Rattle.graph_core.specs.DataGraph.{DataGraph}
use Rattle.job_io.specs.job_config.Jobs.{JobSayings}
use Rattle.placement.specs.plans.Plays.{CountsByMachine, IsPlacement}
use Rattle.prog_match.specs.Pairs.{update_of_pairs}
use Rattle.seq_run.specs.StepBound.{step_bound}
use Rattle.engine_runs.specs.declared.answers.runs.StoredEnd.TheVariants.{Finished, Spent}
use Rattle.engine_runs.specs.declared.answers.runs.StoredRun.{StoredRun}
use Rattle.engine_cli.specs.Ends.{IsEndAlone, left_at}
use Rattle.engine_cli.specs.Plays.{AreResults}

-- the budget has as many updates as the algorithm may need on this graph, for the first attempt and for one behind each failure
abbrev pub HasEnough : JobSayings → DataGraph → Type 0
HasEnough job g = (1 + length job.failures) * step_bound g job.fields.algorithm ≤ job.fields.budget

-- A run of pairs on a graph that is cut so and placed, from one valid order of updates that write their neighbours too. They are counted by machine, none is lost, no failure
-- fires and no snapshot is taken. Where it left no task, the numbers are what the algorithm is to find; and it spends no budget that is enough.
pub record RunsOfPairs (job : JobSayings) (g : DataGraph) (cut : Cut) (run : StoredRun) : Type 0 where
  pub owner : ℕ → ℕ
  pub placement : IsPlacement g cut job.fields.machines owner
  pub edges : List ℕ
  pub runs : RunsFullyTo g update_of_pairs owner job.fields.budget run.order.items run.numbers.items edges (left_at run.end)
  pub ended : IsEndAlone run.end
  pub counts : CountsByMachine job.fields.machines run.order.items run.done.items
  pub lost : run.lost.items ≡ []
  pub fired : run.fired.items ≡ []
  pub snapshots : run.snapshots.items ≡ []
  pub results : run.end ≡ Finished → AreResults job.fields.algorithm job.fields.source g run.numbers.items
  pub enough : HasEnough job g → (left : Vertex) → run.end ≡ Spent left → ⊥
