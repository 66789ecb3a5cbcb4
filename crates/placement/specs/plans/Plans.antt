-- Plans by which a program can be run, and where they place a graph.
pub use Rattle.graph_atoms.specs.atom_gather.Cuts.{CanBeCut}
pub use Rattle.placement.specs.plans.Plays.{IsPlacement}
use Rattle.std.specs.Prelude.{All, length, ◌<◌, ◌≡◌, ◌≤◌}
use Rattle.graph_atoms.specs.declared.atom_gather.cuts.Cut.{Cut}
use Rattle.graph_core.specs.DataGraph.{DataGraph, size}
use Rattle.placement.specs.declared.plans.runs.RunPlan.{RunPlan}
use Rattle.placement.specs.graphs.Placed.{placed_owner}
use Rattle.placement.specs.declared.graphs.cutting.Placement.{Placement}

-- the numbers of the plan are those that a job may have
pub record IsInRange (plan : RunPlan) : Type 0 where
  pub machines : 1 ≤ plan.machines
  pub pipeline : 1 ≤ plan.pipeline
  pub budget : plan.budget ≤ 16777216

-- each vertex is in an atom, each atom on a machine, and the graph is cut so and placed as the plan says
pub record IsPlaced (g : DataGraph) (cut : Cut) (plan : RunPlan) (made : Placement) : Type 0 where
  pub each : length made.of.items ≡ size g
  pub atoms : All (λ a. a.0 < length made.owner.items) made.of.items
  pub machines : All (λ m. m.0 < plan.machines) made.owner.items
  pub placement : IsPlacement g cut plan.machines (placed_owner made.of.items made.owner.items)
