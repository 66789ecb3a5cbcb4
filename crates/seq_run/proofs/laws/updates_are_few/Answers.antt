-- Each update lowers the tasks and the ranks of the numbers, taken together.
use Rattle.seq_run.proofs.StepBounds.{levels_bound, components_bound, paths_bound, colours_bound, cores_bound}
use Rattle.seq_run.proofs.laws.updates_are_few.Goals as goal

pub returns-clause-levels : goal.returns-clause-levels
returns-clause-levels c = λ g source is within order valid. levels_bound g is source within order valid

pub returns-clause-components : goal.returns-clause-components
returns-clause-components c = λ g is order valid. components_bound g is order valid

pub returns-clause-paths : goal.returns-clause-paths
returns-clause-paths c = λ g source is within order valid. paths_bound g is source within order valid

pub returns-clause-colours : goal.returns-clause-colours
returns-clause-colours c = λ g is order valid. colours_bound g is order valid

pub returns-clause-cores : goal.returns-clause-cores
returns-clause-cores c = λ g is undirected order valid. cores_bound g is undirected order valid
