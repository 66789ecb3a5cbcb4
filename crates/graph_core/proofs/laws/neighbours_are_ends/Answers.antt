use Rattle.graph_core.proofs.VertexLaws.{neighbours_same, neighbours_ascend}
use Rattle.graph_core.proofs.laws.neighbours_are_ends.Goals as goal

pub returns-clause-same : goal.returns-clause-same
returns-clause-same c = neighbours_same

pub returns-clause-ascending : goal.returns-clause-ascending
returns-clause-ascending c = neighbours_ascend
