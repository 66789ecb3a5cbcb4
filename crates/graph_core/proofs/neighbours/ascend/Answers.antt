use Rattle.graph_core.proofs.NeighbourLemmas.{ascend_exactly}
use Rattle.graph_core.proofs.neighbours.ascend.Goals as goal

pub returns : goal.returns
returns c = ascend_exactly (λ v. v.0) c.args.vertices.now c.rises.result c.rises.ensures
