use Rattle.std.proofs.Common.{length}
use Rattle.local_graph.specs.Played.{graph_halves}
use Rattle.partition.proofs.local_parts.MineLemmas.{lists_of_graph}
use Rattle.partition.proofs.local_parts.ScopeLemmas.{part_of_graph}
use Rattle.partition.proofs.local_parts.laws.parts_of_graphs_are_local.Goals as goal

pub returns-clause-local : goal.returns-clause-local
returns-clause-local c = λ st me own ghosts l is are made.
    part_of_graph st me own ghosts (graph_halves st.graph) st.machines (length st.graph.edges) l is (lists_of_graph st me.0 own ghosts are) made
