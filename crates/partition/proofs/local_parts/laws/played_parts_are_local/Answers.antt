use Rattle.local_graph.specs.Lines.{halves_of_lines}
use Rattle.partition.proofs.local_parts.MineLemmas.{lists_of_lines}
use Rattle.partition.proofs.local_parts.ScopeLemmas.{part_of_graph}
use Rattle.partition.proofs.local_parts.laws.played_parts_are_local.Goals as goal

pub returns-clause-local : goal.returns-clause-local
returns-clause-local c = λ st me lines outline l is are played.
    part_of_graph st me lines.vertices.items lines.ghosts.items (halves_of_lines outline.directed lines.edges.items) outline.machines outline.edges l is (lists_of_lines st me.0 lines outline is are) played
