use Rattle.std.proofs.Common.{◌≡◌}
use Rattle.graph_atoms.specs.atom_file.Views.{edge_at, records_in}
use Rattle.graph_atoms.proofs.atom_file.lists.edge_lines.Given as goal

abbrev pub invariant-loop-i : goal.invariant-loop-i
invariant-loop-i l = l.lines.items ≡ records_in edge_at 17 l.i l.bytes
