use Rattle.std.proofs.Common.{◌≡◌}
use Rattle.graph_atoms.specs.atom_file.Views.{vertex_at, records_in}
use Rattle.graph_atoms.proofs.atom_file.lists.vertex_lines.Given as goal

abbrev pub invariant-loop-i : goal.invariant-loop-i
invariant-loop-i l = l.lines.items ≡ records_in vertex_at 13 l.i l.bytes
