use Rattle.std.proofs.Common.{◌≡◌, ◌++◌, take}
use Rattle.std.specs.List.{flat_map}
use Rattle.graph_atoms.specs.atom_file.Atoms.{edge_record}
use Rattle.graph_atoms.proofs.atom_file.writing.push_edges.Given as goal

abbrev pub invariant-loop-line : goal.invariant-loop-line
invariant-loop-line l = l.file.items ≡ l.initial.file.items ++ flat_map edge_record (take l.line-index l.lines)
