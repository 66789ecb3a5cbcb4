use Rattle.std.proofs.Common.{◌≡◌, ◌++◌, take}
use Rattle.std.specs.List.{flat_map}
use Rattle.graph_atoms.specs.atom_file.Atoms.{ghost_record}
use Rattle.graph_atoms.proofs.atom_file.writing.push_ghosts.Given as goal

abbrev pub invariant-loop-line : goal.invariant-loop-line
invariant-loop-line l = l.file.items ≡ l.initial.file.items ++ flat_map ghost_record (take l.line-index l.lines)
