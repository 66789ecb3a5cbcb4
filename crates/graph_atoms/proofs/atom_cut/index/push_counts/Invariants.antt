use Rattle.std.proofs.Common.{◌≡◌, ◌++◌, take}
use Rattle.std.specs.List.{flat_map}
use Rattle.graph_atoms.specs.atom_file.Atoms.{atom_of}
use Rattle.graph_atoms.specs.atom_cut.Index.{count_bytes}
use Rattle.graph_atoms.proofs.atom_cut.index.push_counts.Given as goal

abbrev pub invariant-loop-atom : goal.invariant-loop-atom
invariant-loop-atom l = l.index.items ≡ l.initial.index.items ++ flat_map (λ x. count_bytes (atom_of 0 x)) (take l.atom-index l.lines)
