use Rattle.std.proofs.Common.{◌≡◌, length}
use Rattle.graph_atoms.specs.atom_cut.Cuts.{atom_numbers}
use Rattle.graph_atoms.specs.atom_cut.Inner.Filling.{AllHold}
use Rattle.graph_atoms.proofs.atom_cut.lines.add_vertices.Given as goal

abbrev pub invariant-loop-v : goal.invariant-loop-v
invariant-loop-v l =
    record {
      hold : AllHold l.graph (atom_numbers l.of) l.v 0 0 l.lines;
      count : length l.lines ≡ length l.initial.lines;
    }
