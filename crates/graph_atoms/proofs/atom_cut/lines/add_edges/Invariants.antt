use Rattle.std.proofs.Common.{◌≡◌, length}
use Rattle.graph_core.specs.DataGraph.{size}
use Rattle.graph_atoms.specs.atom_cut.Cuts.{atom_numbers}
use Rattle.graph_atoms.specs.atom_cut.Inner.Filling.{AllHold}
use Rattle.graph_atoms.proofs.atom_cut.lines.add_edges.Given as goal

abbrev pub invariant-loop-e : goal.invariant-loop-e
invariant-loop-e l =
    record {
      hold : AllHold l.graph (atom_numbers l.of) (size l.graph) (size l.graph) l.e l.lines;
      count : length l.lines ≡ length l.initial.lines;
    }
