use Rattle.std.proofs.Common.{◌≡◌, length}
use Rattle.graph_atoms.specs.atom_cut.Cuts.{atom_numbers}
use Rattle.graph_atoms.specs.atom_cut.Inner.Filling.{AllHold}
use Rattle.graph_atoms.proofs.atom_cut.lines.no_lines.Given as goal

abbrev pub invariant-loop : goal.invariant-loop
invariant-loop l =
    record {
      count : length l.lines.items ≡ l.counter;
      none : AllHold l.graph (atom_numbers l.of) 0 0 0 l.lines.items;
    }
