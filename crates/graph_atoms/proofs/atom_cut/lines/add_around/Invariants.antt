use Rattle.std.proofs.Common.{◌≡◌, length, ◌==◌, ◌&&◌, not, [], take}
use Rattle.std.specs.List.{list_any}
use Rattle.graph_core.specs.Growth.{numbers_of}
use Rattle.graph_atoms.specs.atom_cut.Cuts.{atom_numbers}
use Rattle.graph_atoms.specs.atom_cut.Atoms.{is_in}
use Rattle.graph_atoms.specs.atom_cut.Inner.Filling.{AllGain, when}
use Rattle.graph_atoms.proofs.atom_cut.lines.add_around.Given as goal

abbrev pub invariant-loop-vertex : goal.invariant-loop-vertex
invariant-loop-vertex l =
    record {
      gained : AllGain (λ _. []) (λ a _. when (not (l.line.atom.0 == a) && list_any (is_in (atom_numbers l.of) a) (take l.vertex-index (numbers_of l.around))) l.line) (λ _. []) l.initial.lines l.lines;
      count : length l.lines ≡ length l.initial.lines;
    }
