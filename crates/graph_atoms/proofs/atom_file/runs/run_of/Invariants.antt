use Rattle.std.proofs.Common.{◌≡◌, ◌≤◌, length}
use Rattle.graph_atoms.specs.atom_file.Inner.Runs.{fault_from}
use Rattle.graph_atoms.proofs.atom_file.RunLemmas.{Follows}
use Rattle.graph_atoms.proofs.atom_file.runs.run_of.Given as goal

abbrev pub invariant-records : goal.invariant-records
invariant-records l =
    record {
      follows : Follows l.bytes l.kind l.fn.start l.count l.place;
      rest : fault_from l.bytes l.place ≡ fault_from l.bytes l.fn.start;
      inside : l.place.at ≤ length l.bytes;
    }

abbrev pub decreases-records : goal.decreases-records
decreases-records l = l.place.left
