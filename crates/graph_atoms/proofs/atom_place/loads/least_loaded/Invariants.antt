use Rattle.std.proofs.Common.{ℕ, ◌<◌, ◌≤◌, length, slice_index}
use Rattle.graph_atoms.proofs.atom_place.loads.least_loaded.Given as goal

abbrev pub invariant-loop-machine : goal.invariant-loop-machine
invariant-loop-machine l =
    record {
      below : l.least < length l.loads;
      least : (k : ℕ) → k < l.machine → slice_index l.loads l.least ≤ slice_index l.loads k;
      lower : (k : ℕ) → k < l.least → slice_index l.loads l.least < slice_index l.loads k;
    }
