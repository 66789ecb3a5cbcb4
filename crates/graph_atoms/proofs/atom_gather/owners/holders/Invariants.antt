use Rattle.std.proofs.Common.{◌≡◌, ◌<◌, ℕ, length, slice_index, slice_index_or}
use Rattle.graph_atoms.specs.atom_cut.Cuts.{atom_numbers}
use Rattle.graph_atoms.specs.declared.atom_gather.owners.Held.TheVariants.{Nobody, By}
use Rattle.graph_atoms.proofs.atom_gather.owners.holders.Given as goal

abbrev pub invariant-loop-v : goal.invariant-loop-v
invariant-loop-v l =
    record {
      each : length (atom_numbers l.of.items) ≡ l.v;
      by : (u : ℕ) → u < l.v → slice_index_or l.held u Nobody ≡ By (record { 0 = slice_index (atom_numbers l.of.items) u });
    }
