use Rattle.std.proofs.Common.{◌≡◌, ℕ, ◌*◌, ◌/◌, ◌<◌, length, slice_index, All}
use Rattle.gl_base.specs.declared.numbers.AtomNo.{AtomNo}
use Rattle.graph_core.specs.Growth.{numbers_of}
use Rattle.graph_atoms.specs.atom_cut.Cuts.{atom_numbers}
use Rattle.graph_atoms.proofs.atom_cut.assigning.assign.Given as goal

abbrev pub invariant-loop-place : goal.invariant-loop-place
invariant-loop-place l =
    record {
      place : (p : ℕ) → p < l.place → slice_index (atom_numbers l.of) (slice_index (numbers_of l.order) p) ≡ p * l.atoms / length l.initial.of;
      below : All (λ (a : AtomNo). a.0 < l.atoms) l.of;
    }
