use Rattle.std.proofs.Common.{◌≡◌, inl, inr, slice_index, sym, ◌∙◌}
use Rattle.graph_atoms.specs.atom_cut.Cuts.{atom_numbers}
use Rattle.graph_atoms.proofs.atom_gather.HoldLemmas.{nobody_apart, many_apart}
use Rattle.graph_atoms.proofs.atom_gather.owners.holders.Goals as goal

pub returns-in-Nobody : goal.returns-in-Nobody
returns-in-Nobody c =
    record {
      all = tt;
      first = λ fault is.
          let same : c.owner_at.result ≡ fault = cc in
          record {
            vertex = c.loop-v.v;
            inside = c.loop-v-test.true;
            here = λ a e. elim c.in-Nobody.is [
              | inl nobody ↦ nobody_apart a (sym nobody ∙ e)
              | inr many ↦ many_apart a (sym many ∙ e)
            ];
            before = λ u h. (record { 0 = slice_index (atom_numbers c.loop-v.of.items) u }, c.loop-v.invariant.by u h);
            fault_is = sym same ∙ c.owner_at.ensures;
          };
    }
