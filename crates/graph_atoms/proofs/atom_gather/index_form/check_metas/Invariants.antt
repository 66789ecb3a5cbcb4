use Rattle.std.proofs.Common.{◌≡◌, ◌-◌, ◌≤◌, length}
use Rattle.graph_atoms.specs.atom_gather.IndexForm.{metas_fault}
use Rattle.graph_atoms.proofs.atom_gather.index_form.check_metas.Given as goal

abbrev pub invariant-loop : goal.invariant-loop
invariant-loop l =
    record {
      rest : metas_fault l.bytes (l.count - l.counter) l.least l.at ≡ metas_fault l.bytes l.count 0 l.start;
      within : l.at ≤ length l.bytes;
    }
