use Rattle.graph_atoms.proofs.atom_gather.BackLemmas.{no_fault_taken, atoms_taken, owners_told}
use Rattle.graph_atoms.proofs.atom_gather.laws.cuts_are_gathered.Goals as goal

pub returns-clause-none : goal.returns-clause-none
returns-clause-none c = no_fault_taken

pub returns-clause-atoms : goal.returns-clause-atoms
returns-clause-atoms c = atoms_taken

pub returns-clause-of : goal.returns-clause-of
returns-clause-of c = owners_told
