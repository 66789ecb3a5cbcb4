use Rattle.graph_atoms.proofs.atom_file.AtomLemmas.{one_atom}
use Rattle.graph_atoms.proofs.atom_file.laws.files_tell_one_atom.Goals as goal

pub returns : goal.returns
returns c = one_atom
