use Rattle.graph_atoms.proofs.atom_cut.RangeLemmas.{graph_atom-is}
use Rattle.graph_atoms.proofs.atom_cut.laws.atoms_of_graphs_have_files.Goals as goal

pub returns : goal.returns
returns c = graph_atom-is
