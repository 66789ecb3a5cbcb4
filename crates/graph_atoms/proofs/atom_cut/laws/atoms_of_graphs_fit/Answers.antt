use Rattle.graph_atoms.proofs.atom_cut.RangeLemmas.{graph_atom-fits}
use Rattle.graph_atoms.proofs.atom_cut.laws.atoms_of_graphs_fit.Goals as goal

pub returns : goal.returns
returns c = graph_atom-fits
