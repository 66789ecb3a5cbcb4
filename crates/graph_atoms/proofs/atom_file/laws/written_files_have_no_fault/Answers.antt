use Rattle.graph_atoms.proofs.atom_file.AtomLemmas.{atom_fault-atom_bytes}
use Rattle.graph_atoms.proofs.atom_file.laws.written_files_have_no_fault.Goals as goal

pub returns : goal.returns
returns c = atom_fault-atom_bytes
