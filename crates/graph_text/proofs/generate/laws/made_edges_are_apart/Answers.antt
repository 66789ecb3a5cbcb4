use Rattle.graph_text.proofs.generate.Strides.{no_loop, no_double}
use Rattle.graph_text.proofs.generate.laws.made_edges_are_apart.Goals as goal

pub returns-clause-loops : goal.returns-clause-loops
returns-clause-loops c = no_loop

pub returns-clause-doubles : goal.returns-clause-doubles
returns-clause-doubles c = no_double
