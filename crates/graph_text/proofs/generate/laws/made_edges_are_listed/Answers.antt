use Rattle.graph_text.proofs.generate.MadeEdges.{made_edges-read}
use Rattle.graph_text.proofs.generate.laws.made_edges_are_listed.Goals as goal

pub returns : goal.returns
returns c = λ plan stride directed weighted ranges is has. made_edges-read plan stride directed weighted ranges is has
