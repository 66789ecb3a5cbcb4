use Rattle.graph_text.proofs.generate.MadeGraphs.{made_graph-described}
use Rattle.graph_text.proofs.generate.laws.made_texts_describe_graphs.Goals as goal

pub returns : goal.returns
returns c = λ plan stride directed weighted ranges is has. made_graph-described plan stride directed weighted ranges is has
