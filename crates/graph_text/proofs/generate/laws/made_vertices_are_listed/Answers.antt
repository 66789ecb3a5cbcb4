use Rattle.graph_text.proofs.generate.MadeVertices.{made_vertices-list}
use Rattle.graph_text.proofs.generate.laws.made_vertices_are_listed.Goals as goal

pub returns : goal.returns
returns c = λ plan ranges. made_vertices-list plan.vertices ranges.vertices
