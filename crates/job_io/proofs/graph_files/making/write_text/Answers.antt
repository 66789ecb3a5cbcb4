use Rattle.job_io.proofs.graph_files.TextsMade.{edges-front, vertices-front}
use Rattle.job_io.proofs.graph_files.making.write_text.Goals as goal

pub returns-in-Vertices-clause-front : goal.returns-in-Vertices-clause-front
returns-in-Vertices-clause-front g c = rw c.in-Vertices.is (vertices-front c.make_vertices.result c.args.plan.now _ _ _ _ c.make_vertices.ensures.written)

pub returns-in-Edges-clause-front : goal.returns-in-Edges-clause-front
returns-in-Edges-clause-front g c = rw c.in-Edges.is (edges-front c.make_edges.result c.args.plan.now _ _ _ _ c.make_edges.ensures.written)
