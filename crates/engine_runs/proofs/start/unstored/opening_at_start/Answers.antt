-- The start has a number for each vertex and each edge.
use Rattle.engine_runs.proofs.start.unstored.opening_at_start.Goals as goal

pub returns-clause-fits : goal.returns-clause-fits
returns-clause-fits g c = record { vertices = c.in_ok-base.ensures.vertices.count; edges = c.in_ok-base.ensures.edges.count }
