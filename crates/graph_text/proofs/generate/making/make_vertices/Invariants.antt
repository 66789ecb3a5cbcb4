-- What was written, what is gathered and the lines that are left are the whole text.
use Rattle.std.proofs.Common.{◌-◌, ◌≤◌}
use Rattle.gl_outside.proofs.Fronts.{Printing}
use Rattle.graph_text.specs.generate.Making.{lines_from, vertex_line, made_vertices}
use Rattle.graph_text.proofs.generate.making.make_vertices.Given as goal

abbrev pub invariant-loop-vertex : goal.invariant-loop-vertex
invariant-loop-vertex g l =
    let held = g.K.Sink.held in
    record {
      printing : Printing (held l.fn.sink) (held l.sink) l.piece.items (lines_from vertex_line l.vertex (l.plan.vertices - l.vertex)) (made_vertices l.plan);
      later : g.K.Sink.faults l.fn.sink ≤ g.K.Sink.faults l.sink;
      same : g.K.Sink.same l.fn.sink l.sink;
    }
