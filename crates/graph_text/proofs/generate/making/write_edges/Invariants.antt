-- What was written, what is gathered and the lines that are left are the whole text.
use Rattle.std.proofs.Common.{◌-◌, ◌≤◌}
use Rattle.gl_outside.proofs.Fronts.{Printing}
use Rattle.graph_text.specs.generate.Making.{lines_from, edge_line, made_edges}
use Rattle.graph_text.proofs.generate.making.write_edges.Given as goal

abbrev pub invariant-loop-edge : goal.invariant-loop-edge
invariant-loop-edge g l =
    let held = g.K.Sink.held in
    record {
      printing : Printing (held l.fn.sink) (held l.sink) l.piece.items (lines_from (edge_line l.plan l.stride) l.edge (l.plan.edges - l.edge)) (made_edges l.plan l.stride);
      later : g.K.Sink.faults l.fn.sink ≤ g.K.Sink.faults l.sink;
      same : g.K.Sink.same l.fn.sink l.sink;
    }
