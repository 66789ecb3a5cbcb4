-- The start, with the entries as its order.
use Rattle.std.proofs.Common.{◌++◌, ◌∙◌, List, ap, length}
use Rattle.engine_runs.proofs.rollback.FromStart.{start_behind}
use Rattle.gl_base.specs.declared.entries.Entry.{Entry}
use Rattle.engine_runs.proofs.rollback.unstored.start_with.Goals as goal

pub returns-clause-numbers : goal.returns-clause-numbers
returns-clause-numbers g c = record {
  vertices = ap (length {A = _}) c.in_ok-base-2.ensures.values ∙ c.in_ok-base.ensures.vertices.count;
  edges = ap (length {A = _}) c.in_ok-base-2.ensures.edges ∙ c.in_ok-base.ensures.edges.count;
}

pub returns-clause-number : goal.returns-clause-number
returns-clause-number g c = c.in_ok-base-2.ensures.number ∙ c.in_ok-base.ensures.number

pub returns-clause-order : goal.returns-clause-order
returns-clause-order g c = c.in_ok-base-2.ensures.order ∙ ap (λ (es : List Entry). es ++ c.args.missing.now) c.in_ok-base.ensures.order

pub returns-clause-base : goal.returns-clause-base
returns-clause-base g c = λ header shared graph_is program_is of.
    start_behind header shared c.args.graph.now (g.P.Program.meaning c.args.program.now) c.args.missing.now c.in_ok-base.base c.in_ok-base-2.base c.in_ok-base.ensures graph_is program_is of
    c.in_ok-base-2.ensures.number c.in_ok-base-2.ensures.order c.in_ok-base-2.ensures.values c.in_ok-base-2.ensures.edges
