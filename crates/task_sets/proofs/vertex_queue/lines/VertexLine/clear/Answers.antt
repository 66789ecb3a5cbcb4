use Rattle.std.proofs.Common.{◌∙◌, sym}
use Rattle.task_sets.proofs.vertex_queue.LineLemmas.{nobody}
use Rattle.task_sets.proofs.vertex_queue.lines.VertexLine.clear.Goals as goal

pub returns-clause-line : goal.returns-clause-line
returns-clause-line c = nobody c.line.self.line c.first.result c.first.ensures.first (sym c.is_some.ensures ∙ c.line-test.false)
