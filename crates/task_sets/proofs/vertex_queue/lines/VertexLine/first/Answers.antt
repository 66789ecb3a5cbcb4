use Rattle.std.proofs.Common.{◌≡◌, ◌==◌, ℕ, subst}
use Rattle.std.specs.List.{list_any}
use Rattle.task_sets.specs.vertex_queue.Flags.{is_flagged}
use Rattle.task_sets.specs.vertex_queue.Lines.{LineView}
use Rattle.task_sets.proofs.vertex_queue.Queueing.{listed}
use Rattle.task_sets.proofs.vertex_queue.lines.VertexLine.first.Goals as goal

pub returns-clause-each : goal.returns-clause-each
returns-clause-each c =
    subst (λ (l : LineView). (u : ℕ) → list_any (λ v. v.0 == u) l.line ≡ is_flagged l.among u) c.self.view_is
    (λ u. listed u c.self.inside.line.items (is_flagged c.self.inside.among.items u) (c.self.invariant.queue.once u))
