-- What is taken away stands behind what was lost before.
use Rattle.std.proofs.Common.{◌++◌, ◌∙◌, List, ap}
use Rattle.gl_base.specs.declared.entries.Entry.{Entry}
use Rattle.engine_runs.proofs.rollback.next_attempts.lost_behind.Goals as goal

pub returns : goal.returns
returns g c = (
  c.in_ok-gone.gone.items,
  c.in_ok-lost.ensures ∙ ap (λ (es : List Entry). c.args.lost.now ++ es) c.deref.ensures.value,
  c.in_ok-gone.ensures,
)
