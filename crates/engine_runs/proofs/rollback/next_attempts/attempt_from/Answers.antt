-- What is lost behind the order of the base.
use Rattle.std.proofs.Common.{◌∙◌, sym}
use Rattle.engine_runs.proofs.rollback.next_attempts.attempt_from.Goals as goal

pub returns-clause-lost : goal.returns-clause-lost
returns-clause-lost g c = (
  c.in-Ok.ensures.0,
  c.in-Ok.ensures.1,
  λ st o events x is to order_is back. c.in-Ok.ensures.2 st o events x is to (order_is ∙ sym c.deref.ensures.value) back,
)

pub returns-clause-stand : goal.returns-clause-stand
returns-clause-stand g c = c.in-Ok-machines_from.ensures.stand

pub returns-clause-start : goal.returns-clause-start
returns-clause-start g c = c.in-Ok-machines_from.ensures.start
