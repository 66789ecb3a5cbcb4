-- No ticket is left, and a task is.
use Rattle.cluster_step.proofs.drive.unsaved.unsaved_end.Goals as goal

pub returns-then-is_spent-clause-pause : goal.returns-then-is_spent-clause-pause
returns-then-is_spent-clause-pause g c = (c.requires, c.is_spent.ensures.spent c.if-is_spent.true, c.is_spent.ensures.task c.if-is_spent.true)

-- nothing is left to do
pub returns-then-leaves_nothing-clause-pause : goal.returns-then-leaves_nothing-clause-pause
returns-then-leaves_nothing-clause-pause g c = (c.requires, c.leaves_nothing.ensures.nothing c.if-leaves_nothing.true)
