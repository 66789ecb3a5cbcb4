-- What is due is told of the call.
use Rattle.std.proofs.Common.{refl}
use Rattle.cluster_step.proofs.drive.pauses.quiet_pause.Goals as goal

pub returns-in-Record-clause-pause : goal.returns-in-Record-clause-pause
returns-in-Record-clause-pause g c = (c.requires, c.in-Record.ensures.due, c.in-Record.ensures.pending c.in-Record.number refl)

pub returns-in-Ended-clause-pause : goal.returns-in-Ended-clause-pause
returns-in-Ended-clause-pause g c = (c.requires, c.in-Ended.ensures.ended refl)
