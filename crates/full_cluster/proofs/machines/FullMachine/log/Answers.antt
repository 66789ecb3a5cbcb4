use Rattle.std.proofs.Common.{◌∙◌, sym}
use Rattle.full_cluster.proofs.machines.FullMachine.log.Goals as goal

pub returns : goal.returns
returns c = λ st part is. c.deref.ensures.value ∙ sym is.log
