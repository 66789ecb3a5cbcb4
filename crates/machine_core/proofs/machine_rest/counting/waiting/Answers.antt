-- The machines are those of the setting.
use Rattle.std.proofs.Common.{◌∙◌}
use Rattle.machine_core.proofs.machine_rest.CountLemmas.{waiting_is}
use Rattle.machine_core.proofs.machine_rest.counting.waiting.Goals as goal

pub returns : goal.returns
returns c st here = c.count_for_machines.ensures ∙ waiting_is st c.args.core.now here
