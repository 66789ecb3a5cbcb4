use Rattle.machine_core.proofs.machine_updates.WordLemmas.{done_can_be_learned}
use Rattle.machine_core.proofs.machine_updates.laws.dones_can_be_learned.Goals as goal

pub returns : goal.returns
returns c st p m done setting part order may home stand others close pends number = done_can_be_learned st p m done setting part order may home stand others close pends number
