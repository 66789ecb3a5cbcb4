use Rattle.recovery.proofs.opened_store.OpenLemmas.{base_there}
use Rattle.recovery.proofs.opened_store.laws.calls_open_with_bases.Goals as goal

pub returns : goal.returns
returns t = base_there
