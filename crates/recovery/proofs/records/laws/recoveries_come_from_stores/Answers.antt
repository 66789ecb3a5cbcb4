-- The store's last order is the last snapshot's.
use Rattle.recovery.proofs.records.Going.{comes_from}
use Rattle.recovery.proofs.records.laws.recoveries_come_from_stores.Goals as goal

pub returns : goal.returns
returns c = λ st failures kept resumed base first events cluster header start bodies missing trace kept_is number keeps some all lacks.
    comes_from st failures kept resumed base first events cluster trace header start bodies kept_is number keeps some all missing lacks
