-- Record after record.
use Rattle.recovery.proofs.records.Going.{grows_up, opens_up}
use Rattle.recovery.proofs.records.laws.stores_keep_up.Goals as goal

pub returns-clause-opens : goal.returns-clause-opens
returns-clause-opens c = λ st failures header bodies good. opens_up st failures header bodies good

pub returns-clause-grows : goal.returns-clause-grows
returns-clause-grows c = λ st failures kept resumed base first events cluster header start bodies made trace kept_is keeps due is small fits machines.
    grows_up st failures kept resumed base first events cluster trace header start bodies kept_is keeps due made is small fits machines
