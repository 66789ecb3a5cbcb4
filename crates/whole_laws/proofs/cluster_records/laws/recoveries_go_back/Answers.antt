-- By ticket there is one order of the base's entries and those of the snapshots since.
use Rattle.whole_laws.proofs.cluster_records.Based.{base_order, next_base}
use Rattle.whole_laws.proofs.cluster_records.laws.recoveries_go_back.Goals as goal

pub returns : goal.returns
returns c = λ st cluster whole logged base is account based back.
    (back.number, base_order st is cluster whole logged account based base back, next_base st is cluster whole logged account based base back)
