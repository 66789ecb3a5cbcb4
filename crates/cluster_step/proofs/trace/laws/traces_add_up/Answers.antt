-- What events add.
use Rattle.cluster_step.proofs.trace.Passing.{pass_fronts, pass_lost, pass_records, record_fronts, record_lost, record_records, recover_fronts, recover_lost, recover_records}
use Rattle.cluster_step.proofs.trace.laws.traces_add_up.Goals as goal

pub returns : goal.returns
returns c = record {
  passing = λ st o events more lost all are. (pass_records st o events more all, pass_fronts st o events more all, pass_lost st o events more all lost are);
  records = λ st o events c lost trace are. (record_records st o events c trace, record_fronts st o events c trace, record_lost st o events c trace lost are);
  recoveries = λ st o events c base lost gone trace are takes.
      (recover_records st o events c trace base, recover_fronts st o events c trace base, recover_lost st o events c trace base lost gone are takes);
}
