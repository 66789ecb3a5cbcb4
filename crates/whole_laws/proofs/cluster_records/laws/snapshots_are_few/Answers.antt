-- The updates of a snapshot are in no other one.
use Rattle.std.proofs.Common.{◌+◌}
use Rattle.cluster_laws.specs.cluster_model.Working.{half_window}
use Rattle.cluster_laws.specs.cluster_core.Recovering.{going_on}
use Rattle.cluster_laws.specs.cluster_model.Events.{recovers}
use Rattle.whole_laws.specs.cluster_records.Few.{snapshots_in_all, unasked_in, under_way}
use Rattle.whole_laws.proofs.cluster_records.Fewness.{attempts_few, by_half}
use Rattle.whole_laws.proofs.cluster_records.laws.snapshots_are_few.Goals as goal

pub returns : goal.returns
returns c = λ st base cluster events new is coloured some trace.
    by_half (half_window st) (snapshots_in_all events + under_way new) (unasked_in (going_on st base.numbers base.number) (recovers st base cluster) events) cluster.left some
    (attempts_few st is coloured base cluster events new trace)
