-- Event by event.
use Rattle.cluster_laws.specs.cluster_core.Recovering.{going_on}
use Rattle.std.proofs.Common.{refl}
use Rattle.whole_laws.proofs.cluster_ending.Traces.{traces_followed, event_kept}
use Rattle.whole_laws.proofs.cluster_ending.Putting.{recovered_watched}
use Rattle.whole_laws.proofs.cluster_ending.laws.events_keep_waves.Goals as goal

pub returns-clause-begins : goal.returns-clause-begins
returns-clause-begins c = λ st base cluster. (_, recovered_watched st (going_on st base.numbers base.number) base cluster refl refl)

pub returns-clause-goes_on : goal.returns-clause-goes_on
returns-clause-goes_on c = λ st cluster watch event is whole was may other.
    let kept = event_kept st is cluster whole watch was event may other in
    (kept.0, kept.1.0, kept.1.1, kept.1.2)

pub returns-clause-trace : goal.returns-clause-trace
returns-clause-trace c = λ st events old new is followed trace. traces_followed st is events old new followed trace
