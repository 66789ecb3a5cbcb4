-- Event after event, attempt after attempt.
use Rattle.call_laws.proofs.cluster_attempts.Joining.{begins_so, traces_make}
use Rattle.call_laws.proofs.cluster_attempts.laws.traces_are_attempts.Goals as goal

pub returns-clause-begins : goal.returns-clause-begins
returns-clause-begins c = λ st failures b base cluster front next done. begins_so st failures b base cluster front next done

pub returns-clause-goes_on : goal.returns-clause-goes_on
returns-clause-goes_on c = λ st failures b events old new whole logged failed is trace account based so keep. traces_make failures b events st is old new whole logged failed trace account based so keep
