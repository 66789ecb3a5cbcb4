-- Event by event.
use Rattle.whole_laws.proofs.cluster_whole.Joining.{event_leads}
use Rattle.whole_laws.proofs.cluster_whole.laws.events_are_moves.Goals as goal

pub returns : goal.returns
returns c = λ st cluster event may other. event_leads st cluster event may other
