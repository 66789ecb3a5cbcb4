-- The machines begin an attempt of the law with the call's tickets.
use Rattle.cluster_scenarios.proofs.beginnings.call_again.Goals as goal

pub recover-requires-clause-again : goal.recover-requires-clause-again
recover-requires-clause-again g c = c.in_ok-start.ensures.start _ _
