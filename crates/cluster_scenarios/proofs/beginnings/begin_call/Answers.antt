-- The machines begin an attempt of the law with any tickets.
use Rattle.cluster_scenarios.proofs.beginnings.begin_call.Goals as goal

pub new-requires-clause-start : goal.new-requires-clause-start
new-requires-clause-start g c = c.in_ok-start.ensures.start _ _
