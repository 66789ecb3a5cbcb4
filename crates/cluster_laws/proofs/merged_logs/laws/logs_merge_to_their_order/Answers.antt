use Rattle.cluster_laws.proofs.merged_logs.PartLemmas.{logs_merge, updates_rise}
use Rattle.cluster_laws.proofs.merged_logs.laws.logs_merge_to_their_order.Goals as goal

pub returns-clause-order : goal.returns-clause-order
returns-clause-order c = logs_merge

pub returns-clause-updates : goal.returns-clause-updates
returns-clause-updates c = updates_rise
