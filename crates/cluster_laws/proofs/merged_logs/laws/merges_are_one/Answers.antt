use Rattle.cluster_laws.proofs.merged_logs.SameLemmas.{one_merge}
use Rattle.cluster_laws.proofs.merged_logs.laws.merges_are_one.Goals as goal

pub returns : goal.returns
returns c = one_merge
