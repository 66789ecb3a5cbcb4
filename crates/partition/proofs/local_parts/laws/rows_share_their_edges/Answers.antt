use Rattle.partition.proofs.local_parts.SharedLemmas.{edges_shared}
use Rattle.partition.proofs.local_parts.laws.rows_share_their_edges.Goals as goal

pub returns : goal.returns
returns c = edges_shared
