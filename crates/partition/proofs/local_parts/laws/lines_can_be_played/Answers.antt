use Rattle.partition.proofs.local_parts.MineLemmas.{can_be_played}
use Rattle.partition.proofs.local_parts.laws.lines_can_be_played.Goals as goal

pub returns : goal.returns
returns c = can_be_played
