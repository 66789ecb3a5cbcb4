-- Nothing is marked, and nothing under way.
use Rattle.std.proofs.Common.{refl}
use Rattle.cluster_laws.proofs.cluster_cuts.Beginning.{first_kept}
use Rattle.cluster_laws.proofs.cluster_cuts.laws.starts_are_consistent.Goals as goal

pub returns : goal.returns
returns c = λ st w is start unmarked. (first_kept st is w start unmarked, refl)
