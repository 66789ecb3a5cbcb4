-- Numbers are identifiers of joined vertices, and once each vertex is relaxed they are the least.
use Rattle.seq_run.proofs.Labels.{components_at_rest}
use Rattle.seq_run.proofs.laws.components_are_labels.Goals as goal

pub returns : goal.returns
returns c = λ g is order valid finished v within. components_at_rest g is order valid finished v within
