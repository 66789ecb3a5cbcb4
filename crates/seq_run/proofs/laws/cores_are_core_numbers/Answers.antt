-- Numbers never fall below a core, and once no task is left enough neighbours reach them.
use Rattle.seq_run.proofs.Cores.{cores_at_rest}
use Rattle.seq_run.proofs.laws.cores_are_core_numbers.Goals as goal

pub returns : goal.returns
returns c = λ g is undirected order valid finished v within. cores_at_rest g is undirected order valid finished v within
