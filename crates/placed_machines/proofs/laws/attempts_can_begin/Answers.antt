use Rattle.placed_machines.proofs.LawLemmas.{attempt_begins}
use Rattle.placed_machines.proofs.laws.attempts_can_begin.Goals as goal

pub returns : goal.returns
returns t = attempt_begins
