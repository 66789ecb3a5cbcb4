-- Where some are counted there is one.
use Rattle.std.proofs.Common.{subst, arith}
use Rattle.std.proofs.lemmas.Bool.{ltb-true}
use Rattle.task_sets.specs.task_sched.Inner.Flags.{HasFlag}
use Rattle.task_sets.proofs.task_sched.Counting.{some_flag}
use Rattle.task_sets.proofs.task_sched.flags.CountedFlags.has_some.Goals as goal

pub returns-clause-some : goal.returns-clause-some
returns-clause-some c = λ is.
    let more = ltb-true 0 c.self.inside.count is in
    subst HasFlag c.self.view_is (some_flag c.self.inside.flags.items (omega (arith, more, c.self.invariant.0)))
