-- No flag is left to be counted.
use Rattle.std.proofs.Common.{sym, arith}
use Rattle.task_sets.proofs.task_sched.Counting.{none_counted}
use Rattle.task_sets.proofs.task_sched.flags.CountedFlags.clear.Goals as goal

pub invariant_of-self : goal.invariant_of-self
invariant_of-self c = (sym (none_counted c.clear_all.new.flags.items c.clear_all.ensures.none), omega (arith, c.clear_all.ensures.count, c.self.invariant.1))
