use Rattle.std.proofs.Common.{arith}
use Rattle.gl_base.proofs.scope_lists.FoundLemmas.{none_found}
use Rattle.scope_locks.specs.scope_pipe.Entered.{entered_scope}
use Rattle.scope_locks.proofs.scope_pipe.pipes.find_entered.Goals as goal

pub returns-clause-none : goal.returns-clause-none
returns-clause-none c = λ _. none_found entered_scope c.args.entered.now c.args.scope (λ k d within. c.loop-place.invariant k d (omega arith))
