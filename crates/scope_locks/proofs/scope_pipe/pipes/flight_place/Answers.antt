use Rattle.gl_base.proofs.scope_lists.FoundLemmas.{none_found}
use Rattle.std.proofs.Common.{arith}
use Rattle.scope_locks.specs.scope_pipe.Pipes.{flight_scope}
use Rattle.scope_locks.proofs.scope_pipe.pipes.flight_place.Goals as goal

pub returns-clause-none : goal.returns-clause-none
returns-clause-none c = λ _. none_found flight_scope c.args.flights.now c.args.scope (λ k d within. c.loop-place.invariant k d (omega arith))
