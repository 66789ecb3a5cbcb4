-- The trace has gone on, and all else is the call's.
use Rattle.std.proofs.Common.{refl}
use Rattle.engine_runs.specs.Calls.{IsAnyMachineOf}
use Rattle.engine_runs.proofs.Playing.{same_first}
use Rattle.engine_runs.proofs.OnThreads.{goes_known, same_threads}
use Rattle.engine_runs.proofs.threads.go_on_threads.Goals as goal

pub returns-clause-known : goal.returns-clause-known
returns-clause-known g c = λ header start bodies st o known.
    goes_known (IsAnyMachineOf g.P.Program.meaning) c.args.call.trace c.in_ok-trace.trace c.in_ok-trace.ensures.same c.in_ok-trace.ensures.goes_on header start bodies _ _ _ _ st o known

pub returns-clause-attempt : goal.returns-clause-attempt
returns-clause-attempt g c = same_threads c.args.call c.in_ok-trace.trace c.in_ok-trace.ensures.same
