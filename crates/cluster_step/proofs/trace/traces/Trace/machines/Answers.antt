-- Each course makes a call.
use Rattle.cluster_step.proofs.trace.Calling.{makes_call}
use Rattle.cluster_step.proofs.trace.traces.Trace.machines.Goals as goal

pub returns-clause-call : goal.returns-clause-call
returns-clause-call g c = λ st o events cluster is. makes_call g.M.SavingMachine.represents c.args.self.now st o events cluster is
