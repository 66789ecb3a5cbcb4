-- What is so of each cluster is so in each course.
use Rattle.std.proofs.Common.{◌≡◌}
use Rattle.cluster_step.proofs.trace.Calling.{in_trace}
use Rattle.cluster_step.proofs.trace.traces.Trace.next.Goals as goal

pub returns : goal.returns
returns g c = in_trace g.M.SavingMachine.represents _ c.args.self.now c.self.view_is (λ st x. c.next.result ≡ x.next) c.next.ensures
