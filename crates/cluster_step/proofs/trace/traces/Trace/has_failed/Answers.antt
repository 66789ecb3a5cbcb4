-- What is so of each cluster is so in each course.
use Rattle.std.proofs.Common.{◌≡◌}
use Rattle.cluster_step.proofs.trace.Calling.{in_trace}
use Rattle.cluster_step.proofs.trace.traces.Trace.has_failed.Goals as goal

pub returns : goal.returns
returns g c = in_trace g.M.SavingMachine.represents _ c.args.self.now c.self.view_is (λ st x. c.has_failed.result ≡ (x.machine c.args.m.0).failed) c.has_failed.ensures
