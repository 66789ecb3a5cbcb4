-- What is so of each cluster is so in each course.
use Rattle.std.proofs.Common.{◌≡◌, false}
use Rattle.std.specs.Prelude.{◌↔◌}
use Rattle.call_laws.specs.whole_calls.Telling.{HasNoWordAt}
use Rattle.cluster_step.proofs.trace.Calling.{in_trace}
use Rattle.cluster_step.proofs.trace.traces.Trace.has_word.Goals as goal

pub returns : goal.returns
returns g c = in_trace g.M.SavingMachine.represents _ c.args.self.now c.self.view_is (λ st x. (c.has_word.result ≡ false) ↔ HasNoWordAt x c.args.at.0) c.has_word.ensures
