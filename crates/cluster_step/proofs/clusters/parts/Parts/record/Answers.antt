-- What is recorded is a cut.
use Rattle.std.proofs.Common.{◌≡◌, false, rules}
use Rattle.cluster_step.proofs.clusters.Acknowledging.{may_be_recorded, ready_so, recorded_can}
use Rattle.cluster_step.proofs.clusters.Cutting.{record_cuts}
use Rattle.cluster_step.proofs.clusters.Leading.{stays_led}
use Rattle.cluster_step.proofs.clusters.parts.Parts.record.Given as given
use Rattle.cluster_step.proofs.clusters.parts.Parts.record.Goals as goal

pub returns-clause-cut : goal.returns-clause-cut
returns-clause-cut g c = record_cuts g.M.SavingMachine.represents c.args.self.now c.record.result c.record.ensures.due c.record.ensures.made

pub returns-clause-ready : goal.returns-clause-ready
returns-clause-ready g c = ready_so _ c.record.result (search rules) c.record.ensures.ready

going_on : (g : given.Over) (c : goal.After-record g) → c.args.self.now.stopped ≡ false
going_on g c = search rules

pub returns-clause-due : goal.returns-clause-due
returns-clause-due g c = recorded_can g.M.SavingMachine.represents c.args.self.now (going_on g c) c.record.result c.record.ensures.due

pub returns-clause-no_memory : goal.returns-clause-no_memory
returns-clause-no_memory g c = λ is. may_be_recorded g.M.SavingMachine.represents c.args.self.now (going_on g c) (c.record.ensures.no_memory is)

pub returns-clause-same : goal.returns-clause-same
returns-clause-same g c = stays_led g.M.SavingMachine.represents c.args.self.now (going_on g c) c.record.new.self c.record.ensures.same
