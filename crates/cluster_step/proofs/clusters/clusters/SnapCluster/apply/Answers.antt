-- What the parts answer, the cluster does.
use Rattle.std.proofs.Common.{◌∙◌, ap, length, subst}
use Rattle.std.specs.Prelude.{OnErr}
use Rattle.cluster_step.proofs.clusters.Cutting.{many_after, some_after}
use Rattle.cluster_step.proofs.clusters.Stopping.{answer_runs}
use Rattle.cluster_step.specs.clusters.Clusters.{StandsForSameSaving}
use Rattle.cluster_step.proofs.clusters.clusters.SnapCluster.apply.Goals as goal

pub invariant_of-self : goal.invariant_of-self
invariant_of-self g c = some_after g.M.SavingMachine.represents c.self.inside.parts c.self.invariant c.args.event c.make.result c.make.new.self c.make.ensures

pub returns-clause-machines : goal.returns-clause-machines
returns-clause-machines g c =
    many_after g.M.SavingMachine.represents c.self.inside.parts c.self.invariant c.args.event c.make.result c.make.new.self c.make.ensures
    ∙ ap (λ p. length p.machines.items) c.self.view_is

pub returns-clause-stopped : goal.returns-clause-stopped
returns-clause-stopped g c = λ none. answer_runs g.M.SavingMachine.represents c.self.inside.parts c.make.new.self c.self.invariant c.args.event none c.make.result c.make.ensures ∙ ap (λ p. p.stopped) c.self.view_is

pub returns-clause-unchanged : goal.returns-clause-unchanged
returns-clause-unchanged g c = subst (λ p. OnErr c.make.result (StandsForSameSaving g.M.SavingMachine.represents p c.make.new.self)) c.self.view_is c.make.ensures.unchanged
