-- What the parts make at once, the cluster does.
use Rattle.std.proofs.Common.{subst}
use Rattle.std.specs.Prelude.{IfOk, IsErrOf, OnErr}
use Rattle.gl_base.specs.declared.refusals.Refused.TheVariants.{NoMemory, NotNow}
use Rattle.cluster_step.specs.clusters.AtOnce.{CanNotTakePlaceAtOnce, CanTakePlaceAtOnce, TakesPlaceAtOnce}
use Rattle.cluster_step.proofs.clusters.AtOnceRuns.{some_at_once}
use Rattle.cluster_step.specs.clusters.Clusters.{StandsForSameSaving}
use Rattle.cluster_step.proofs.clusters.clusters.SnapCluster.update_at_once.Goals as goal

pub invariant_of-self : goal.invariant_of-self
invariant_of-self g c = some_at_once g.M.SavingMachine.represents c.self.inside.parts c.update_at_once.new.self c.self.invariant c.args.at c.update_at_once.result c.update_at_once.ensures.answers

pub returns-clause-made : goal.returns-clause-made
returns-clause-made g c = subst (λ p. IfOk c.update_at_once.result (λ v. TakesPlaceAtOnce g.M.SavingMachine.represents p c.args.at.0 v.0 c.update_at_once.new.self)) c.self.view_is c.update_at_once.ensures.answers.made

pub returns-clause-not_now : goal.returns-clause-not_now
returns-clause-not_now g c = subst (λ p. IsErrOf c.update_at_once.result NotNow → CanNotTakePlaceAtOnce g.M.SavingMachine.represents p c.args.at) c.self.view_is c.update_at_once.ensures.answers.not_now

pub returns-clause-no_memory : goal.returns-clause-no_memory
returns-clause-no_memory g c = subst (λ p. IsErrOf c.update_at_once.result NoMemory → CanTakePlaceAtOnce g.M.SavingMachine.represents p c.args.at.0) c.self.view_is c.update_at_once.ensures.answers.no_memory

pub returns-clause-unchanged : goal.returns-clause-unchanged
returns-clause-unchanged g c = subst (λ p. OnErr c.update_at_once.result (StandsForSameSaving g.M.SavingMachine.represents p c.update_at_once.new.self)) c.self.view_is c.update_at_once.ensures.answers.unchanged
