-- What the coordinator does is the event of the cluster.
use Rattle.std.proofs.Common.{refl}
use Rattle.cluster_laws.specs.cluster_model.Events as law
use Rattle.cluster_laws.specs.cluster_model.Leading.{puts_step}
use Rattle.cluster_step.specs.declared.clusters.events.Event.TheVariants as event
use Rattle.cluster_step.specs.declared.clusters.events.Lead.TheVariants as lead
use Rattle.cluster_step.proofs.clusters.Leading.{led_answers}
use Rattle.cluster_step.proofs.clusters.parts.Parts.step.Goals as goal

pub returns : goal.returns
returns g c =
    led_answers g.M.SavingMachine.represents c.args.self.now c.requires.runs (event.Lead lead.Step) law.PutStep refl (λ e is. is) (λ base is. cc) puts_step (λ st k. refl)
    c.step.result c.step.new.self c.step.ensures.put_out c.step.ensures.not_now c.step.ensures.no_memory c.step.ensures.unchanged
