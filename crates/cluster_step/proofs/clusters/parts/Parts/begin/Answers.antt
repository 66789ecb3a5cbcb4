-- What the coordinator does is the event of the cluster.
use Rattle.std.proofs.Common.{refl}
use Rattle.cluster_laws.specs.cluster_model.Events as law
use Rattle.cluster_laws.specs.cluster_model.Leading.{begins_snapshot}
use Rattle.cluster_step.specs.declared.clusters.events.Event.TheVariants as event
use Rattle.cluster_step.specs.declared.clusters.events.Lead.TheVariants as lead
use Rattle.cluster_step.proofs.clusters.Leading.{led_answers}
use Rattle.cluster_step.proofs.clusters.parts.Parts.begin.Goals as goal

pub returns : goal.returns
returns g c =
    led_answers g.M.SavingMachine.represents c.args.self.now c.requires.runs (event.Lead lead.Begin) law.PutBegin refl (λ e is. is) (λ base is. cc) (λ st. begins_snapshot) (λ st k. refl)
    c.begin.result c.begin.new.self c.begin.ensures.begun c.begin.ensures.not_now c.begin.ensures.no_memory c.begin.ensures.unchanged
