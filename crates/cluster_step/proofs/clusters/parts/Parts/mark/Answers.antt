-- The call of the machine is the event of the cluster.
use Rattle.std.proofs.Common.{refl}
use Rattle.coordinator.specs.machine_api.Deeds as deed
use Rattle.cluster_step.specs.declared.clusters.events.Event.TheVariants as event
use Rattle.cluster_step.specs.declared.clusters.events.Local.TheVariants as local
use Rattle.cluster_step.proofs.clusters.Answering.{deed_answers}
use Rattle.cluster_step.proofs.clusters.parts.Parts.mark.Goals as goal

pub returns : goal.returns
returns g c =
    deed_answers g.M.SavingMachine.represents c.args.self.now c.requires.runs c.args.scope.home.0 c.requires.within c.requires.awake c.index_mut.result.now c.index_mut.ensures.value
    (event.Local (local.Mark c.args.scope)) (deed.Mark c.args.scope) refl (λ e is. is) refl (λ k. tt) (λ k. (refl, refl))
    c.mark.result c.mark.new.self c.mark.ensures.marked c.mark.ensures.not_now c.mark.ensures.no_memory c.mark.ensures.unchanged
