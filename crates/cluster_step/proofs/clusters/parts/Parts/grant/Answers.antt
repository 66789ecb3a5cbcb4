-- The call of the machine is the event of the cluster.
use Rattle.std.proofs.Common.{refl}
use Rattle.coordinator.specs.machine_api.Deeds as deed
use Rattle.cluster_step.specs.declared.clusters.events.Event.TheVariants as event
use Rattle.cluster_step.specs.declared.clusters.events.Local.TheVariants as local
use Rattle.cluster_step.proofs.clusters.Answering.{deed_answers}
use Rattle.cluster_step.proofs.clusters.parts.Parts.grant.Goals as goal

pub returns : goal.returns
returns g c =
    deed_answers g.M.SavingMachine.represents c.args.self.now c.requires.runs c.args.at.0 c.requires.within c.requires.awake c.index_mut.result.now c.index_mut.ensures.value
    (event.Local (local.Grant c.args.at c.args.x)) (deed.Grant c.args.x.0) refl (λ e is. is) tt (λ k. tt) (λ k. (refl, refl))
    c.grant.result c.grant.new.self c.grant.ensures.granted c.grant.ensures.not_now c.grant.ensures.no_memory c.grant.ensures.unchanged
