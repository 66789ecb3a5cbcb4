-- The call of the machine is the event of the cluster.
use Rattle.std.proofs.Common.{refl}
use Rattle.coordinator.specs.machine_api.Deeds as deed
use Rattle.cluster_step.specs.declared.clusters.events.Event.TheVariants as event
use Rattle.cluster_step.specs.declared.clusters.events.Local.TheVariants as local
use Rattle.cluster_step.proofs.clusters.Answering.{deed_answers}
use Rattle.cluster_step.proofs.clusters.parts.Parts.section.Goals as goal

pub returns : goal.returns
returns g c =
    deed_answers g.M.SavingMachine.represents c.args.self.now c.requires.runs c.args.at.0 c.requires.within c.requires.awake c.index_mut.result.now c.index_mut.ensures.value
    (event.Local (local.Section c.args.at)) deed.Section refl (λ e is. is) tt (λ k. tt) (λ k. (refl, refl))
    c.section.result c.section.new.self c.section.ensures.sent c.section.ensures.not_now c.section.ensures.no_memory c.section.ensures.unchanged
