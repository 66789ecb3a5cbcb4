-- What the coordinator does is the event of the cluster.
use Rattle.std.proofs.Common.{refl}
use Rattle.cluster_laws.specs.cluster_model.Events as law
use Rattle.cluster_laws.specs.cluster_model.Leading.{puts_wave}
use Rattle.cluster_step.specs.declared.clusters.events.Event.TheVariants as event
use Rattle.cluster_step.specs.declared.clusters.events.Lead.TheVariants as lead
use Rattle.cluster_step.proofs.clusters.Leading.{led_answers}
use Rattle.cluster_step.proofs.clusters.parts.Parts.wave.Goals as goal

pub returns : goal.returns
returns g c =
    led_answers g.M.SavingMachine.represents c.args.self.now c.requires.runs (event.Lead lead.Wave) law.PutWave refl (λ e is. is) (λ base is. cc) (λ st. puts_wave) (λ st k. refl)
    c.wave.result c.wave.new.self c.wave.ensures.put_out c.wave.ensures.not_now c.wave.ensures.no_memory c.wave.ensures.unchanged
