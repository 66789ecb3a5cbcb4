-- The snapshot is acknowledged as in the law.
use Rattle.std.proofs.Common.{ap, refl}
use Rattle.std.specs.Prelude.{Err, Ok}
use Rattle.cluster_laws.specs.cluster_model.Events as law
use Rattle.cluster_laws.specs.cluster_model.Leading.{acknowledges}
use Rattle.cluster_step.specs.declared.clusters.events.Event.TheVariants as event
use Rattle.cluster_step.specs.declared.clusters.events.Lead.TheVariants as lead
use Rattle.cluster_step.proofs.clusters.Leading.{led_answers, led_refused}
use Rattle.cluster_step.proofs.clusters.parts.Parts.acknowledge.Goals as goal

pub returns-in-Err : goal.returns-in-Err
returns-in-Err g c =
    led_refused g.M.SavingMachine.represents c.args.self.now c.requires.runs (event.Lead lead.Record) law.Record refl (λ e is. is) (λ base is. cc) acknowledges (λ st k. refl)
    c.in-Err.refused c.make_ready.new.self (λ is. c.in-Err.ensures.not_now (ap Err is)) (λ is. c.in-Err.ensures.no_memory (ap Err is)) c.in-Err.ensures.same

pub returns : goal.returns
returns g c =
    led_answers g.M.SavingMachine.represents c.args.self.now c.requires.runs (event.Lead lead.Record) law.Record refl (λ e is. is) (λ base is. cc) acknowledges (λ st k. refl)
    (Ok tt) c.recorded.new.self (c.in-Ok.ensures.due, λ st k of. c.recorded.ensures st k (c.in-Ok.ensures.same st k of)) (λ is. absurd (cc)) (λ is. absurd (cc)) tt
