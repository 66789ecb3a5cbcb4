-- The call of the machine is the event of the cluster, and draws the next ticket.
use Rattle.std.proofs.Common.{◌≢◌, ◌<◌, ℕ, arith, ap, refl, subst, sym}
use Rattle.std.specs.Prelude.{Err, Ok}
use Rattle.cluster_step.specs.clusters.Events.{AnswersEvent}
use Rattle.cluster_step.specs.declared.clusters.events.Event.TheVariants as event
use Rattle.cluster_step.specs.declared.clusters.events.Local.TheVariants as local
use Rattle.cluster_step.proofs.clusters.Answering.{update_answers, update_refused, update_spent}
use Rattle.cluster_step.proofs.clusters.parts.Parts.update.Goals as goal

some : {n : ℕ} → n ≢ 0 → 0 < n
some {n} none = omega arith

pub returns-then-self-eq0 : goal.returns-then-self-eq0
returns-then-self-eq0 g c = update_spent g.M.SavingMachine.represents c.args.self.now c.requires.runs c.args.scope c.if-self-eq0.true

pub returns-in-Ok : goal.returns-in-Ok
returns-in-Ok g c =
    subst (λ p. AnswersEvent g.M.SavingMachine.represents c.args.self.now (event.Local (local.Update c.args.scope)) (Ok tt) p) (sym c.draw.ensures)
    (update_answers g.M.SavingMachine.represents c.args.self.now c.requires.runs c.args.scope.home.0 c.requires.within c.requires.awake c.index_mut.result.now c.index_mut.ensures.value
    c.args.scope refl c.update.new.self (some c.if-self-eq0.false) c.in-Ok.ensures.updated)

pub returns-in-Err : goal.returns-in-Err
returns-in-Err g c =
    update_refused g.M.SavingMachine.represents c.args.self.now c.requires.runs c.args.scope.home.0 c.requires.within c.requires.awake c.index_mut.result.now c.index_mut.ensures.value
    c.args.scope refl c.in-Err.refused c.update.new.self (some c.if-self-eq0.false) (λ is. c.in-Err.ensures.not_now (ap Err is)) (λ is. c.in-Err.ensures.no_memory (ap Err is)) c.in-Err.ensures.unchanged
