-- What the machine makes at once is a run of events of the cluster, and draws the next ticket.
use Rattle.std.proofs.Common.{◌≢◌, ◌<◌, ℕ, arith, ap, subst, sym}
use Rattle.std.specs.Prelude.{Err, Ok}
use Rattle.cluster_step.specs.clusters.AtOnce.{AnswersAtOnce}
use Rattle.cluster_step.proofs.clusters.AtOnceRuns.{at_once_answers, at_once_refused, at_once_spent, at_once_still}
use Rattle.cluster_step.proofs.clusters.parts.Parts.update_at_once.Goals as goal
use Rattle.cluster_step.proofs.clusters.parts.Parts.update_at_once.Goals.{then-is_still-via-then-is_still, then-is_still-via-else-is_still+then-self-eq0}

some : {n : ℕ} → n ≢ 0 → 0 < n
some {n} none = omega arith

pub returns-then-is_still-clause-answers : goal.returns-then-is_still-clause-answers
returns-then-is_still-clause-answers g c = elim c.then-is_still.branch [
  | then-is_still-via-then-is_still w ↦ at_once_still g.M.SavingMachine.represents c.args.self.now c.args.at c.requires.within (c.is_still.ensures.yes w.if-is_still.true)
  | then-is_still-via-else-is_still+then-self-eq0 w ↦ at_once_spent g.M.SavingMachine.represents c.args.self.now c.args.at c.requires.within w.if-self-eq0.true
]

pub returns-in-Ok-clause-answers : goal.returns-in-Ok-clause-answers
returns-in-Ok-clause-answers g c =
    let still = c.is_still.ensures.no c.if-is_still.false in
    subst (λ p. AnswersAtOnce g.M.SavingMachine.represents c.args.self.now c.args.at (Ok c.in-Ok.vertex) p) (sym c.draw.ensures)
    (at_once_answers g.M.SavingMachine.represents c.args.self.now c.args.at c.requires.within still.0 still.1 c.index_mut.result.now c.index_mut.ensures.value (some c.if-self-eq0.false)
    c.in-Ok.vertex c.update_at_once.new.self c.in-Ok.ensures.updated)

pub returns-in-Err-clause-answers : goal.returns-in-Err-clause-answers
returns-in-Err-clause-answers g c =
    let still = c.is_still.ensures.no c.if-is_still.false in
    at_once_refused g.M.SavingMachine.represents c.args.self.now c.args.at c.requires.within still.0 still.1 c.index_mut.result.now c.index_mut.ensures.value (some c.if-self-eq0.false)
    c.in-Err.refused c.update_at_once.new.self (λ is. c.in-Err.ensures.not_now (ap Err is)) (λ is. c.in-Err.ensures.no_memory (ap Err is)) c.in-Err.ensures.unchanged
