use Rattle.std.proofs.Common.{sym, subst, arith}
use Rattle.std.proofs.lemmas.Result.{err_from_is_err_and}
use Rattle.seq_run.specs.Runs.{WentOn}
use Rattle.seq_run.proofs.Playing.{went_on_more, steps_are_one}
use Rattle.seq_run.proofs.runs.SeqRun.run.Goals as goal

pub loop-made-preserved : goal.loop-made-preserved
loop-made-preserved g c =
    went_on_more c.args.self.now c.loop-made.self c.update.new.self c.loop-made._made c.in-Some.vertex.0 c.loop-made.invariant c.in_ok-update.ensures.updated

-- want of memory comes before the budget is used up
pub returns-in_err-update-clause-spent : goal.returns-in_err-update-clause-spent
returns-in_err-update-clause-spent g c =
    let made = subst (λ run. WentOn c.args.self.now run c.loop-made._made) (sym c.in_err-update.ensures.unchanged) c.loop-made.invariant in
    let fault = err_from_is_err_and c.from_residual.result c.from_residual.ensures.1 in
    rw (fault.1, fault.2)
    (λ spent. absurd cc, λ both. absurd (omega (arith, steps_are_one c.args.self.now c.update.new.self c.loop-made._made c.args.budget made both.0, c.loop-made-test.true)))
