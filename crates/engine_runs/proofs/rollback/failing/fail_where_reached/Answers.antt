-- It has failed, or nothing has happened.
use Rattle.std.proofs.Common.{◌≡◌, ◌∙◌, List, ap, subst, sym, true}
use Rattle.std.specs.Prelude.{Err}
use Rattle.gl_base.specs.declared.jobs.FailureAt.{FailureAt}
use Rattle.engine_runs.specs.rollback.Failing.{has_reached}
use Rattle.engine_runs.proofs.rollback.Failings.{failed_already, failed_one, not_reached, refused_so, stayed, untouched}
use Rattle.engine_runs.proofs.rollback.failing.fail_where_reached.Goals as goal
use Rattle.engine_runs.proofs.rollback.failing.fail_where_reached.Goals.{then-not-has_reached-via-then-not-has_reached, then-not-has_reached-via-else-not-has_reached+then-has_failed}

pub returns-then-not-has_reached-clause-failed : goal.returns-then-not-has_reached-clause-failed
returns-then-not-has_reached-clause-failed g c =
    elim c.then-not-has_reached.branch [
      | then-not-has_reached-via-then-not-has_reached w ↦ untouched g.M.SavingMachine.represents c.args.trace.now (λ a. a ≡ c.args.m.0)
          (not_reached g.M.SavingMachine.represents c.args.trace.now c.args.m.0 c.has_reached.result c.has_reached.ensures w.if-not-has_reached.true)
      | then-not-has_reached-via-else-not-has_reached+then-has_failed w ↦ untouched g.M.SavingMachine.represents c.args.trace.now (λ a. a ≡ c.args.m.0)
          (failed_already g.M.SavingMachine.represents c.args.trace.now c.args.m.0 w.has_failed.result w.has_failed.ensures w.if-has_failed.true)
    ]

pub returns-in-Ok-clause-failed : goal.returns-in-Ok-clause-failed
returns-in-Ok-clause-failed g c = failed_one g.M.SavingMachine.represents c.args.trace.now c.apply.new.self c.args.m c.in-Ok.ensures.made

pub returns-in-Err-NotNow-clause-failed : goal.returns-in-Err-NotNow-clause-failed
returns-in-Err-NotNow-clause-failed g c =
    stayed g.M.SavingMachine.represents c.args.trace.now c.apply.new.self (λ a. a ≡ c.args.m.0) c.in-Err-NotNow.ensures.unchanged (λ st o events x is running a at reached.
    refused_so g.M.SavingMachine.represents c.args.trace.now c.args.m c.requires (c.apply.ensures.not_now (c.in-Err-NotNow.is ∙ ap Err c.in-Err-NotNow.field-0-is))
    (λ st o events x is. sym (c.has_failed.ensures st o events x is) ∙ c.if-has_failed.false) st o events x is running a at
    (subst (λ (fs : List FailureAt). has_reached fs x a ≡ true) c.apply.ensures.same.failures reached))

pub returns-in-Err-NoMemory-clause-wanting : goal.returns-in-Err-NoMemory-clause-wanting
returns-in-Err-NoMemory-clause-wanting g c = stayed g.M.SavingMachine.represents c.args.trace.now c.apply.new.self (λ a. ⊥) c.in-Err-NoMemory.ensures.unchanged (λ st o events x is running a none reached. absurd none)
