-- Machine by machine.
use Rattle.std.proofs.Common.{◌≡◌, ◌⊎◌, ◌+◌, ◌<◌, ◌≤◌, ℕ, arith, inl, inr}
use Rattle.std.proofs.lemmas.Bool.{cases_lt}
use Rattle.engine_runs.proofs.rollback.Failings.{both_failed, on_err, same_itself, same_then, untouched}
use Rattle.engine_runs.proofs.rollback.failing.fail_reached.Goals as goal

none : (a : ℕ) → a < 0 → ⊥
none a low = omega arith

split : (m a : ℕ) → a < m + 1 → (a < m) ⊎ (a ≡ m)
split m a low = elim (cases_lt a m) [ inl less ↦ inl less | inr more ↦ inr (same m a low more) ]
  where
    same : (m a : ℕ) → a < m + 1 → m ≤ a → a ≡ m
    same m a low more = omega arith

pub loop-m-init : goal.loop-m-init
loop-m-init g c = record { same = same_itself _; failed = untouched g.M.SavingMachine.represents _ (λ a. a < 0) (λ st o events x is running a low reached. absurd (none a low)) }

pub loop-m-preserved : goal.loop-m-preserved
loop-m-preserved g c =
    record {
      same = same_then _ _ _ c.loop-m.invariant.same c.in_ok-fail_where_reached.ensures.same;
      failed = λ st o events x is.
          both_failed g.M.SavingMachine.represents c.loop-m.trace c.fail_where_reached.new.trace (λ a. a < c.loop-m.m) (λ a. a ≡ c.loop-m.m) (λ a. a < c.loop-m.m + 1) c.in_ok-fail_where_reached.ensures.same.failures (split c.loop-m.m) st o events x
          (c.loop-m.invariant.failed st o events x is) c.in_ok-fail_where_reached.ensures.failed;
    }

pub returns-in_err-fail_where_reached-clause-wanting : goal.returns-in_err-fail_where_reached-clause-wanting
returns-in_err-fail_where_reached-clause-wanting g c =
    on_err c.from_residual.result (λ st o events x is.
    both_failed g.M.SavingMachine.represents c.loop-m.trace c.fail_where_reached.new.trace (λ a. a < c.loop-m.m) (λ a. ⊥) (λ a. ⊥) c.fail_where_reached.ensures.same.failures (λ a none. inr none) st o events x
    (c.loop-m.invariant.failed st o events x is) c.in_err-fail_where_reached.ensures.wanting)
