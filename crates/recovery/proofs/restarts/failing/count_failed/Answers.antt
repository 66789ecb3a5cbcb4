-- One flag more is counted.
use Rattle.std.proofs.Common.{◌≡◌, ◌+◌, ◌≤◌, ◌<◌, ℕ, arith, length, ap, ◌∙◌}
use Rattle.cluster_laws.specs.cluster_model.Totals.{total}
use Rattle.recovery.proofs.restarts.Counting.{failures_counted, low_one, none_counted, one_at, one_counted}
use Rattle.recovery.proofs.restarts.failing.count_failed.Goals as goal

both_low : (failed one at : ℕ) → failed ≤ at → one ≤ 1 → failed + one ≤ at + 1
both_low failed one at low small = omega arith

ended : (at n : ℕ) → at ≤ n → (at < n → ⊥) → at ≡ n
ended at n low over = omega arith

pub loop-at-init : goal.loop-at-init
loop-at-init c = record { sum = none_counted c.args.flags.now; bound = omega arith }

pub loop-at-preserved : goal.loop-at-preserved
loop-at-preserved c =
    record {
      sum = one_counted c.args.flags.now c.loop-at.at c.loop-at.failed c.one_where-failed.result c.loop-at.invariant.sum c.one_where-failed.ensures;
      bound = both_low c.loop-at.failed c.one_where-failed.result c.loop-at.at c.loop-at.invariant.bound (low_one _ c.one_where-failed.result c.one_where-failed.ensures);
    }

pub returns : goal.returns
returns c = λ st own many each.
    let end : c.loop-at.at ≡ length c.args.flags.now = omega arith in
    failures_counted st own c.args.flags.now c.loop-at.failed (c.loop-at.invariant.sum ∙ ap (λ (n : ℕ). total n (one_at c.args.flags.now)) end) many each
