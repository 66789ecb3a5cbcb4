-- The failures so far go with those that the rest of the values are.
use Rattle.std.proofs.Common.{◌∙◌, ◌+◌, ap, drop, map, sym}
use Rattle.serde_json.specs.View.{view}
use Rattle.job_io.proofs.job_config.Lists.{each_end, each_more, each_none, gathered}
use Rattle.job_io.proofs.job_config.failures.read_each.Goals as goal

pub loop-value-preserved : goal.loop-value-preserved
loop-value-preserved c =
    let vs = c.args.values.now in
    let i = c.loop-value.value-index in
    ap (λ fs. gathered fs (map view (drop (i + 1) vs))) c.in_ok-push-in-Some.ensures.items
    ∙ each_more vs i c.value-item.result c.in-Some.failure c.loop-value.failures.items c.loop-value-test.true c.value-item.is
    (sym c.read_failure.ensures ∙ c.in-Some.is)
    ∙ c.loop-value.invariant

pub returns-in-None : goal.returns-in-None
returns-in-None c =
    sym (each_none c.args.values.now c.loop-value.value-index c.value-item.result c.loop-value.failures.items c.loop-value-test.true
    c.value-item.is (sym c.read_failure.ensures ∙ c.in-None.is))
    ∙ c.loop-value.invariant

pub returns : goal.returns
returns c =
    sym (each_end c.args.values.now c.loop-value.value-index c.loop-value.failures.items c.loop-value-test.false) ∙ c.loop-value.invariant
