-- Log by log.
use Rattle.std.proofs.Common.{◌≡◌, ◌<◌, ◌∙◌, ℕ, ap, arith, map}
use Rattle.std.specs.List.{range_with_len}
use Rattle.cluster_laws.specs.merged_logs.Merges.{all_logged}
use Rattle.full_runs.proofs.ReadLemmas.{logs_more}
use Rattle.full_runs.proofs.gathering.all_logs.Goals as goal

pub loop-a-init : goal.loop-a-init
loop-a-init c = λ st p w are many. c.new-all.ensures.items

pub loop-a-preserved : goal.loop-a-preserved
loop-a-preserved c = λ st p w are many.
    let low : c.loop-a.a < st.machines = omega (arith, many, c.loop-a-test.true) in
    c.in_ok-extend_from_slice.ensures.items ∙ logs_more w c.loop-a.a c.loop-a.all.items c.log_of.result.now (c.loop-a.invariant st p w are many) (c.log_of.ensures st p w are low)

pub returns : goal.returns
returns c = λ st p w are many.
    let end : c.loop-a.a ≡ st.machines = omega (arith, many, c.loop-a-test.false, c.loop-a.auto.a-end) in
    c.loop-a.invariant st p w are many ∙ ap (λ (n : ℕ). all_logged (map (λ a. (w.part a).log) (range_with_len 0 n))) end
