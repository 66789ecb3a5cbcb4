-- Log by log.
use Rattle.std.proofs.Common.{◌≡◌, ℕ, ◌∙◌, ap, arith, length}
use Rattle.engine_runs.specs.finish.Gathered.{all_logged, machine_logs}
use Rattle.engine_runs.proofs.finish.GatherLemmas.{logs_more, machines_are}
use Rattle.engine_runs.proofs.finish.logs.all_logs.Goals as goal

pub loop-m-init : goal.loop-m-init
loop-m-init g c = λ st o events x is. c.new-all.ensures.items

pub loop-m-preserved : goal.loop-m-preserved
loop-m-preserved g c = λ st o events x is.
    c.in_ok-extend_from_slice.ensures.items ∙ logs_more x c.loop-m.m c.loop-m.all.items c.log.result.now (c.loop-m.invariant st o events x is) (c.log.ensures.log st o events x is)

pub returns : goal.returns
returns g c = λ st o events x is.
    let end : c.loop-m.m ≡ length c.args.trace.now.now.machines.items = omega (arith, c.machines-m-end.ensures.count, c.loop-m-test.false) in
    c.loop-m.invariant st o events x is ∙ ap (λ (n : ℕ). all_logged (machine_logs n x)) (end ∙ machines_are g.M.SavingMachine.represents c.args.trace.now st o events x is)
