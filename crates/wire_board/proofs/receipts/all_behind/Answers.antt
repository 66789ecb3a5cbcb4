-- Machine by machine.
use Rattle.std.proofs.Common.{◌≡◌, ℕ, ◌∙◌, ap, arith, length, refl}
use Rattle.wire_board.proofs.Receiving.{behind_more, machines_are}
use Rattle.wire_board.specs.Receipts.{logged_behind}
use Rattle.wire_board.proofs.receipts.all_behind.Goals as goal

pub loop-m-init : goal.loop-m-init
loop-m-init g c = λ st o events x is. c.new-all.ensures.items

pub loop-m-preserved : goal.loop-m-preserved
loop-m-preserved g c = λ st o events x is.
    c.in_ok-extend_from_slice.ensures.items
    ∙ behind_more c.args.lengths.now x c.loop-m.m c.loop-m.all.items c.log-log.result.now c.rest_from.result.now _ (c.loop-m.invariant st o events x is) (c.log-log.ensures.log st o events x is) refl c.rest_from.ensures

pub returns : goal.returns
returns g c = λ st o events x is.
    let end : c.loop-m.m ≡ length c.args.trace.now.now.machines.items = omega (arith, c.machines-m-end.ensures.count, c.loop-m-test.false) in
    c.loop-m.invariant st o events x is ∙ ap (λ (n : ℕ). logged_behind c.args.lengths.now n x) (end ∙ machines_are g.M.SavingMachine.represents c.args.trace.now st o events x is)
