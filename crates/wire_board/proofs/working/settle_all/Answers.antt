use Rattle.std.proofs.Common.{inl, inr, true}
use Rattle.wire_board.proofs.Acting.{alone_both, alone_none}
use Rattle.wire_board.proofs.Seating.{on_then}
use Rattle.wire_board.proofs.Turning.{on_nowhere}
use Rattle.wire_board.proofs.working.settle_all.Goals as goal

pub loop-init : goal.loop-init
loop-init g c =
    let represents = g.M.SavingMachine.represents in
    let machine = c.args.machine.now in
    record { comes = on_nowhere represents machine; moved = alone_none represents machine machine (λ st a m setting here. here) }

pub loop-preserved : goal.loop-preserved
loop-preserved g c =
    let represents = g.M.SavingMachine.represents in
    let i = c.loop.invariant in
    record {
      comes = on_then represents c.args.machine.now c.loop.machine c.go_on.new.machine i.comes c.go_on.ensures.comes;
      moved = alone_both represents c.args.machine.now c.loop.machine c.go_on.new.machine c.loop.some _ true i.moved c.in_ok-go_on.ensures.moved (λ e. inr c.if-not-branch.false) (λ e. cc);
    }

pub returns-in_err-go_on-clause-comes : goal.returns-in_err-go_on-clause-comes
returns-in_err-go_on-clause-comes g c = on_then g.M.SavingMachine.represents c.args.machine.now c.loop.machine c.go_on.new.machine c.loop.invariant.comes c.go_on.ensures.comes

pub returns-then-not-branch : goal.returns-then-not-branch
returns-then-not-branch g c =
    let represents = g.M.SavingMachine.represents in
    let i = c.loop.invariant in
    record {
      comes = on_then represents c.args.machine.now c.loop.machine c.go_on.new.machine i.comes c.go_on.ensures.comes;
      moved = alone_both represents c.args.machine.now c.loop.machine c.go_on.new.machine c.loop.some _ c.loop.some i.moved c.in_ok-go_on.ensures.moved (λ e. inl e) (λ e. (e, c.if-not-branch.true));
    }
