use Rattle.wire_board.proofs.Acting.{alone_tried, if_ok_both}
use Rattle.wire_board.proofs.Turning.{on_tried}
use Rattle.wire_board.proofs.working.admit_one.Goals as goal

pub returns-clause-comes : goal.returns-clause-comes
returns-clause-comes g c = on_tried g.M.SavingMachine.represents c.args.machine.now c.admit.new.self c.admit.result c.admit.ensures.admitted c.admit.ensures.unchanged

pub returns-clause-moved : goal.returns-clause-moved
returns-clause-moved g c =
    if_ok_both c.was_done.result _ _ _ (λ some yes none. alone_tried g.M.SavingMachine.represents c.args.machine.now c.admit.new.self c.admit.result c.admit.ensures.admitted c.admit.ensures.unchanged some yes none)
    c.was_done.ensures.done c.was_done.ensures.not_now
