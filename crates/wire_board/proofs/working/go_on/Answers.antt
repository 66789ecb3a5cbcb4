use Rattle.wire_board.proofs.Acting.{alone_did, alone_granted, if_ok_both}
use Rattle.coordinator.specs.machine_api.Promises.{Mark, Section}
use Rattle.wire_board.proofs.Turning.{on_came, on_locked}
use Rattle.wire_board.proofs.working.go_on.Goals as goal

pub returns-in-Some-clause-comes : goal.returns-in-Some-clause-comes
returns-in-Some-clause-comes g c = on_locked g.M.SavingMachine.represents c.args.machine.now c.next_grant.new.self c.grant_in_turn.new.self c.in-Some.x.0 c.next_grant.ensures.unchanged c.grant_in_turn.result c.grant_in_turn.ensures.granted c.grant_in_turn.ensures.unchanged

pub returns-in-Some-next_mark-clause-comes : goal.returns-in-Some-next_mark-clause-comes
returns-in-Some-next_mark-clause-comes g c = on_came g.M.SavingMachine.represents c.args.machine.now c.next_grant.new.self c.mark.new.self (Mark c.in-Some-next_mark.scope) tt c.next_grant.ensures.unchanged c.mark.result c.mark.ensures.marked c.mark.ensures.unchanged

pub returns-clause-comes : goal.returns-clause-comes
returns-clause-comes g c = on_came g.M.SavingMachine.represents c.args.machine.now c.next_grant.new.self c.section.new.self Section tt c.next_grant.ensures.unchanged c.section.result c.section.ensures.sent c.section.ensures.unchanged

pub returns-in-Some-clause-moved : goal.returns-in-Some-clause-moved
returns-in-Some-clause-moved g c =
    if_ok_both c.was_done.result _ _ _
    (λ some yes none. alone_granted g.M.SavingMachine.represents c.args.machine.now c.next_grant.new.self c.grant_in_turn.new.self c.in-Some.x.0 c.next_grant.ensures.unchanged c.grant_in_turn.result c.grant_in_turn.ensures.granted c.grant_in_turn.ensures.unchanged some yes none)
    c.was_done.ensures.done c.was_done.ensures.not_now

pub returns-in-Some-next_mark-clause-moved : goal.returns-in-Some-next_mark-clause-moved
returns-in-Some-next_mark-clause-moved g c =
    let was = c.was_done-in-Some-next_mark in
    if_ok_both was.result _ _ _
    (λ some yes none. alone_did g.M.SavingMachine.represents c.args.machine.now c.next_grant.new.self c.mark.new.self (Mark c.in-Some-next_mark.scope) tt c.next_grant.ensures.unchanged c.mark.result c.mark.ensures.marked c.mark.ensures.unchanged some yes none)
    was.ensures.done was.ensures.not_now

pub returns-clause-moved : goal.returns-clause-moved
returns-clause-moved g c =
    let was = c.was_done-2 in
    if_ok_both was.result _ _ _
    (λ some yes none. alone_did g.M.SavingMachine.represents c.args.machine.now c.next_grant.new.self c.section.new.self Section tt c.next_grant.ensures.unchanged c.section.result c.section.ensures.sent c.section.ensures.unchanged some yes none)
    was.ensures.done was.ensures.not_now
