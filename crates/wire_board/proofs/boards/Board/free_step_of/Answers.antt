use Rattle.link_tables.proofs.Seeing.{sees_same}
use Rattle.wire_board.proofs.Acting.{moved_none, moved_so}
use Rattle.std.proofs.Common.{List, refl, subst}
use Rattle.wire_board.specs.Freeing.{IsFree}
use Rattle.wire_board.specs.Going.{FailureAt}
use Rattle.wire_board.proofs.boards.Board.free_step_of.Goals as goal

pub hear_call_if-requires-clause-free : goal.hear_call_if-requires-clause-free
hear_call_if-requires-clause-free g c =
    let about = c.args.self.now.table.table.shared.key.about in
    let member = c.args.seat.now.member in
    subst (λ (fs : List FailureAt). IsFree g.M.SavingMachine.represents fs about.done.value.items member.machine member.number) c.requires.job
    (c.is_free.ensures.free c.if-not-is_free.false about.done.value.items c.requires.seat.before_is)

pub work-requires-clause-free : goal.work-requires-clause-free
work-requires-clause-free g c =
    let about = c.args.self.now.table.table.shared.key.about in
    let member = c.args.seat.now.member in
    subst (λ (fs : List FailureAt). IsFree g.M.SavingMachine.represents fs about.done.value.items member.machine member.number) c.requires.job
    (c.is_free.ensures.free c.if-not-is_free.false about.done.value.items c.requires.seat.before_is)

pub returns-then-not-is_free-clause-moved : goal.returns-then-not-is_free-clause-moved
returns-then-not-is_free-clause-moved g c =
    let member = c.args.seat.now.member in
    let me = c.args.seat.now.place.seat.me in
    moved_none g.M.SavingMachine.represents c.args.self.now.table.many member.peers member.number member.machine member.machine me me _ _ (λ st a m setting here. here) (sees_same me me refl) (λ e. cc)

pub returns-clause-moved : goal.returns-clause-moved
returns-clause-moved g c =
    let member = c.args.seat.now.member in
    moved_so g.M.SavingMachine.represents c.args.self.now.table.many member.peers member.number member.machine c.work.new.member.machine c.args.seat.now.place.seat.me c.work.new.place.seat.me _ _ _ _ c.in_ok-work.ensures.moved
    c.is_made.ensures.some c.is_made.ensures.none
