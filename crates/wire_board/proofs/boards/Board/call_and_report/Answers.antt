use Rattle.std.proofs.Common.{List, ap, subst, ◌∙◌, ℕ}
use Rattle.std.specs.Prelude.{slice_index_or}
use Rattle.link_tables.proofs.Seeing.{sees_then}
use Rattle.wire_board.proofs.Acting.{moved_at, moved_both}
use Rattle.wire_board.specs.Freeing.{IsFree}
use Rattle.wire_board.specs.Going.{FailureAt}
use Rattle.wire_board.proofs.boards.Board.call_and_report.Goals as goal

pub hear_call_if-requires-clause-free : goal.hear_call_if-requires-clause-free
hear_call_if-requires-clause-free g c =
    let about = c.args.self.now.table.table.shared.key.about in
    let member = c.tell_report_if.new.member in
    subst (λ (fs : List FailureAt). IsFree g.M.SavingMachine.represents fs about.done.value.items member.machine member.number) c.requires.job
    (c.is_free.ensures.free c.if-not-is_free.false about.done.value.items (ap (λ (k : ℕ). slice_index_or about.done.value.items k 0) c.tell_report_if.ensures.same.0 ∙ c.requires.before))

pub returns-then-not-is_free-clause-sees : goal.returns-then-not-is_free-clause-sees
returns-then-not-is_free-clause-sees g c = c.tell_report_if.ensures.sees

pub returns-clause-sees : goal.returns-clause-sees
returns-clause-sees g c = sees_then c.args.place.now.seat.me c.tell_report_if.new.place.seat.me c.hear_call_if.new.place.seat.me c.tell_report_if.ensures.sees c.hear_call_if.ensures.sees

pub returns-clause-moved : goal.returns-clause-moved
returns-clause-moved g c =
    let represents = g.M.SavingMachine.represents in
    let many = c.args.self.now.table.many in
    let member = c.args.member.now in
    let here = c.tell_report_if.new.member in
    let old = c.args.place.now.seat.me in
    let mid = c.tell_report_if.new.place.seat.me in
    let new = c.hear_call_if.new.place.seat.me in
    let same = c.tell_report_if.ensures.same in
    moved_both represents many member.peers member.number member.machine here.machine c.hear_call_if.new.member.machine old mid new _ _ _ _ _ _ c.in_ok-told.ensures.moved
    (moved_at represents many member.peers here.peers member.number here.number here.machine c.hear_call_if.new.member.machine mid new _ _ same.1 same.0 c.in_ok-heard.ensures.moved)
    c.either.ensures.some c.either.ensures.none
