-- The board's receipt comes with the trace.
use Rattle.std.proofs.Common.{ap, length, subst, sym, ◌∙◌}
use Rattle.wire_board.proofs.Receiving.{receipt_is}
use Rattle.wire_board.specs.Receipts.{HasLoggedBehind, entries_in}
use Rattle.wire_board.proofs.attempts.Attempt.closed.Goals as goal

pub closed-requires : goal.closed-requires
closed-requires g c =
    ap (λ o. length o.lengths.items) c.in_ok-trace.ensures.opened ∙ c.requires.lengths.many ∙ sym c.in_ok-trace.ensures.same.many

pub returns-clause-receipt : goal.returns-clause-receipt
returns-clause-receipt g c =
    let a = c.args.self in
    let represents = g.M.SavingMachine.represents in
    let t = c.in_ok-trace.trace in
    receipt_is represents a.trace t a.opened.lengths.items (entries_in a.opened.so_far) c.in_ok-receipt.receipt c.requires.lengths c.in_ok-trace.ensures.goes_on
    (subst (λ o. HasLoggedBehind represents t o.lengths.items (entries_in o.so_far) c.in_ok-receipt.receipt) c.in_ok-trace.ensures.opened c.in_ok-receipt.ensures)
