use Rattle.std.proofs.Common.{ap, subst, sym, ◌∙◌}
use Rattle.cluster_step.specs.trace.Later.{apart_now}
use Rattle.wire_board.proofs.Receiving.{lengths_apart, ok_both}
use Rattle.wire_board.specs.Attempts.{AreAwake, TraceView}
use Rattle.wire_board.specs.Receipts.{AreLengthsOf}
use Rattle.wire_board.proofs.attempts.Attempt.open.Goals as goal

pub on_board-requires-clause-awake : goal.on_board-requires-clause-awake
on_board-requires-clause-awake g c = subst (λ (v : TraceView g.row.M.Denot). AreAwake v.now.failed.items) (sym c.apart-trace.ensures.trace) c.requires.awake

pub returns-clause-so_far : goal.returns-clause-so_far
returns-clause-so_far g c =
    ok_both c.on_board.result _ _ _ (λ a is also. ap (λ o. o.so_far) is ∙ c.in_ok-opened.ensures.so_far) c.on_board.ensures.opened c.on_board.ensures.opened

pub returns-clause-lengths : goal.returns-clause-lengths
returns-clause-lengths g c =
    let represents = g.M.SavingMachine.represents in
    let lengths = c.in_ok-opened.opened.lengths.items in
    ok_both c.on_board.result _ _ _
    (λ a is trace.
    subst (λ (v : TraceView g.row.M.Denot). AreLengthsOf represents v a.opened.lengths.items) (sym (trace ∙ c.apart-trace.ensures.trace))
    (subst (AreLengthsOf represents (apart_now c.args.trace)) (sym (ap (λ o. o.lengths.items) is)) (lengths_apart represents c.args.trace lengths c.in_ok-opened.ensures.lengths)))
    c.on_board.ensures.opened c.on_board.ensures.trace
