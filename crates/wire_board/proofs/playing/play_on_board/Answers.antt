use Rattle.std.proofs.Common.{ap, length, subst, suc, sym, ◌∙◌, ℕ}
use Rattle.cluster_step.specs.trace.Traces.{TraceGoesOn}
use Rattle.wire_board.proofs.Attempting.{goes_apart, goes_nowhere, length_members, members_numbered}
use Rattle.wire_board.proofs.Receiving.{receipt_apart, receipt_stays}
use Rattle.wire_board.specs.Attempts.{AreNumbered}
use Rattle.wire_board.specs.Receipts.{AreLengthsOf, IsReceipt, entries_in}
use Rattle.wire_board.proofs.playing.play_on_board.Goals as goal

pub returns-then-is_stopped-clause-goes_on : goal.returns-then-is_stopped-clause-goes_on
returns-then-is_stopped-clause-goes_on g c = goes_nowhere g.M.SavingMachine.represents c.args.trace c.remember.new.self c.remember.ensures

pub played-requires-clause-many : goal.played-requires-clause-many
played-requires-clause-many g c =
    let v = c.args.trace in
    ap length c.in_ok-attempt.ensures.members ∙ length_members (suc (length v.now.machines.items)) 0 v.now.machines.items ∙ sym (ap (λ x. length x.now.machines.items) c.in_ok-attempt.ensures.trace)

pub played-requires-clause-numbers : goal.played-requires-clause-numbers
played-requires-clause-numbers g c =
    let v = c.args.trace in
    subst (λ (k : ℕ). AreNumbered (suc k) 0 c.in_ok-attempt.attempt.members.items) (sym (ap (λ x. length x.now.machines.items) c.in_ok-attempt.ensures.trace))
    (subst (AreNumbered (suc (length v.now.machines.items)) 0) (sym c.in_ok-attempt.ensures.members) (members_numbered (suc (length v.now.machines.items)) 0 v.now.machines.items))

pub returns-then-is_stopped-clause-receipt : goal.returns-then-is_stopped-clause-receipt
returns-then-is_stopped-clause-receipt g c = receipt_stays g.M.SavingMachine.represents c.args.trace c.remember.new.self (entries_in c.args.so_far) c.remember.ensures

pub closed-requires-clause-lengths : goal.closed-requires-clause-lengths
closed-requires-clause-lengths g c =
    subst (λ o. AreLengthsOf g.M.SavingMachine.represents c.in_ok-attempt-2.attempt.trace o.lengths.items) (sym c.in_ok-attempt-2.ensures.opened)
    (subst (λ v. AreLengthsOf g.M.SavingMachine.represents v c.in_ok-attempt.attempt.opened.lengths.items) (sym c.in_ok-attempt-2.ensures.trace) c.in_ok-attempt.ensures.lengths)

pub returns-clause-goes_on : goal.returns-clause-goes_on
returns-clause-goes_on g c =
    let represents = g.M.SavingMachine.represents in
    goes_apart represents c.args.trace c.in_ok-trace.trace
    (subst (λ x. TraceGoesOn represents x c.in_ok-trace.trace) (c.in_ok-attempt-2.ensures.trace ∙ c.in_ok-attempt.ensures.trace) c.in_ok-trace.ensures.goes_on)

pub returns-clause-receipt : goal.returns-clause-receipt
returns-clause-receipt g c =
    let represents = g.M.SavingMachine.represents in
    let t = c.in_ok-trace.trace in
    let entries = c.in_ok-trace.receipt in
    receipt_apart represents c.args.trace t (entries_in c.args.so_far) entries
    (subst (λ x. IsReceipt represents x t (entries_in c.args.so_far) entries) (c.in_ok-attempt-2.ensures.trace ∙ c.in_ok-attempt.ensures.trace)
    (subst (λ f. IsReceipt represents c.in_ok-attempt-2.attempt.trace t (entries_in f) entries) (ap (λ o. o.so_far) c.in_ok-attempt-2.ensures.opened ∙ c.in_ok-attempt.ensures.so_far) c.in_ok-trace.ensures.receipt))
