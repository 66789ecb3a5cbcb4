use Rattle.std.proofs.Common.{◌∙◌}
use Rattle.std.proofs.lemmas.Result.{err_from_is_err_and}
use Rattle.store.proofs.store_format.EntryLemmas.{entries_fault-next, entries_fault-here}
use Rattle.store.proofs.store_format.entries_check.check_entries.Goals as goal

pub returns-in_err-least-clause-fault : goal.returns-in_err-least-clause-fault
returns-in_err-least-clause-fault c =
    let exit = err_from_is_err_and c.from_residual.result c.from_residual.ensures.1 in
    rw (exit.1, exit.2)
    (c.loop-i.invariant ∙ entries_fault-here c.args.header.now c.args.number c.loop-i.least c.args.count c.loop-i.i c.args.body.now c.in_err-least.field-0.0 c.loop-i-test.true c.in_err-least.ensures.fault)

pub loop-i-preserved : goal.loop-i-preserved
loop-i-preserved c =
    c.loop-i.invariant
    ∙ entries_fault-next c.args.header.now c.args.number c.loop-i.least c.args.count c.loop-i.i c.args.body.now c.in_ok-least.least c.loop-i-test.true c.in_ok-least.ensures.none c.in_ok-least.ensures.rank
