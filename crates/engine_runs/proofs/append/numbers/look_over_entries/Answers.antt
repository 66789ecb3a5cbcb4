-- Entry by entry.
use Rattle.std.proofs.Common.{◌≡◌, arith, length}
use Rattle.engine_runs.specs.append.Inner.Numbers.{EntryFits}
use Rattle.engine_runs.proofs.append.Numbering.{all_taken, each_more}
use Rattle.engine_runs.proofs.append.numbers.look_over_entries.Goals as goal

pub loop-entry-preserved : goal.loop-entry-preserved
loop-entry-preserved c = each_more EntryFits c.args.entries.now c.loop-entry.entry-index _ c.loop-entry-test.true c.loop-entry.invariant c.look_at.ensures

pub returns : goal.returns
returns c =
    let end : c.loop-entry.entry-index ≡ length c.args.entries.now = omega arith in
    all_taken EntryFits c.args.entries.now c.loop-entry.entry-index end c.loop-entry.invariant
