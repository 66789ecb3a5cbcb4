use Rattle.std.proofs.Common.{◌∙◌}
use Rattle.store.proofs.store_format.EntryLemmas.{entries_next}
use Rattle.store.proofs.store_format.entries_read.push_entries_of.Goals as goal

pub loop-i-preserved : goal.loop-i-preserved
loop-i-preserved c =
    entries_next c.loop-i.entries.items c.push.new.self.items c.entry_at.result c.u32_at-count.result c.loop-i.i c.args.body.now c.loop-i-test.true c.entry_at.ensures c.in_ok-push.ensures.items
    ∙ c.loop-i.invariant
