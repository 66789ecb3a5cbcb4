use Rattle.std.proofs.Common.{subst}
use Rattle.store.specs.store_format.Stores.{DecodesTo, stored_in}
use Rattle.store.proofs.store_format.StoreLemmas.{stands_of}
use Rattle.store.proofs.snap_journal.AppendLemmas.{found_settled, settled_leaves}
use Rattle.store.proofs.snap_journal.journal.Journal.open.Goals as goal

pub returns-in-Ok-clause-durable : goal.returns-in-Ok-clause-durable
returns-in-Ok-clause-durable g c = λ told image left.
    let header = c.args.header.now in
    let now = g.D.Disk.past c.synced_and_read.new.disk in
    let settled = found_settled header c.in-Ok.found.count c.in-Ok.found.gate now (g.D.Disk.past c.args.disk).now.seen (c.in-Ok.ensures.found told) (c.in-Ok.ensures.synced told) in
    settled_leaves header c.in-Ok.found.count c.in-Ok.found.gate now settled image left

pub returns-in-Ok-clause-stands : goal.returns-in-Ok-clause-stands
returns-in-Ok-clause-stands g c = λ told.
    let header = c.args.header.now in
    let seen = (g.D.Disk.past c.synced_and_read.new.disk).now.seen in
    let found = c.in-Ok.ensures.found told in
    subst (DecodesTo header (stored_in header seen)) (c.in-Ok.ensures.bytes told) (stands_of header seen found.reads)
