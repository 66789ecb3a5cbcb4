use Rattle.std.proofs.Common.{◌<◌, length, arith}
use Rattle.full_cluster.proofs.QueueLemmas.{first_waits, queue_at}
use Rattle.full_cluster.proofs.queues.FullQueues.waits.Goals as goal

pub returns-clause-yes : goal.returns-clause-yes
returns-clause-yes c = λ st out are waits.
    let long = c.args.self.now.queues.ok.0 in
    let many = c.len.ensures in
    let inside = c.if-place-len.false in
    let low : c.args.to.0 < length c.args.self.now.queues.items = omega (arith, long, many, inside) in
    first_waits st c.index.result.now.messages.items (out c.args.to.0) (queue_at st c.args.self.now.queues.items c.args.to.0 c.index.result.now out low c.index.ensures are) (c.waits.ensures.yes waits)
