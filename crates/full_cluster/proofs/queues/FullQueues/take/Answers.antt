use Rattle.std.proofs.Common.{◌<◌, length, arith}
use Rattle.full_cluster.proofs.QueueLemmas.{queue_taken}
use Rattle.full_cluster.proofs.queues.FullQueues.take.Goals as goal

pub returns-clause-some : goal.returns-clause-some
returns-clause-some c = λ st out are.
    let long = c.args.self.now.queues.ok.0 in
    let many = c.len.ensures in
    let inside = c.if-place-len.false in
    let low : c.args.to.0 < length c.args.self.now.queues.items = omega (arith, long, many, inside) in
    queue_taken st c.args.self.now.queues.items c.args.to.0 c.index_mut.result.now c.take.new.self out c.take.result low c.index_mut.ensures.value c.take.ensures.some are
