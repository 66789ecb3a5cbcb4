use Rattle.std.proofs.Common.{get_or-set_same}
use Rattle.std.proofs.lemmas.Result.{on_ok_weaker}
use Rattle.full_cluster.proofs.QueueLemmas.{queue_same}
use Rattle.full_cluster.proofs.queues.FullQueues.reserve.Goals as goal

pub returns-clause-room : goal.returns-clause-room
returns-clause-room c = on_ok_weaker c.reserve.result (λ room. λ d. rw (get_or-set_same c.args.self.now.queues.items c.args.to.0 c.reserve.new.self d c.requires) room) c.reserve.ensures.room

pub returns-clause-same : goal.returns-clause-same
returns-clause-same c = λ st out are. queue_same st c.args.self.now.queues.items c.args.to.0 c.index_mut.result.now c.reserve.new.self out c.requires c.index_mut.ensures.value c.reserve.ensures.same are
