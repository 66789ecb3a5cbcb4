use Rattle.std.proofs.Common.{get_or-set_other, sym, subst}
use Rattle.full_cluster.specs.FullQueues.{HasRoomToPut}
use Rattle.full_cluster.proofs.QueueLemmas.{queue_put}
use Rattle.full_cluster.proofs.queues.FullQueues.put.Goals as goal

pub put-requires : goal.put-requires
put-requires c = subst HasRoomToPut (sym c.index_mut.ensures.value) (c.requires.room c.index_mut.result.now)

pub returns-clause-put : goal.returns-clause-put
returns-clause-put c = λ st out m are is. queue_put st c.args.self.now.queues.items c.args.to.0 c.index_mut.result.now c.put.new.self out c.args.message m c.requires.inside c.index_mut.ensures.value c.put.ensures are is

pub returns-clause-kept : goal.returns-clause-kept
returns-clause-kept c = λ q off room d. rw (get_or-set_other c.args.self.now.queues.items c.args.to.0 q c.put.new.self d off) (room d)
