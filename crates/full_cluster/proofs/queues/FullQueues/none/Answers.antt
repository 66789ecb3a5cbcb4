use Rattle.std.proofs.Common.{◌≡◌, ◌∙◌, [], List, length, length-append, sym, ap, subst, arith}
use Rattle.std.specs.List.{All}
use Rattle.std.proofs.lemmas.List.Elements.{All-push}
use Rattle.full_cluster.specs.declared.queues.FullQueue.{FullQueue}
use Rattle.full_cluster.proofs.QueueLemmas.{queues_none}
use Rattle.full_cluster.proofs.queues.FullQueues.none.Goals as goal

pub loop-preserved : goal.loop-preserved
loop-preserved c =
    let long = simp length-append at (ap length c.push_reserved.ensures.items) in
    let kept = c.loop.invariant.count in
    record {
      count = omega (arith, long, kept);
      room = c.push_reserved.ensures.capacity ∙ c.loop.invariant.room;
      none = subst (λ (queues : List FullQueue). All (λ (queue : FullQueue). queue.messages.items ≡ []) queues) (sym c.push_reserved.ensures.items)
          (All-push (λ (queue : FullQueue). queue.messages.items ≡ []) c.loop.queues.items c.none.result c.loop.invariant.none c.none.ensures);
    }

pub returns-clause-none : goal.returns-clause-none
returns-clause-none c = λ st. queues_none st c.loop.queues.items c.loop.invariant.none
