use Rattle.std.proofs.Common.{◌∙◌, [], List, length, length-append, sym, ap, subst, arith}
use Rattle.std.specs.List.{All}
use Rattle.std.proofs.lemmas.List.Elements.{All-push}
use Rattle.full_cluster.specs.declared.queues.FullQueues.{FullQueues}
use Rattle.full_cluster.specs.FullClusters.{IsLinkOf}
use Rattle.full_cluster.proofs.beginning.first_links.Goals as goal

pub loop-preserved : goal.loop-preserved
loop-preserved c =
    let long = simp length-append at (ap length c.push_reserved.ensures.items) in
    let kept = c.loop.invariant.count in
    record {
      count = omega (arith, long, kept);
      room = c.push_reserved.ensures.capacity ∙ c.loop.invariant.room;
      none = λ st many. subst (λ (all : List FullQueues). All (λ (links : FullQueues). IsLinkOf st links (λ q. [])) all) (sym c.push_reserved.ensures.items)
          (All-push (λ (links : FullQueues). IsLinkOf st links (λ q. [])) c.loop.all.items c.in_ok-links.links (c.loop.invariant.none st many)
          (record { count = c.in_ok-links.ensures.count ∙ sym many; are = c.in_ok-links.ensures.none st }));
    }
