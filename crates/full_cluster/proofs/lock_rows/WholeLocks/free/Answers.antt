use Rattle.std.proofs.Common.{◌≡◌, ◌∙◌, None, [], List, length, length-append, sym, ap, subst, arith}
use Rattle.std.specs.List.{All}
use Rattle.std.proofs.lemmas.List.Elements.{All-push}
use Rattle.full_cluster.specs.declared.locks.WholeLock.{WholeLock}
use Rattle.full_cluster.proofs.lock_rows.WholeLocks.free.Goals as goal

pub loop-preserved : goal.loop-preserved
loop-preserved c =
    let long = simp length-append at (ap length c.push_reserved.ensures.items) in
    let kept = c.loop.invariant.count in
    record {
      count = omega (arith, long, kept);
      room = c.push_reserved.ensures.capacity ∙ c.loop.invariant.room;
      free = subst (λ (locks : List WholeLock). All (λ (lock : WholeLock). (lock.holder ≡ None) × (lock.queue.items ≡ [])) locks) (sym c.push_reserved.ensures.items)
          (All-push (λ (lock : WholeLock). (lock.holder ≡ None) × (lock.queue.items ≡ [])) c.loop.locks.items c.free.result c.loop.invariant.free (c.free.ensures.holder, c.free.ensures.queue));
    }
