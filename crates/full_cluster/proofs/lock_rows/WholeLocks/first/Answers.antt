use Rattle.full_cluster.proofs.LockRowLemmas.{lock_at, never_one}
use Rattle.full_cluster.proofs.lock_rows.WholeLocks.first.Goals as goal

pub returns-clause-none : goal.returns-clause-none
returns-clause-none c = λ holds queue are none s next.
    let x = c.args.x.0 in
    let before = lock_at c.args.self.now.locks.items x c.index.result.now holds queue c.requires c.index.ensures are in
    never_one c.index.result.now (holds x) (queue x) before (c.first.ensures.none none) s next
