use Rattle.full_cluster.proofs.LockRowLemmas.{lock_at, lock_granted, never_one}
use Rattle.full_cluster.proofs.lock_rows.WholeLocks.grant.Goals as goal

pub returns-clause-granted : goal.returns-clause-granted
returns-clause-granted c = λ holds queue are.
    lock_granted c.args.self.now.locks.items c.args.x.0 c.index_mut.result.now c.grant.new.self holds queue c.grant.result c.requires c.index_mut.ensures.value are c.grant.ensures.granted

pub returns-clause-not_now : goal.returns-clause-not_now
returns-clause-not_now c = λ holds queue are none s next.
    let x = c.args.x.0 in
    let before = lock_at c.args.self.now.locks.items x c.index_mut.result.now holds queue c.requires c.index_mut.ensures.value are in
    never_one c.index_mut.result.now (holds x) (queue x) before (c.grant.ensures.not_now none) s next
