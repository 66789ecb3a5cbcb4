use Rattle.std.proofs.Common.{sym, subst}
use Rattle.scope_locks.specs.vertex_locks.Locks.{LockView, mode_of, IsFreeLock}
use Rattle.scope_locks.specs.vertex_locks.Inner.KeptLists.{locks_in}
use Rattle.scope_locks.proofs.vertex_locks.TableLemmas.{is_read}
use Rattle.scope_locks.proofs.vertex_locks.tables.LockTable.is_free.Goals as goal

pub returns-clause-free : goal.returns-clause-free
returns-clause-free c = λ is.
    let read = is_read c.self.inside.places.items (locks_in c.self.inside.locks) c.args.self.now c.args.x.0 c.index.result.now c.at.result.now c.self.view_is c.requires c.index.ensures c.at.ensures in
    subst (λ (k : LockView). IsFreeLock (mode_of k.holders) k.queue) read (c.is_free.ensures.free is)

pub returns-clause-claimed : goal.returns-clause-claimed
returns-clause-claimed c = λ is free.
    let read = is_read c.self.inside.places.items (locks_in c.self.inside.locks) c.args.self.now c.args.x.0 c.index.result.now c.at.result.now c.self.view_is c.requires c.index.ensures c.at.ensures in
    c.is_free.ensures.claimed is (subst (λ (k : LockView). IsFreeLock (mode_of k.holders) k.queue) (sym read) free)
