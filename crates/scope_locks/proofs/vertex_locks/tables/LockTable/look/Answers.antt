use Rattle.std.proofs.Common.{sym, subst}
use Rattle.scope_locks.specs.vertex_locks.Locks.{LockView, mode_of, IsNext, WaitOnce, WritesAlone}
use Rattle.scope_locks.specs.vertex_locks.Inner.KeptLists.{locks_in}
use Rattle.scope_locks.proofs.vertex_locks.TableLemmas.{is_read}
use Rattle.scope_locks.proofs.vertex_locks.tables.LockTable.look.Goals as goal

pub returns-in-None-clause-turn : goal.returns-in-None-clause-turn
returns-in-None-clause-turn c = λ next is.
    let read = is_read c.self.inside.places.items (locks_in c.self.inside.locks) c.args.self.now c.args.x.0 c.index.result.now c.at.result.now c.self.view_is c.requires c.index.ensures c.at.ensures in
    c.next.ensures.none c.in-None.is next (subst (λ (k : LockView). IsNext (mode_of k.holders) k.queue next) (sym read) is)

pub returns-in-Some-clause-turn : goal.returns-in-Some-clause-turn
returns-in-Some-clause-turn c =
    let read = is_read c.self.inside.places.items (locks_in c.self.inside.locks) c.args.self.now c.args.x.0 c.index.result.now c.at.result.now c.self.view_is c.requires c.index.ensures c.at.ensures in
    subst (λ (k : LockView). IsNext (mode_of k.holders) k.queue c.in-Some.claim) read c.in-Some.ensures.next

pub returns-in-Some-clause-exclusion : goal.returns-in-Some-clause-exclusion
returns-in-Some-clause-exclusion c =
    let read = is_read c.self.inside.places.items (locks_in c.self.inside.locks) c.args.self.now c.args.x.0 c.index.result.now c.at.result.now c.self.view_is c.requires c.index.ensures c.at.ensures in
    subst (λ (k : LockView). WritesAlone (mode_of k.holders)) read c.next.ensures.exclusion

pub returns-in-Some-clause-once : goal.returns-in-Some-clause-once
returns-in-Some-clause-once c =
    let read = is_read c.self.inside.places.items (locks_in c.self.inside.locks) c.args.self.now c.args.x.0 c.index.result.now c.at.result.now c.self.view_is c.requires c.index.ensures c.at.ensures in
    subst (λ (k : LockView). WaitOnce (mode_of k.holders) k.queue) read c.next.ensures.once

pub returns-in-None-clause-exclusion : goal.returns-in-None-clause-exclusion
returns-in-None-clause-exclusion c =
    let read = is_read c.self.inside.places.items (locks_in c.self.inside.locks) c.args.self.now c.args.x.0 c.index.result.now c.at.result.now c.self.view_is c.requires c.index.ensures c.at.ensures in
    subst (λ (k : LockView). WritesAlone (mode_of k.holders)) read c.next.ensures.exclusion

pub returns-in-None-clause-once : goal.returns-in-None-clause-once
returns-in-None-clause-once c =
    let read = is_read c.self.inside.places.items (locks_in c.self.inside.locks) c.args.self.now c.args.x.0 c.index.result.now c.at.result.now c.self.view_is c.requires c.index.ensures c.at.ensures in
    subst (λ (k : LockView). WaitOnce (mode_of k.holders) k.queue) read c.next.ensures.once
