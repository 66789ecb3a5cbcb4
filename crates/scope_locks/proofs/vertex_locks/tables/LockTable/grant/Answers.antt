use Rattle.std.proofs.Common.{◌∙◌, List, Option, sym, subst, slice_set, ◌<◌, length, ap, arith}
use Rattle.scope_locks.specs.vertex_locks.Inner.KeptLocks.{IsTaken}
use Rattle.scope_locks.specs.vertex_locks.Locks.{LockView, mode_of, IsNext}
use Rattle.scope_locks.specs.vertex_locks.Tables.{HasTaken}
use Rattle.std.proofs.Math.ListN.{length-set}
use Rattle.scope_locks.specs.vertex_locks.Inner.KeptLists.{all_locks, locks_in}
use Rattle.scope_locks.proofs.vertex_locks.TableLemmas.{many_set, has_kept, is_none, IsWritten, is_written, with_lock-same, has_taken}
use Rattle.scope_locks.proofs.vertex_locks.CountLemmas.{counted_same}
use Rattle.scope_locks.proofs.vertex_locks.ListedLemmas.{table_granted}
use Rattle.scope_locks.proofs.vertex_locks.tables.LockTable.grant.Goals as goal
use Rattle.scope_locks.proofs.vertex_locks.tables.LockTable.grant.Goals.{in-Some, in-None}

inside : (c : goal.Joined-grant) → c.index.result.now < length c.self.inside.locks.kept.items
inside c = let len = c.len.ensures in let ok = c.self.inside.locks.kept.ok in let before = c.if-place-len.false in omega arith

written : (c : goal.Joined-grant) → IsWritten c.self.inside.places.items c.args.self.now c.args.x.0 c.index_mut.result.now (all_locks (slice_set c.self.inside.locks.kept.items c.index.result.now c.grant.new.self) c.self.inside.locks.many) c.grant.new.self
written c = is_written c.self.inside.places.items c.self.inside.locks.kept.items c.self.inside.locks.many c.args.self.now c.args.x.0 c.index.result.now c.index_mut.result.now c.grant.new.self c.self.view_is c.requires c.self.invariant.table.apart c.index.ensures (inside c) c.index_mut.ensures.value

pub returns-clause-turn : goal.returns-clause-turn
returns-clause-turn c =
    let table = c.args.self.now in
    let x = c.args.x.0 in
    let w = written c in
    elim c.match-grant.branch [
      | in-Some b ↦ rw b.result-is (subst (λ (k : LockView). IsNext (mode_of k.holders) k.queue b.in-Some.claim) w.old b.in-Some.ensures.next)
      | in-None b ↦ rw b.result-is (λ next is. c.grant.ensures.none b.in-None.is next (subst (λ (k : LockView). IsNext (mode_of k.holders) k.queue next) (sym w.old) is))
    ]

pub returns-clause-change : goal.returns-clause-change
returns-clause-change c =
    let table = c.args.self.now in
    let x = c.args.x.0 in
    let w = written c in
    elim c.match-grant.branch [
      | in-Some b ↦ rw b.result-is
          (subst (λ (t : List (Option LockView)). HasTaken table t x b.in-Some.claim) (sym w.new)
          (has_taken table x c.grant.new.self b.in-Some.claim w.owned (subst (λ (k : LockView). IsTaken k c.grant.new.self b.in-Some.claim) w.old b.in-Some.ensures.taken)))
      | in-None b ↦ rw b.result-is
          (w.new ∙ with_lock-same table x c.grant.new.self w.owned (c.grant.ensures.waiting b.in-None.is ∙ w.old))
    ]

pub invariant_of-self : goal.invariant_of-self
invariant_of-self c = record {
  table = table_granted c.self.inside.places.items (locks_in c.self.inside.locks) (all_locks (slice_set c.self.inside.locks.kept.items c.index.result.now c.grant.new.self) c.self.inside.locks.many) c.args.self.now c.self.inside.listed c.self.view_is (many_set c.self.inside.locks.kept.items c.self.inside.locks.many c.index.result.now c.grant.new.self (inside c)) c.self.invariant.table c.args.x.0 c.match-grant.result (returns-clause-turn c) (returns-clause-change c);
  counted = counted_same c.self.inside.places.items (locks_in c.self.inside.locks) (all_locks (slice_set c.self.inside.locks.kept.items c.index.result.now c.grant.new.self) c.self.inside.locks.many) c.args.self.now c.self.view_is c.args.x.0 c.index_mut.result.now c.grant.new.self (written c)
      c.self.inside.claimed c.self.invariant.counted c.grant.ensures.claimed;
  few = omega (arith, c.self.invariant.few, length-set c.self.inside.locks.kept.items c.index.result.now c.grant.new.self);
  free = c.self.invariant.free;
}
