use Rattle.std.proofs.Common.{arith, ◌+◌, ap, ◌<◌, ◌∙◌, List, Option, inl, inr, sym, subst, slice_set, length}
use Rattle.std.proofs.lemmas.Bool.{cases_Bool}
use Rattle.scope_locks.specs.vertex_locks.Inner.KeptLocks.{IsTaken, claimed_once, requested}
use Rattle.scope_locks.specs.vertex_locks.Inner.KeptTables.{IsTable}
use Rattle.scope_locks.specs.vertex_locks.Locks.{LockView, mode_of, IsFreeLock}
use Rattle.scope_locks.specs.vertex_locks.Tables.{HasTakenFree}
use Rattle.std.proofs.Math.ListN.{length-set}
use Rattle.scope_locks.specs.vertex_locks.Inner.KeptLists.{all_locks, locks_in}
use Rattle.scope_locks.proofs.vertex_locks.TableLemmas.{many_set, has_kept, is_none, IsWritten, is_written, has_taken_free, with_lock-same}
use Rattle.scope_locks.proofs.vertex_locks.CountLemmas.{count_fits, counted_more, number_of}
use Rattle.scope_locks.proofs.vertex_locks.ListedLemmas.{table_free_taken, table_same}
use Rattle.scope_locks.proofs.vertex_locks.tables.LockTable.take.Goals as goal

inside : (c : goal.After-self-2-1) → c.index.result.now < length c.self.inside.locks.kept.items
inside c = let len = c.len.ensures in let ok = c.self.inside.locks.kept.ok in let before = c.if-place-len.false in omega arith

written : (c : goal.After-self-2-1) → IsWritten c.self.inside.places.items c.args.self.now c.args.x.0 c.index_mut.result.now (all_locks (slice_set c.self.inside.locks.kept.items c.index.result.now c.take-only.new.self) c.self.inside.locks.many) c.take-only.new.self
written c = is_written c.self.inside.places.items c.self.inside.locks.kept.items c.self.inside.locks.many c.args.self.now c.args.x.0 c.index.result.now c.index_mut.result.now c.take-only.new.self c.self.view_is c.requires c.self.invariant.table.apart c.index.ensures (inside c) c.index_mut.ensures.value

pub returns-clause-taken : goal.returns-clause-taken
returns-clause-taken c is =
    let table = c.args.self.now in
    let x = c.args.x.0 in
    let w = written c in
    let free = subst (λ (k : LockView). IsFreeLock (mode_of k.holders) k.queue × (0 < k.room)) w.old (c.take-only.ensures.free is) in
    subst (λ (t : List (Option LockView)). HasTakenFree table t x c.args.claim) (sym w.new)
    (has_taken_free table x c.take-only.new.self c.args.claim w.owned free.0 free.1 (subst (λ (k : LockView). IsTaken (requested c.args.claim k) c.take-only.new.self c.args.claim) w.old (c.take-only.ensures.taken is)))

pub returns-clause-claimed : goal.returns-clause-claimed
returns-clause-claimed c is free =
    let w = written c in
    sym (ap (λ (k : LockView). k.room) w.old) ∙ c.take-only.ensures.claimed is (subst (λ (k : LockView). IsFreeLock (mode_of k.holders) k.queue) (sym w.old) free)

pub returns-clause-same : goal.returns-clause-same
returns-clause-same c is =
    let w = written c in
    w.new ∙ with_lock-same c.args.self.now c.args.x.0 c.take-only.new.self w.owned (c.take-only.ensures.same is ∙ w.old)

kept : (c : goal.After-self-2-1) → IsTable c.self.inside.places.items (all_locks (slice_set c.self.inside.locks.kept.items c.index.result.now c.take-only.new.self) c.self.inside.locks.many) c.self.inside.listed
kept c =
    let after = all_locks (slice_set c.self.inside.locks.kept.items c.index.result.now c.take-only.new.self) c.self.inside.locks.many in
    let many = many_set c.self.inside.locks.kept.items c.self.inside.locks.many c.index.result.now c.take-only.new.self (inside c) in
    elim (cases_Bool c.take-only.result) [
      | inl is_taken ↦ table_free_taken c.self.inside.places.items (locks_in c.self.inside.locks) after c.args.self.now c.self.inside.listed c.self.view_is many c.self.invariant.table c.args.x.0 c.args.claim (returns-clause-taken c is_taken)
      | inr is_not ↦ table_same c.self.inside.places.items (locks_in c.self.inside.locks) after c.args.self.now c.self.inside.listed c.self.view_is many c.self.invariant.table (returns-clause-same c is_not)
    ]

pub invariant_of-self : goal.invariant_of-self
invariant_of-self c = record {
  table = kept c;
  counted = counted_more c.self.inside.places.items (locks_in c.self.inside.locks) (all_locks (slice_set c.self.inside.locks.kept.items c.index.result.now c.take-only.new.self) c.self.inside.locks.many) c.args.self.now c.self.view_is c.args.x.0 c.index_mut.result.now c.take-only.new.self (written c)
      c.self.inside.claimed c.self.invariant.counted c.from.result (c.take-only.ensures.only ∙ ap (λ n. claimed_once c.index_mut.result.now + n) (sym (c.from.ensures ∙ number_of c.take-only.result)));
  few = omega (arith, c.self.invariant.few, length-set c.self.inside.locks.kept.items c.index.result.now c.take-only.new.self);
  free = c.self.invariant.free;
}

pub overflow_add-self : goal.overflow_add-self
overflow_add-self c =
    let many = c.self.inside.places.ok in
    let fits = count_fits c.self.inside.places.items (locks_in c.self.inside.locks) c.take-only.result in
    let counted = c.self.invariant.counted in
    let added = c.from.ensures ∙ number_of c.take-only.result in
    omega arith
