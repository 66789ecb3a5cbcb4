use Rattle.std.proofs.Common.{arith, ◌+◌, ◌≡◌, ◌∙◌, List, Option, sym, ap, subst, slice_set, ◌<◌, length}
use Rattle.scope_locks.specs.vertex_locks.Inner.KeptLocks.{claimed_once, requested}
use Rattle.scope_locks.specs.vertex_locks.Locks.{LockView}
use Rattle.scope_locks.proofs.vertex_locks.TableLemmas.{with_lock}
use Rattle.scope_locks.specs.vertex_locks.Tables.{lock_at, HasAsked}
use Rattle.std.proofs.Math.ListN.{length-set}
use Rattle.scope_locks.specs.vertex_locks.Inner.KeptLists.{all_locks, locks_in}
use Rattle.scope_locks.proofs.vertex_locks.TableLemmas.{many_set, has_kept, is_none, IsWritten, is_written, has_asked}
use Rattle.scope_locks.proofs.vertex_locks.CountLemmas.{count_fits, counted_more, number_of}
use Rattle.scope_locks.proofs.vertex_locks.ListedLemmas.{owned_flag, table_asked}
use Rattle.scope_locks.proofs.vertex_locks.tables.LockTable.request.Goals as goal

inside : (c : goal.After-self-2-1) → c.index.result.now < length c.self.inside.locks.kept.items
inside c = has_kept c.self.inside.places.items c.self.inside.locks.kept.items c.self.inside.locks.many c.args.self.now c.args.x.0 c.index.result.now c.self.view_is c.requires.owned c.index.ensures c.requires.room

written : (c : goal.After-self-2-1) → IsWritten c.self.inside.places.items c.args.self.now c.args.x.0 c.index_mut.result.now (all_locks (slice_set c.self.inside.locks.kept.items c.index.result.now c.request-only.new.self) c.self.inside.locks.many) c.request-only.new.self
written c = is_written c.self.inside.places.items c.self.inside.locks.kept.items c.self.inside.locks.many c.args.self.now c.args.x.0 c.index.result.now c.index_mut.result.now c.request-only.new.self c.self.view_is c.requires.owned c.self.invariant.table.apart c.index.ensures (inside c) c.index_mut.ensures.value

pub returns : goal.returns
returns c =
    let table = c.args.self.now in
    let x = c.args.x.0 in
    let w = written c in
    let l : c.request-only.new.self ≡ requested c.args.claim (lock_at table x) = c.request-only.ensures.asked ∙ ap (requested c.args.claim) w.old in
    subst (λ (t : List (Option LockView)). HasAsked table t x c.args.claim) (sym w.new)
    (subst (λ (k : LockView). HasAsked table (with_lock table x k) x c.args.claim) (sym l) (has_asked table x c.args.claim w.owned))

inside-2 : (c : goal.After-add-arg-1) → c.index.result.now < length c.self.inside.locks.kept.items
inside-2 c = has_kept c.self.inside.places.items c.self.inside.locks.kept.items c.self.inside.locks.many c.args.self.now c.args.x.0 c.index.result.now c.self.view_is c.requires.owned c.index.ensures c.requires.room

pub add-requires : goal.add-requires
add-requires c = owned_flag c.self.inside.places.items (locks_in c.self.inside.locks) (all_locks (slice_set c.self.inside.locks.kept.items c.index.result.now c.request-only.new.self) c.self.inside.locks.many) c.args.self.now c.self.inside.listed c.self.view_is (many_set c.self.inside.locks.kept.items c.self.inside.locks.many c.index.result.now c.request-only.new.self (inside-2 c)) c.self.invariant.table c.args.x.0 c.requires.owned

pub invariant_of-self : goal.invariant_of-self
invariant_of-self c = record {
  table = table_asked c.self.inside.places.items (locks_in c.self.inside.locks) (all_locks (slice_set c.self.inside.locks.kept.items c.index.result.now c.request-only.new.self) c.self.inside.locks.many) c.args.self.now c.self.inside.listed c.self.view_is (many_set c.self.inside.locks.kept.items c.self.inside.locks.many c.index.result.now c.request-only.new.self (inside c)) c.self.invariant.table c.add.new.self c.args.x.0 c.args.claim c.add.ensures c.requires.owned (returns c);
  counted = counted_more c.self.inside.places.items (locks_in c.self.inside.locks) (all_locks (slice_set c.self.inside.locks.kept.items c.index.result.now c.request-only.new.self) c.self.inside.locks.many) c.args.self.now c.self.view_is c.args.x.0 c.index_mut.result.now c.request-only.new.self (written c)
      c.self.inside.claimed c.self.invariant.counted c.from.result (c.request-only.ensures.only ∙ ap (λ n. claimed_once c.index_mut.result.now + n) (sym (c.from.ensures ∙ number_of c.request-only.result)));
  few = omega (arith, c.self.invariant.few, length-set c.self.inside.locks.kept.items c.index.result.now c.request-only.new.self);
  free = c.self.invariant.free;
}

pub overflow_add-self : goal.overflow_add-self
overflow_add-self c =
    let many = c.self.inside.places.ok in
    let fits = count_fits c.self.inside.places.items (locks_in c.self.inside.locks) c.request-only.result in
    let counted = c.self.invariant.counted in
    let added = c.from.ensures ∙ number_of c.request-only.result in
    omega arith
