use Rattle.std.proofs.Common.{◌+◌, ◌≡◌, ◌∙◌, List, Option, Some, refl, sym, ap, subst, slice_set, ◌<◌, length, arith}
use Rattle.scope_locks.specs.vertex_locks.Inner.KeptLocks.{IsReleased, claimed_once}
use Rattle.scope_locks.specs.vertex_locks.Locks.{LockView, released}
use Rattle.scope_locks.specs.vertex_locks.Tables.{lock_at, queue_at, table_of, HasReleased}
use Rattle.std.proofs.Math.ListN.{length-set}
use Rattle.scope_locks.specs.vertex_locks.Inner.KeptLists.{all_locks, locks_in}
use Rattle.scope_locks.proofs.vertex_locks.TableLemmas.{kept_read, many_set, has_kept, is_none, IsWritten, is_read, is_written, has_released}
use Rattle.scope_locks.proofs.vertex_locks.CountLemmas.{counted_less, number_of}
use Rattle.scope_locks.proofs.vertex_locks.ListedLemmas.{owned_flag, table_released}
use Rattle.scope_locks.proofs.vertex_locks.tables.LockTable.release.Goals as goal

inside : (c : goal.After-list_waiting) → c.index.result.now < length c.self.inside.locks.kept.items
inside c = let len = c.len.ensures in let ok = c.self.inside.locks.kept.ok in let before = c.if-place-len.false in omega arith

written : (c : goal.After-list_waiting) → IsWritten c.self.inside.places.items c.args.self.now c.args.x.0 c.index_mut.result.now (all_locks (slice_set c.self.inside.locks.kept.items c.index.result.now c.release-last.new.self) c.self.inside.locks.many) c.release-last.new.self
written c = is_written c.self.inside.places.items c.self.inside.locks.kept.items c.self.inside.locks.many c.args.self.now c.args.x.0 c.index.result.now c.index_mut.result.now c.release-last.new.self c.self.view_is c.requires c.self.invariant.table.apart c.index.ensures (inside c) c.index_mut.ensures.value

pub returns-clause-released : goal.returns-clause-released
returns-clause-released c =
    let table = c.args.self.now in
    let x = c.args.x.0 in
    let w = written c in
    let is : IsReleased (lock_at table x) c.release-last.new.self c.args.scope = subst (λ (k : LockView). IsReleased k c.release-last.new.self c.args.scope) w.old c.release-last.ensures.gone in
    subst (λ (t : List (Option LockView)). HasReleased table t x c.args.scope) (sym w.new) (has_released table x c.release-last.new.self c.args.scope w.owned is)

pub returns-clause-exact : goal.returns-clause-exact
returns-clause-exact c =
    let table = c.args.self.now in
    let x = c.args.x.0 in
    let w = written c in
    w.new ∙ ap (λ l. slice_set table x (Some l)) (c.release-last.ensures.exact ∙ ap (released c.args.scope) w.old)

inside-2 : (c : goal.After-index-2) → c.index.result.now < length c.self.inside.locks.kept.items
inside-2 c = let len = c.len.ensures in let ok = c.self.inside.locks.kept.ok in let before = c.if-place-len.false in omega arith

pub list_waiting-requires : goal.list_waiting-requires
list_waiting-requires c = owned_flag c.self.inside.places.items (locks_in c.self.inside.locks) (all_locks (slice_set c.self.inside.locks.kept.items c.index.result.now c.release-last.new.self) c.self.inside.locks.many) c.args.self.now c.self.inside.listed c.self.view_is (many_set c.self.inside.locks.kept.items c.self.inside.locks.many c.index.result.now c.release-last.new.self (inside-2 c)) c.self.invariant.table c.args.x.0 c.requires

-- what is read of the lock is who waits for that of x
waiting : (c : goal.After-list_waiting) → c.index-2.result.now.queue ≡ queue_at (table_of c.self.inside.places.items (all_locks (slice_set c.self.inside.locks.kept.items c.index.result.now c.release-last.new.self) c.self.inside.locks.many)) c.args.x.0
waiting c =
    let places = c.self.inside.places.items in
    let after = all_locks (slice_set c.self.inside.locks.kept.items c.index.result.now c.release-last.new.self) c.self.inside.locks.many in
    let x = c.args.x.0 in
    let owned = (returns-clause-released c).owned x ∙ c.requires in
    ap (λ (k : LockView). k.queue) (is_read places after (table_of places after) x c.index.result.now c.index-2.result.now refl owned c.index.ensures (kept_read (slice_set c.self.inside.locks.kept.items c.index.result.now c.release-last.new.self) c.self.inside.locks.many c.index.result.now c.index-2.result.now (omega (arith, inside c, length-set c.self.inside.locks.kept.items c.index.result.now c.release-last.new.self)) c.index-2.ensures))

pub invariant_of-self : goal.invariant_of-self
invariant_of-self c =
    let after = all_locks (slice_set c.self.inside.locks.kept.items c.index.result.now c.release-last.new.self) c.self.inside.locks.many in
    let many = many_set c.self.inside.locks.kept.items c.self.inside.locks.many c.index.result.now c.release-last.new.self (inside c) in
    record {
      table = table_released c.self.inside.places.items (locks_in c.self.inside.locks) after c.args.self.now c.self.inside.listed c.self.view_is many c.self.invariant.table c.list_waiting.new.listed c.index-2.result.now.queue c.args.x.0 c.args.scope
          (waiting c) c.list_waiting.ensures c.requires (returns-clause-released c);
      counted = counted_less c.self.inside.places.items (locks_in c.self.inside.locks) after c.args.self.now c.self.view_is c.args.x.0 c.index_mut.result.now c.release-last.new.self (written c)
          c.self.inside.claimed c.self.invariant.counted c.from.result (ap (λ n. claimed_once c.release-last.new.self + n) (c.from.ensures ∙ number_of c.release-last.result) ∙ c.release-last.ensures.last);
      few = omega (arith, c.self.invariant.few, length-set c.self.inside.locks.kept.items c.index.result.now c.release-last.new.self);
      free = c.self.invariant.free;
    }
