use Rattle.std.proofs.Common.{◌≡◌, ◌≤◌, ◌∙◌, ℕ, List, Option, sym, ap, subst, length, slice_index_or, arith}
use Rattle.std.specs.Vec.{with_items}
use Rattle.std.proofs.lemmas.List.{with_items_is}
use Rattle.scope_locks.specs.vertex_locks.Locks.{LockView}
use Rattle.scope_locks.specs.vertex_locks.Tables.{is_owned, room_at, table_of, IsUnclaimed, no_lock}
use Rattle.scope_locks.proofs.vertex_locks.MakingLemmas.{owned_reset, room_reset, unclaimed}
use Rattle.scope_locks.specs.vertex_locks.Inner.KeptLists.{all_locks, locks_in}
use Rattle.scope_locks.specs.vertex_locks.Inner.KeptTables.{IsFree, IsTable}
use Rattle.scope_locks.proofs.vertex_locks.TableLemmas.{all_free, all_long, all_room}
use Rattle.scope_locks.proofs.vertex_locks.CountLemmas.{count_free}
use Rattle.scope_locks.proofs.vertex_locks.ListedLemmas.{table_reset}
use Rattle.scope_locks.proofs.vertex_locks.tables.LockTable.reset.Goals as goal

many : (c : goal.After-self-2-1) → length c.reset_all.new.locks ≡ length c.self.inside.locks.kept.items
many c = let long = c.reset_all.auto.locks in let was = ap length c.deref_mut.ensures.value in omega arith

items : (c : goal.After-self-2-1) → (with_items c.self.inside.locks.kept c.reset_all.new.locks).items ≡ c.reset_all.new.locks
items c = with_items_is c.self.inside.locks.kept c.reset_all.new.locks (let long = many c in let ok = c.self.inside.locks.kept.ok in omega arith)

-- all locks, of which those that are kept were made free
fresh : (c : goal.After-self-2-1) → List LockView
fresh c = all_locks c.reset_all.new.locks c.self.inside.locks.many

fresh_is : (c : goal.After-self-2-1) → all_locks (with_items c.self.inside.locks.kept c.reset_all.new.locks).items c.self.inside.locks.many ≡ fresh c
unfolding fresh
fresh_is c = ap (λ (kept : List LockView). all_locks kept c.self.inside.locks.many) (items c)

long : (c : goal.After-self-2-1) → length (fresh c) ≡ length (locks_in c.self.inside.locks)
unfolding fresh
long c = all_long c.self.inside.locks.kept.items c.reset_all.new.locks c.self.inside.locks.many (many c)

none : (c : goal.After-self-2-1) → (k : ℕ) → IsFree (slice_index_or (fresh c) k no_lock)
unfolding fresh
none c = all_free c.reset_all.new.locks c.self.inside.locks.many c.reset_all.ensures.free

pub returns-clause-owned : goal.returns-clause-owned
returns-clause-owned c = λ y.
    ap (λ (locks : List LockView). is_owned (table_of c.self.inside.places.items locks) y) (fresh_is c)
    ∙ (owned_reset c.self.inside.places.items (locks_in c.self.inside.locks) (fresh c) (long c) y
    ∙ ap (λ (t : List (Option LockView)). is_owned t y) c.self.view_is)

pub returns-clause-free : goal.returns-clause-free
returns-clause-free c =
    subst (λ (locks : List LockView). IsUnclaimed (table_of c.self.inside.places.items locks)) (sym (fresh_is c))
    (unclaimed c.self.inside.places.items (fresh c) (none c))

more : (c : goal.After-self-2-1) → (k : ℕ) → (slice_index_or (locks_in c.self.inside.locks) k no_lock).room ≤ (slice_index_or (fresh c) k no_lock).room
unfolding fresh
more c = all_room c.self.inside.locks.kept.items c.reset_all.new.locks c.self.inside.locks.many (many c)
    (subst (λ (locks : List LockView). (k : ℕ) → (slice_index_or locks k no_lock).room ≤ (slice_index_or c.reset_all.new.locks k no_lock).room) c.deref_mut.ensures.value c.reset_all.ensures.room)

pub returns-clause-room : goal.returns-clause-room
returns-clause-room c = λ y.
    let after = all_locks (with_items c.self.inside.locks.kept c.reset_all.new.locks).items c.self.inside.locks.many in
    subst (λ (t : List (Option LockView)). room_at t y ≤ room_at (table_of c.self.inside.places.items after) y) c.self.view_is
    (subst (λ (locks : List LockView). room_at (table_of c.self.inside.places.items (locks_in c.self.inside.locks)) y ≤ room_at (table_of c.self.inside.places.items locks) y) (sym (fresh_is c))
    (room_reset c.self.inside.places.items (locks_in c.self.inside.locks) (fresh c) (more c) y))

pub invariant_of-self : goal.invariant_of-self
invariant_of-self c = record {
  table = subst (λ (locks : List LockView). IsTable c.self.inside.places.items locks c.self.inside.listed) (sym (fresh_is c))
      (table_reset c.self.inside.places.items (locks_in c.self.inside.locks) (fresh c) c.args.self.now c.self.inside.listed c.self.view_is (long c) c.self.invariant.table (none c));
  counted = sym (count_free (table_of c.self.inside.places.items (all_locks (with_items c.self.inside.locks.kept c.reset_all.new.locks).items c.self.inside.locks.many)) (returns-clause-free c));
  few = let few = c.self.invariant.few in let long = many c in let is = ap length (items c) in omega arith;
  free = c.self.invariant.free;
}
