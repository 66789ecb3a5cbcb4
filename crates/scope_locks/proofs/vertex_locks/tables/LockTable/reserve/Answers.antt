use Rattle.std.proofs.Common.{◌≡◌, ◌≤◌, ◌<◌, ◌∙◌, List, Option, ap, sym, subst, slice_set, length, arith}
use Rattle.std.proofs.lemmas.Result.{on_ok_weaker}
use Rattle.scope_locks.specs.vertex_locks.Inner.KeptLocks.{SameClaims}
use Rattle.scope_locks.specs.vertex_locks.Locks.{LockView}
use Rattle.scope_locks.specs.vertex_locks.Tables.{lock_at, room_at, HasRoomFor, table_of}
use Rattle.std.proofs.Math.ListN.{length-set}
use Rattle.scope_locks.specs.vertex_locks.Inner.KeptLists.{all_locks, locks_in}
use Rattle.scope_locks.proofs.vertex_locks.TableLemmas.{IsWritten, is_written, all_many, is_within, many_set, lock-here, has_room}
use Rattle.scope_locks.proofs.vertex_locks.CountLemmas.{claims_same, counted_same}
use Rattle.scope_locks.proofs.vertex_locks.ListedLemmas.{made_more, table_room}
use Rattle.scope_locks.specs.declared.vertex_locks.lists.LockList.{LockList}
use Rattle.scope_locks.specs.vertex_locks.Inner.KeptTables.{IsTable, count_claimed}
use Rattle.scope_locks.proofs.vertex_locks.tables.LockTable.reserve.Goals as goal

pub make-requires : goal.make-requires
make-requires c = record {
  within =
      let w = is_within c.self.inside.places.items (locks_in c.self.inside.locks) c.args.self.now c.args.x.0 c.index.result.now c.self.view_is c.requires c.index.ensures in
      let n = all_many c.self.inside.locks.kept.items c.self.inside.locks.many c.self.invariant.few in
      omega arith;
  few = c.self.invariant.few;
}

after : (c : goal.After-self-1) → List LockView
after c = all_locks (slice_set c.make.new.self.kept.items c.index.result.now c.reserve.new.self) c.make.new.self.many

seen : (c : goal.After-self-1) → table_of c.self.inside.places.items (locks_in c.make.new.self) ≡ c.args.self.now
seen c = ap (table_of c.self.inside.places.items) c.make.ensures.all ∙ c.self.view_is

kept : (c : goal.After-self-1) → IsTable c.self.inside.places.items (locks_in c.make.new.self) c.self.inside.listed
kept c = subst (λ (locks : List LockView). IsTable c.self.inside.places.items locks c.self.inside.listed) (sym c.make.ensures.all) c.self.invariant.table

inside : (c : goal.After-self-1) → c.index.result.now < length c.make.new.self.kept.items
inside c = c.in_ok-make.ensures.kept

written : (c : goal.After-self-1) → IsWritten c.self.inside.places.items c.args.self.now c.args.x.0 c.index_mut.result.now (after c) c.reserve.new.self
unfolding after
written c = is_written c.self.inside.places.items c.make.new.self.kept.items c.make.new.self.many c.args.self.now c.args.x.0 c.index.result.now c.index_mut.result.now c.reserve.new.self (seen c) c.requires (kept c).apart c.index.ensures (inside c) c.index_mut.ensures.value

pub returns-clause-room : goal.returns-clause-room
unfolding after
returns-clause-room c =
    let table = c.args.self.now in
    let x = c.args.x.0 in
    let w = written c in
    on_ok_weaker c.reserve.result
    (λ (some : 0 < c.reserve.new.self.room).
    subst (λ (t : List (Option LockView)). 0 < room_at t x) (sym w.new)
    (subst (λ (k : LockView). 0 < k.room) (sym (lock-here table x c.reserve.new.self w.owned)) some))
    c.reserve.ensures.room

pub returns-clause-same : goal.returns-clause-same
unfolding after
returns-clause-same c =
    let table = c.args.self.now in
    let x = c.args.x.0 in
    let w = written c in
    let more : (lock_at table x).room ≤ c.reserve.new.self.room = subst (λ (k : LockView). k.room ≤ c.reserve.new.self.room) w.old c.reserve.ensures.more in
    let same : SameClaims (lock_at table x) c.reserve.new.self = subst (λ (k : LockView). SameClaims k c.reserve.new.self) w.old c.reserve.ensures.same in
    subst (λ (t : List (Option LockView)). HasRoomFor table t x) (sym w.new) (has_room table x c.reserve.new.self w.owned more same)

pub invariant_of-self : goal.invariant_of-self
invariant_of-self c = made_more c.self.inside.places.items c.self.inside.locks c.make.new.self c.self.inside.listed c.self.inside.claimed c.make.ensures.all c.make.ensures.few (ap (λ (l : LockList). l.free) c.make.ensures.rest) c.self.invariant

pub invariant_of-self-2 : goal.invariant_of-self-2
unfolding after
invariant_of-self-2 c = record {
  table = table_room c.self.inside.places.items (locks_in c.make.new.self) (after c) c.args.self.now c.self.inside.listed (seen c) (many_set c.make.new.self.kept.items c.make.new.self.many c.index.result.now c.reserve.new.self (inside c)) (kept c) c.args.x.0 (returns-clause-same c);
  counted = counted_same c.self.inside.places.items (locks_in c.make.new.self) (after c) c.args.self.now (seen c) c.args.x.0 c.index_mut.result.now c.reserve.new.self (written c)
      c.self.inside.claimed (c.self.invariant.counted ∙ sym (ap (λ (locks : List LockView). count_claimed (table_of c.self.inside.places.items locks)) c.make.ensures.all)) (claims_same c.index_mut.result.now c.reserve.new.self c.reserve.ensures.same);
  few = omega (arith, c.make.ensures.few, length-set c.make.new.self.kept.items c.index.result.now c.reserve.new.self);
  free = ap (λ (l : LockList). l.free) c.make.ensures.rest ∙ c.self.invariant.free;
}
