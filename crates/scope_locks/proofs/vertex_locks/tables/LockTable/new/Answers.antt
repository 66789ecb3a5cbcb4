use Rattle.std.proofs.Common.{ℕ, List, ◌≡◌, ◌∙◌, get_or, sym, ap, length, replicate, slice_index_or, refl, arith, subst}
use Rattle.std.proofs.lemmas.List.{get_or_default, length-replicate}
use Rattle.gl_base.specs.declared.numbers.Vertex.{Vertex}
use Rattle.scope_locks.specs.vertex_locks.Locks.{LockView}
use Rattle.scope_locks.specs.vertex_locks.Tables.{no_lock, table_of}
use Rattle.scope_locks.proofs.vertex_locks.TableLemmas.{free_in}
use Rattle.scope_locks.proofs.vertex_locks.MakingLemmas.{made_apart, made_owned, set_more, unclaimed}
use Rattle.scope_locks.proofs.vertex_locks.CountLemmas.{count_free}
use Rattle.scope_locks.proofs.vertex_locks.ListedLemmas.{table_made}
use Rattle.scope_locks.specs.vertex_locks.Inner.KeptLists.{locks_in}
use Rattle.scope_locks.specs.vertex_locks.Inner.KeptTables.{IsFree}
use Rattle.scope_locks.proofs.vertex_locks.tables.LockTable.new.Goals as goal

long : (c : goal.After-free) → length (locks_in c.free.result) ≡ c.loop-place.place
long c = ap length c.free.ensures.all ∙ (length-replicate (length c.args.owned.now) no_lock ∙ omega arith)

none : (c : goal.After-free) → (k : ℕ) → IsFree (slice_index_or (locks_in c.free.result) k no_lock)
none c k = subst IsFree (sym (ap (λ (locks : List LockView). slice_index_or locks k no_lock) c.free.ensures.all ∙ free_in (length c.args.owned.now) k)) (refl, refl)

pub invariant_of-result : goal.invariant_of-result
invariant_of-result c =
    let owned = c.args.owned.now in
    let places = c.loop-place.places.items in
    let locks = locks_in c.free.result in
    let made = c.loop-place.invariant in
    let apart = made_apart owned c.args.count c.loop-place.place places locks (long c) made in
    record {
      table = table_made places locks c.in_ok-listed.listed apart (c.in_ok-listed.ensures.count ∙ sym made.many) (none c) c.in_ok-listed.ensures.none;
      counted = sym (count_free (table_of places locks) (unclaimed places locks (none c)));
      few = c.free.ensures.few;
      free = c.free.ensures.free;
    }

pub returns-clause-owned : goal.returns-clause-owned
returns-clause-owned c = made_owned c.args.owned.now c.args.count c.loop-place.place c.loop-place.places.items (locks_in c.free.result) (long c) c.loop-place.invariant (omega arith) c.requires.below

pub returns-clause-free : goal.returns-clause-free
returns-clause-free c = unclaimed c.loop-place.places.items (locks_in c.free.result) (none c)

pub loop-place-preserved : goal.loop-place-preserved
loop-place-preserved c =
    let owned = c.args.owned.now in
    let place = c.loop-place.place in
    let zero : Vertex = record { 0 = 0 } in
    let vertex = get_or owned place zero in
    let within = c.loop-place-test.true in
    set_more owned c.args.count place c.loop-place.places.items vertex c.loop-place.invariant (get_or_default owned place zero vertex within) within c.requires.few
    (omega (arith, c.ranges.count.fits)) (c.requires.below place zero within)
