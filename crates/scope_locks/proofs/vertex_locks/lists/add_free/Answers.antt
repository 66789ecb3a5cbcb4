use Rattle.std.proofs.Common.{◌∙◌, ◌+◌, ap, length, arith, ◌++◌, ◌∷◌, [], List}
use Rattle.std.proofs.lemmas.List.{length_push}
use Rattle.scope_locks.specs.vertex_locks.Inner.KeptLists.{all_locks}
use Rattle.scope_locks.specs.vertex_locks.Tables.{no_lock}
use Rattle.scope_locks.specs.vertex_locks.Locks.{LockView}
use Rattle.scope_locks.proofs.vertex_locks.TableLemmas.{all_more}
use Rattle.scope_locks.proofs.vertex_locks.lists.add_free.Goals as goal

pub loop-place-preserved : goal.loop-place-preserved
loop-place-preserved c = record {
  all = λ all within.
      ap (λ (kept : List LockView). all_locks kept all) (c.push_reserved.ensures.items ∙ ap (λ l. c.loop-place.kept.items ++ l ∷ []) c.free.ensures)
      ∙ (all_more c.loop-place.kept.items all (let len = c.loop-place.invariant.len in let test = c.loop-place-test.true in omega arith) ∙ c.loop-place.invariant.all all within);
  len = ap length c.push_reserved.ensures.items ∙ (length_push c.loop-place.kept.items c.free.result ∙ ap (λ n. n + 1) c.loop-place.invariant.len);
  room = let room = c.loop-place.invariant.room in let same = c.push_reserved.ensures.capacity in omega arith;
}
