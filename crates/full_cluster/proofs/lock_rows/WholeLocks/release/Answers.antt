use Rattle.std.proofs.Common.{◌≡◌, ◌∙◌, ◌+◌, ◌<◌, ◌++◌, [], ◌∷◌, ℕ, List, length, slice_index_or, slice_set, take, sym, subst, arith}
use Rattle.std.proofs.Math.ListN.{length-set}
use Rattle.std.proofs.lemmas.List.{take_more}
use Rattle.gl_base.specs.declared.numbers.Vertex.{Vertex}
use Rattle.full_cluster.specs.WholeLocks.{AreLocksOf, released_of}
use Rattle.full_cluster.proofs.LockRowLemmas.{lock_released}
use Rattle.full_cluster.proofs.lock_rows.WholeLocks.release.Goals as goal

pub loop-pair-preserved : goal.loop-pair-preserved
loop-pair-preserved c =
    let vertices : List (Vertex × ℕ) = c.args.vertices.now in
    let i = c.loop-pair.pair-index in
    let pair : Vertex × ℕ = slice_index_or vertices i (record { 0 = 0 }, 0) in
    let locks = c.loop-pair.self.locks.items in
    let new = c.release.new.self in
    let at = c.requires i (record { 0 = 0 }, 0) c.loop-pair-test.true in
    let long = c.loop-pair.invariant.long in
    let low : pair.0.0 < length locks = omega (arith, at, long) in
    let more : take (i + 1) vertices ≡ take i vertices ++ pair ∷ [] = take_more vertices i (record { 0 = 0 }, 0) c.loop-pair-test.true in
    record {
      long = length-set locks pair.0.0 new ∙ long;
      released = λ holds queue are. subst (λ (pairs : List (Vertex × ℕ)). AreLocksOf (slice_set locks pair.0.0 new) (released_of pairs c.args.scope holds) queue) (sym more)
          (lock_released locks (take i vertices) pair c.index_mut.result.now new c.args.scope holds queue low c.index_mut.ensures.value (c.loop-pair.invariant.released holds queue are) c.release.ensures);
    }
