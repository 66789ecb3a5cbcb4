use Rattle.std.proofs.Common.{◌++◌, ◌∷◌, List, ℕ, [], ap, sym, ◌∙◌, arith}
use Rattle.local_graph.proofs.BlankLemmas.{along_more}
use Rattle.local_graph.proofs.numbers.fill_blank.Goals as goal

pub loop-side-preserved : goal.loop-side-preserved
loop-side-preserved c =
    let are = c.loop-side.invariant in
    let len = c.push_reserved.ensures.len in
    let capacity = c.push_reserved.ensures.capacity in
    let many = are.many in
    let room = are.room in
    record {
      items = c.push_reserved.ensures.items ∙ (ap (λ (xs : List ℕ). xs ++ 0 ∷ []) are.items ∙ sym (along_more c.args.sides.now c.loop-side._side-index c.loop-side-test.true));
      many = omega arith;
      room = omega arith;
    }
