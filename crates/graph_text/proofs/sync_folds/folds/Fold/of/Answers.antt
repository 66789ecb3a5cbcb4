use Rattle.std.proofs.Common.{rules, ◌^◌, ◌≤◌, ◌∙◌, ap, arith}
use Rattle.graph_text.specs.declared.sync_folds.folds.Fold.{Fold}
use Rattle.graph_text.proofs.sync_folds.FoldLemmas.{fold_of-reached, fold_of-passed, reached-le, sum-le}
use Rattle.graph_text.proofs.sync_folds.folds.Fold.of.Goals.{then-reached, else-reached}
use Rattle.graph_text.proofs.sync_folds.folds.Fold.of.Goals as goal

pub overflow_add-fold : goal.overflow_add-fold
overflow_add-fold c =
    let e : c.loop-value.fold.reached ≤ c.loop-value.value-index = rw c.loop-value.invariant (reached-le c.args.values.now c.loop-value.value-index) in
    search rules

pub overflow_add-fold-then-reached : goal.overflow_add-fold-then-reached
overflow_add-fold-then-reached c =
    let e = ap (λ (f : Fold). f.sum) c.loop-value.invariant in
    let b = sum-le c.args.values.now c.loop-value.value-index (2 ^ 64) (λ k. let h = c.type_inv.values k in omega (arith, h)) in
    omega (arith, e, b, c.from.ensures, c.type_inv.values c.loop-value.value-index)

pub loop-value-preserved : goal.loop-value-preserved
loop-value-preserved c =
    let xs = c.args.values.now in
    let i = c.loop-value.value-index in
    elim c.if-reached.branch [
      | then-reached w ↦ w.fold-is ∙ fold_of-reached xs i w.from.result w.max.result c.loop-value.fold c.loop-value-test.true w.if-reached.true w.from.ensures w.max.ensures c.loop-value.invariant
      | else-reached w ↦ w.fold-is ∙ fold_of-passed xs i c.loop-value.fold c.loop-value-test.true w.if-reached.false c.loop-value.invariant
    ]
