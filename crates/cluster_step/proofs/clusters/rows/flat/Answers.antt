use Rattle.std.proofs.Common.{◌≡◌, ◌∷◌, ◌++◌, List, length, sym, ap, ◌∙◌, arith, append_assoc}
use Rattle.std.specs.Global.{Vec}
use Rattle.std.specs.List.{flat_map}
use Rattle.std.specs.Vec.Iter.{into_iter_items}
use Rattle.cluster_step.proofs.clusters.rows.flat.Goals as goal

pub loop-row-preserved : goal.loop-row-preserved
loop-row-preserved g c =
    let at = c.loop-row in
    let rest = into_iter_items c.next.new.self in
    let x = c.in-Some.row in
    let steps : into_iter_items at.row-iterator ≡ x ∷ rest = c.in-Some.ensures.steps.0 in
    let gone = c.in-Some.ensures.steps.1 in
    let short = ap length steps in
    let many = at.invariant.many in
    record {
      whole = ap (λ (xs : List g.row.T.Denot). xs ++ flat_map (λ row. row.items) rest) c.in_ok-append.ensures ∙ append_assoc at.list.items x.items (flat_map (λ row. row.items) rest) ∙ ap (λ (xs : List (Vec g.row.T.Denot)). at.list.items ++ flat_map (λ row. row.items) xs) (sym steps) ∙ at.invariant.whole;
      many = omega arith;
    }
