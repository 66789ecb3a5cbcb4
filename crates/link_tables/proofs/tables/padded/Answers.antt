use Rattle.std.proofs.Common.{◌≡◌, ◌∷◌, ◌++◌, [], List, length, sym, ap, ◌∙◌, arith, length-append, append_assoc, append-nil}
use Rattle.std.specs.Vec.Iter.{into_iter_items}
use Rattle.link_tables.proofs.Taking.{nothing_left}
use Rattle.link_tables.proofs.tables.padded.Goals as goal

pub loop-link-preserved : goal.loop-link-preserved
loop-link-preserved g c =
    let at = c.loop-link in
    let rest = into_iter_items c.next.new.self in
    let x = c.in-Some.link in
    let steps : into_iter_items at.link-iterator ≡ x ∷ rest = c.in-Some.ensures.steps.0 in
    let gone = c.in-Some.ensures.steps.1 in
    let short = ap length steps in
    let pushed : c.push_reserved.new.self.items ≡ at.slots.items ++ x ∷ [] = c.push_reserved.ensures.items ∙ ap (λ (y : g.row.Q.Denot). at.slots.items ++ y ∷ []) c.new.ensures in
    let items = ap length pushed in
    let longer = length-append at.slots.items (x ∷ []) in
    let capacity = c.push_reserved.ensures.capacity in
    let many = at.invariant.many in
    let room = at.invariant.room in
    record {
      whole = ap (λ (xs : List g.row.Q.Denot). xs ++ rest) pushed ∙ append_assoc at.slots.items (x ∷ []) rest ∙ ap (λ (xs : List g.row.Q.Denot). at.slots.items ++ xs) (sym steps) ∙ at.invariant.whole;
      many = omega arith;
      room = omega arith;
    }

pub returns : goal.returns
returns g c =
    let at = c.loop-link in
    let empty : into_iter_items at.link-iterator ≡ [] = nothing_left (into_iter_items at.link-iterator) (sym at.invariant.many ∙ c.in-None.ensures.steps.0) in
    sym (append-nil at.slots.items) ∙ ap (λ (xs : List g.row.Q.Denot). at.slots.items ++ xs) (sym empty) ∙ at.invariant.whole ∙ c.into_iter-link-iterator.ensures.into_iter_gives.0
