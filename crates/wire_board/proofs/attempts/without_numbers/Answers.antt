use Rattle.std.proofs.Common.{List, [], ap, append-nil, arith, length, length-append, map, sym, ◌++◌, ◌∙◌, ◌∷◌, ◌≡◌}
use Rattle.std.specs.Vec.Iter.{into_iter_items}
use Rattle.link_tables.proofs.Taking.{nothing_left}
use Rattle.wire_board.proofs.Attempting.{map_next}
use Rattle.wire_board.specs.Attempts.{Member}
use Rattle.wire_board.proofs.attempts.without_numbers.Goals as goal

pub loop-member-preserved : goal.loop-member-preserved
loop-member-preserved g c =
    let at = c.loop-member in
    let rest = into_iter_items c.next.new.self in
    let x = c.in-Some.member in
    let steps : into_iter_items at.member-iterator ≡ x ∷ rest = c.in-Some.ensures.steps.0 in
    let gone = c.in-Some.ensures.steps.1 in
    let short = ap length steps in
    let items = ap length c.push_reserved.ensures.items in
    let longer = length-append at.machines.items (x.machine ∷ []) in
    let capacity = c.push_reserved.ensures.capacity in
    let many = at.invariant.many in
    let room = at.invariant.room in
    record {
      whole = map_next (λ (y : Member g.row.M.Denot). y.machine) at.machines.items x rest c.push_reserved.new.self.items c.push_reserved.ensures.items
          ∙ ap (λ (xs : List (Member g.row.M.Denot)). at.machines.items ++ map (λ y. y.machine) xs) (sym steps) ∙ at.invariant.whole;
      many = omega arith;
      room = omega arith;
    }

pub returns : goal.returns
returns g c =
    let at = c.loop-member in
    let empty : into_iter_items at.member-iterator ≡ [] = nothing_left (into_iter_items at.member-iterator) (sym at.invariant.many ∙ c.in-None.ensures.steps.0) in
    sym (append-nil at.machines.items) ∙ ap (λ (xs : List (Member g.row.M.Denot)). at.machines.items ++ map (λ y. y.machine) xs) (sym empty) ∙ at.invariant.whole
    ∙ ap (λ (xs : List (Member g.row.M.Denot)). map (λ y. y.machine) xs) c.into_iter-member-iterator.ensures.into_iter_gives.0
