use Rattle.std.proofs.Common.{List, [], ap, append-nil, arith, length, length-append, rules, sym, ◌++◌, ◌∙◌, ◌∷◌, ◌≡◌}
use Rattle.std.specs.Vec.Iter.{into_iter_items}
use Rattle.link_tables.proofs.Taking.{nothing_left}
use Rattle.wire_board.proofs.Attempting.{number_next}
use Rattle.wire_board.specs.Attempts.{numbered_members}
use Rattle.wire_board.proofs.attempts.with_numbers.Goals as goal

pub loop-machine-preserved : goal.loop-machine-preserved
loop-machine-preserved g c =
    let at = c.loop-machine in
    let rest = into_iter_items c.next.new.self in
    let x = c.in-Some.machine in
    let steps : into_iter_items at.machine-iterator ≡ x ∷ rest = c.in-Some.ensures.steps.0 in
    let gone = c.in-Some.ensures.steps.1 in
    let short = ap length steps in
    let items = ap length c.push_reserved.ensures.items in
    let longer = length-append at.members.items (record { number = c.len-number.result; peers = c.args.peers; machine = x } ∷ []) in
    let capacity = c.push_reserved.ensures.capacity in
    let many = at.invariant.many in
    let room = at.invariant.room in
    record {
      whole = number_next c.args.peers at.members.items c.len-number.result x rest c.push_reserved.new.self.items (let a = c.len-number.ensures in search rules) c.push_reserved.ensures.items
          ∙ ap (λ (xs : List g.row.M.Denot). at.members.items ++ numbered_members c.args.peers (length at.members.items) xs) (sym steps) ∙ at.invariant.whole;
      many = omega arith;
      room = omega arith;
    }

pub returns : goal.returns
returns g c =
    let at = c.loop-machine in
    let empty : into_iter_items at.machine-iterator ≡ [] = nothing_left (into_iter_items at.machine-iterator) (sym at.invariant.many ∙ c.in-None.ensures.steps.0) in
    sym (append-nil at.members.items) ∙ ap (λ (xs : List g.row.M.Denot). at.members.items ++ numbered_members c.args.peers (length at.members.items) xs) (sym empty) ∙ at.invariant.whole
    ∙ ap (λ (xs : List g.row.M.Denot). numbered_members c.args.peers 0 xs) c.into_iter-machine-iterator.ensures.into_iter_gives.0
