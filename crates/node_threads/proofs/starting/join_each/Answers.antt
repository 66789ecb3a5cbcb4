use Rattle.std.proofs.Common.{[], ap, arith, length, length-append, rules, subst, sym, ◌++◌, ◌+◌, ◌-◌, ◌∷◌, ◌≡◌, ℕ}
use Rattle.node_threads.proofs.Turns.{at_board, down_first, down_last, on_both, on_ok}
use Rattle.node_threads.specs.Nodes.{AllDown, AllFrom, IsAtBoard}
use Rattle.wire_board.proofs.Attempting.{all_snoc}
use Rattle.node_threads.proofs.starting.join_each.Goals.{else-loop-test, then-loop-test+in_default}
use Rattle.node_threads.proofs.starting.join_each.Goals as goal

pub loop-preserved : goal.loop-preserved
loop-preserved g c =
    let at = c.loop in
    let represents = g.M.SavingMachine.represents in
    let board = c.args._hall.now.board.now in
    let peers = c.args._peers in
    let total = length c.args.seats.now.items + length c.args.children.items in
    let rest = c.pop.new.self.items in
    let x = c.in-Some.child in
    let is : at.children.items ≡ rest ++ x ∷ [] = c.in-Some.ensures.items in
    let all = subst (AllDown (λ a child. IsAtBoard represents board peers a child.promise.seat.value) total) is at.invariant.children in
    let last = down_last (λ a child. IsAtBoard represents board peers a child.promise.seat.value) total rest x all in
    let short = ap length is in
    let shorter = length-append rest (x ∷ []) in
    let count = at.invariant.count in
    record {
      children = down_first (λ a child. IsAtBoard represents board peers a child.promise.seat.value) total rest x all;
      many = on_both c.both-all.result at.all c.join_one.result c.both-all.ensures at.invariant.many at.invariant.seats c.join_one.ensures
          (λ m s y. let long = ap length y.2 in let longer = length-append at.seats.items (y.0 ∷ []) in omega arith);
      seats = on_both c.both-all.result at.all c.join_one.result c.both-all.ensures at.invariant.many at.invariant.seats c.join_one.ensures
          (λ m s y.
          let number : total - length rest - 1 ≡ 0 + length at.seats.items = omega arith in
          subst (AllFrom (IsAtBoard represents board peers) 0) (sym y.2)
          (all_snoc (IsAtBoard represents board peers) 0 at.seats.items y.0 s
          (at_board represents board peers (0 + length at.seats.items) x.promise.seat.value y.0 (subst (λ (a : ℕ). IsAtBoard represents board peers a x.promise.seat.value) number last) y.1)));
      count = omega arith;
    }

pub returns-clause-many : goal.returns-clause-many
returns-clause-many g c =
    let none : length c.loop.children.items ≡ 0 = elim c.loop-test.branch [ else-loop-test w ↦ search rules | then-loop-test+in_default w ↦ search rules ] in
    on_ok c.loop.all c.loop.invariant.many (λ m. omega arith)
