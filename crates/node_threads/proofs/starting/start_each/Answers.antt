use Rattle.std.proofs.Common.{[], ap, arith, length, length-append, subst, suc, sym, ◌++◌, ◌+◌, ◌-◌, ◌∷◌, ◌≡◌, ℕ}
use Rattle.std.specs.Prelude.{IfOk, Result}
use Rattle.gl_base.specs.declared.memory.NoMemory.{NoMemory}
use Rattle.node_threads.proofs.Turns.{at_board, at_own, down_snoc, from_first, from_last}
use Rattle.node_threads.specs.Nodes.{AllDown, AllFrom, FitsBoard, HasServed, IsAtBoard, NodeSeat}
use Rattle.wire_board.proofs.Attempting.{all_snoc}
use Rattle.node_threads.proofs.starting.start_each.Goals as goal

pub start-requires-clause-fits : goal.start-requires-clause-fits
start-requires-clause-fits g c κs within =
    let represents = g.M.SavingMachine.represents in
    let board = c.args.hall.now.board.now in
    let peers = suc (length c.args.seats.now.items) in
    let rest = c.pop.new.self.items in
    let x = c.in-Some.seat in
    let is : c.loop.seats.items ≡ rest ++ x ∷ [] = c.in-Some.ensures.items in
    let s = from_last (IsAtBoard represents board peers) 0 rest x (subst (AllFrom (IsAtBoard represents board peers) 0) is c.loop.invariant.seats) in
    subst (FitsBoard board c.args.hall.now.failures.now) (sym s.is.peers_are) c.requires.fits

pub start-requires-clause-seat : goal.start-requires-clause-seat
start-requires-clause-seat g c κs within =
    let represents = g.M.SavingMachine.represents in
    let board = c.args.hall.now.board.now in
    let peers = suc (length c.args.seats.now.items) in
    let rest = c.pop.new.self.items in
    let x = c.in-Some.seat in
    let is : c.loop.seats.items ≡ rest ++ x ∷ [] = c.in-Some.ensures.items in
    at_own represents board peers (0 + length rest) x (from_last (IsAtBoard represents board peers) 0 rest x (subst (AllFrom (IsAtBoard represents board peers) 0) is c.loop.invariant.seats))

pub loop-preserved : goal.loop-preserved
loop-preserved g c =
    let at = c.loop in
    let represents = g.M.SavingMachine.represents in
    let board = c.args.hall.now.board.now in
    let n = length c.args.seats.now.items in
    let rest = c.pop.new.self.items in
    let x = c.in-Some.seat in
    let child = c.in-Ok.child in
    let is : at.seats.items ≡ rest ++ x ∷ [] = c.in-Some.ensures.items in
    let all = subst (AllFrom (IsAtBoard represents board (suc n)) 0) is at.invariant.seats in
    let s = from_last (IsAtBoard represents board (suc n)) 0 rest x all in
    let many = at.invariant.many in
    let short = ap length is in
    let shorter = length-append rest (x ∷ []) in
    let long = ap length c.push_reserved.ensures.items in
    let longer = length-append at.children.items (child ∷ []) in
    let number : 0 + length rest ≡ n - length at.children.items - 1 = omega arith in
    let room = at.invariant.room in
    let capacity = c.push_reserved.ensures.capacity in
    let there : IsAtBoard represents board (suc n) (n - length at.children.items - 1) child.promise.seat.value = subst (λ (y : NodeSeat g.row.M.Denot). IsAtBoard represents board (suc n) (n - length at.children.items - 1) y) (sym c.in-Ok.ensures.child)
    (subst (λ (a : ℕ). IsAtBoard represents board (suc n) a x) number s) in
    record {
      children = subst (AllDown (λ a child. IsAtBoard represents board (suc n) a child.promise.seat.value) n) (sym c.push_reserved.ensures.items)
          (down_snoc (λ a child. IsAtBoard represents board (suc n) a child.promise.seat.value) n at.children.items child at.invariant.children there);
      many = omega arith;
      seats = from_first (IsAtBoard represents board (suc n)) 0 rest x all;
      room = omega arith;
    }

pub returns-in_ok-seat-in-Err-clause-seats : goal.returns-in_ok-seat-in-Err-clause-seats
returns-in_ok-seat-in-Err-clause-seats g c =
    let at = c.loop in
    let represents = g.M.SavingMachine.represents in
    let board = c.args.hall.now.board.now in
    let peers = suc (length c.args.seats.now.items) in
    let rest = c.pop.new.self.items in
    let x = c.in-Some.seat in
    let y = c.in_ok-seat-in-Err.field-0 in
    let is : at.seats.items ≡ rest ++ x ∷ [] = c.in-Some.ensures.items in
    let all = subst (AllFrom (IsAtBoard represents board peers) 0) is at.invariant.seats in
    let s = from_last (IsAtBoard represents board peers) 0 rest x all in
    let served : HasServed represents x y = subst (λ (r : Result (NodeSeat g.row.M.Denot) NoMemory). IfOk r (λ s. HasServed represents x s)) c.in_ok-seat-in-Err.was c.in-Err.ensures.back in
    subst (AllFrom (IsAtBoard represents board peers) 0) (sym c.push_reserved-in-Err.ensures.items)
    (all_snoc (IsAtBoard represents board peers) 0 rest y (from_first (IsAtBoard represents board peers) 0 rest x all) (at_board represents board peers (0 + length rest) x y s served))
