use Rattle.std.proofs.Common.{arith, length, subst, suc, sym, ◌+◌, ◌≡◌, ℕ}
use Rattle.node_threads.specs.Nodes.{AllDown, AllFrom, IsAtBoard}
use Rattle.node_threads.proofs.running.play_there.Goals as goal

pub join_each-requires-clause-children : goal.join_each-requires-clause-children
join_each-requires-clause-children g c =
    let represents = g.M.SavingMachine.represents in
    let board = c.args.hall.now.board.now in
    let n = length c.args.seats.nodes.items in
    let len = c.len-peers.ensures in
    let peers : suc n ≡ c.len-peers.result + 1 = omega (arith, len) in
    let children = c.start_and_lead.new.children.items in
    subst (λ (k : ℕ). AllDown (λ a child. IsAtBoard represents board k a child.promise.seat.value) (length c.start_and_lead.new.seats.nodes.items + length children) children) peers
    (subst (λ (t : ℕ). AllDown (λ a child. IsAtBoard represents board (suc n) a child.promise.seat.value) t children) (sym c.in-Ok.ensures.many) c.start_and_lead.ensures.children)

pub join_each-requires-clause-seats : goal.join_each-requires-clause-seats
join_each-requires-clause-seats g c =
    let n = length c.args.seats.nodes.items in
    let len = c.len-peers.ensures in
    let peers : suc n ≡ c.len-peers.result + 1 = omega (arith, len) in
    subst (λ (k : ℕ). AllFrom (IsAtBoard g.M.SavingMachine.represents c.args.hall.now.board.now k) 0 c.start_and_lead.new.seats.nodes.items) peers c.in-Ok.ensures.nodes
