use Rattle.std.proofs.Common.{◌≡◌, ◌≤◌, ◌+◌, length, suc, vec_capacity}
use Rattle.node_threads.specs.Nodes.{AllDown, AllFrom, IsAtBoard}
use Rattle.node_threads.proofs.starting.start_each.Given as goal

abbrev pub invariant-loop : goal.invariant-loop
invariant-loop g l = record {
  children : AllDown (λ a child. IsAtBoard g.M.SavingMachine.represents l.hall.board.now (suc (length l.fn.seats.items)) a child.promise.seat.value) (length l.fn.seats.items) l.children.items;
  many : length l.seats.items + length l.children.items ≡ length l.fn.seats.items;
  seats : AllFrom (IsAtBoard g.M.SavingMachine.represents l.hall.board.now (suc (length l.fn.seats.items))) 0 l.seats.items;
  room : length l.fn.seats.items ≤ vec_capacity l.children;
}
