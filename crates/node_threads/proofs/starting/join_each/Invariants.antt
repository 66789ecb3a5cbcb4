use Rattle.std.proofs.Common.{◌≡◌, ◌+◌, length}
use Rattle.std.specs.Prelude.{OnOk}
use Rattle.node_threads.specs.Nodes.{AllDown, AllFrom, IsAtBoard}
use Rattle.node_threads.proofs.starting.join_each.Given as goal

abbrev pub invariant-loop : goal.invariant-loop
invariant-loop g l = record {
  children : AllDown (λ a child. IsAtBoard g.M.SavingMachine.represents l._hall.board.now l._peers a child.promise.seat.value) (length l.fn.seats.items + length l.fn.children.items) l.children.items;
  many : OnOk l.all (length l.seats.items + length l.children.items ≡ length l.fn.seats.items + length l.fn.children.items);
  seats : OnOk l.all (AllFrom (IsAtBoard g.M.SavingMachine.represents l._hall.board.now l._peers) 0 l.seats.items);
  count : l.counter + length l.children.items ≡ length l.fn.children.items;
}
