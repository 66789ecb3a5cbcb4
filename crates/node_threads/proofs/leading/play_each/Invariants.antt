use Rattle.std.proofs.Common.{◌≡◌, length}
use Rattle.node_threads.specs.Nodes.{AllFrom, IsAtBoard}
use Rattle.node_threads.proofs.leading.play_each.Given as goal

abbrev pub invariant-loop-a : goal.invariant-loop-a
invariant-loop-a g l = record {
  many : length l.seats.items ≡ length l.fn.seats.items;
  seats : AllFrom (IsAtBoard g.M.SavingMachine.represents l.board l._peers) 0 l.seats.items;
}
