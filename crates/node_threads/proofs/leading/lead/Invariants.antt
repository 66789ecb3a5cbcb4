use Rattle.std.proofs.Common.{◌≡◌, length, suc}
use Rattle.node_threads.specs.Nodes.{AllFrom, IsAtBoard, LeadsBoard}
use Rattle.node_threads.proofs.leading.lead.Given as goal

abbrev pub invariant-loop : goal.invariant-loop
invariant-loop g l = record {
  first : LeadsBoard l.board l.fn.first.lead.number l.first;
  many : length l.seats.items ≡ length l.fn.seats.items;
  seats : AllFrom (IsAtBoard g.M.SavingMachine.represents l.board (suc l.fn.first.lead.number)) 0 l.seats.items;
}
