use Rattle.std.proofs.Common.{◌≡◌}
use Rattle.local_graph.specs.Inner.AtPlaces.{machines_of}
use Rattle.local_graph.proofs.machines.fill_machines.Given as goal

abbrev pub invariant-loop-a : goal.invariant-loop-a
invariant-loop-a l = l.list.items ≡ machines_of l.me l.a l.sides
