use Rattle.std.proofs.Common.{◌≡◌, take}
use Rattle.local_graph.specs.Played.{numbers_of}
use Rattle.local_graph.specs.Inner.AtPlaces.{scope_numbers}
use Rattle.local_graph.proofs.scopes.list_among.Given as goal

abbrev pub invariant-loop-x : goal.invariant-loop-x
invariant-loop-x l = numbers_of l.list.items ≡ scope_numbers (take l.x-index l.owned) l.v.0 l.sides
