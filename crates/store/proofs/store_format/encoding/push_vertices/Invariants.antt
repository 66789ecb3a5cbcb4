use Rattle.std.proofs.Common.{◌≡◌, ◌++◌, take}
use Rattle.std.specs.List.{flat_map}
use Rattle.store.specs.store_format.Encoding.{saved_vertex}
use Rattle.store.proofs.store_format.encoding.push_vertices.Given as goal

abbrev pub invariant-loop-pair : goal.invariant-loop-pair
invariant-loop-pair l = l.bytes.items ≡ l.initial.bytes.items ++ flat_map saved_vertex (take l.pair-index l.saved)
