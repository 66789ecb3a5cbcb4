use Rattle.std.proofs.Common.{◌≡◌, map, take}
use Rattle.graph_core.specs.HalfRows.{data_half}
use Rattle.seq_run.specs.Inner.ListedLinks.{link_half}
use Rattle.seq_run.proofs.listed_links.list_links.Given as goal

abbrev pub invariant-loop-half : goal.invariant-loop-half
invariant-loop-half l = map link_half l.row.items ≡ map data_half (take l.half-index l.halves)
