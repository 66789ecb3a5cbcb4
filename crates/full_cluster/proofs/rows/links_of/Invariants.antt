use Rattle.full_cluster.specs.Inner.Rows.{AreLinksSoFar}
use Rattle.full_cluster.proofs.rows.links_of.Given as goal

abbrev pub invariant-loop-half : goal.invariant-loop-half
invariant-loop-half l = AreLinksSoFar l.graph l.halves l.half-index l.links.items
