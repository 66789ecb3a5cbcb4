use Rattle.cluster_step.proofs.clusters.Flatten.{row_left}
use Rattle.std.specs.Vec.Iter.{into_iter_items}
use Rattle.std.proofs.Common.{length, rules}
use Rattle.cluster_step.proofs.clusters.rows.in_rows.Goals as goal

pub take_row-requires-clause-width : goal.take_row-requires-clause-width
take_row-requires-clause-width g c = row_left c.loop.counter c.args.many c.args.width (length (into_iter_items c.loop.rest)) (search rules) c.loop.invariant.left
