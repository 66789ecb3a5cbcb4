use Rattle.std.proofs.Common.{length, refl, arith}
use Rattle.graph_core.proofs.RowLemmas.{parts_none}
use Rattle.graph_core.proofs.rows.place_items.Goals as goal

pub loop-low-init : goal.loop-low-init
loop-low-init g c = record {
  rows = parts_none (g.K.Keyed.list c.args.keyed.now) (length (g.K.Keyed.list c.args.keyed.now)) c.args.starts.now c.args.items.now c.requires.ends;
  within = omega arith;
  starts = refl;
  items = refl;
}
