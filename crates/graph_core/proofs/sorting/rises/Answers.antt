use Rattle.std.proofs.Common.{◌-◌, ◌<◌, arith}
use Rattle.std.proofs.lemmas.List.Elements.{pair_read}
use Rattle.graph_core.proofs.SortLemmas.{rises_more, rises_all}
use Rattle.graph_core.proofs.sorting.rises.Goals as goal

pub loop-k-preserved : goal.loop-k-preserved
loop-k-preserved g c =
    rises_more g.T.HasKey.key c.args.items.now c.loop-k.k c.loop-k.invariant (omega arith) (omega arith) (pair_read c.args.items.now (λ x y. g.T.HasKey.key x < g.T.HasKey.key y) (c.loop-k.k - 1) c.loop-k.k c.index-items-k.result c.index-items-k-in-loop-k.result (omega arith) (omega arith) c.index-items-k.is c.index-items-k-in-loop-k.is (omega (arith, c.key.ensures, c.key-in-loop-k.ensures)))

pub returns : goal.returns
returns g c = rises_all g.T.HasKey.key c.args.items.now c.loop-k.k c.loop-k.invariant (omega arith)
