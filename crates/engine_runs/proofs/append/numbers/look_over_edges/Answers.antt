-- Pair by pair.
use Rattle.std.proofs.Common.{◌≡◌, arith, length}
use Rattle.engine_runs.specs.append.Inner.Numbers.{PairFits, edge_pair}
use Rattle.engine_runs.proofs.append.Numbering.{all_mapped, all_taken, each_more}
use Rattle.engine_runs.proofs.append.numbers.look_over_edges.Goals as goal

pub loop-pair-preserved : goal.loop-pair-preserved
loop-pair-preserved c = each_more (λ pair. PairFits (edge_pair pair)) c.args.saved.now c.loop-pair.pair-index _ c.loop-pair-test.true c.loop-pair.invariant c.pair_fits.ensures

pub returns : goal.returns
returns c =
    let end : c.loop-pair.pair-index ≡ length c.args.saved.now = omega arith in
    all_mapped PairFits edge_pair c.args.saved.now (all_taken (λ pair. PairFits (edge_pair pair)) c.args.saved.now c.loop-pair.pair-index end c.loop-pair.invariant)
