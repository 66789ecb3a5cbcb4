use Rattle.std.proofs.Common.{◌+◌, add-one, arith}
use Rattle.std.proofs.lemmas.List.{with_items_is}
use Rattle.graph_core.proofs.RowLemmas.{counts_fit, sum_counts}
use Rattle.graph_core.proofs.rows.row_ends.Goals as goal

pub sum_up-requires : goal.sum_up-requires
sum_up-requires g c =
    omega (arith, counts_fit c.count_keys.new.starts (g.K.Keyed.list c.args.keyed.now) c.count_keys.ensures)

pub returns-clause-ends : goal.returns-clause-ends
returns-clause-ends g c = λ k l.
    let same = with_items_is c.in_ok-counts.counts c.sum_up.new.starts (omega arith) in
    let sums = sum_counts c.count_keys.new.starts (g.K.Keyed.list c.args.keyed.now) c.count_keys.ensures (k + 1) (omega (arith, l, c.in_ok-counts.ensures.len)) in
    let ends = rw add-one at sums in
    rw (same, c.sum_up.ensures k (omega (arith, l, c.in_ok-counts.ensures.len)), add-one k) ends
