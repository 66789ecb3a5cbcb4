use Rattle.std.proofs.Common.{slice_index, length-set, ◌∙◌, length, ◌+◌}
use Rattle.full_cluster.specs.Inner.Rows.{nth_half}
use Rattle.full_cluster.proofs.WritingRows.{all_written, one_written}
use Rattle.full_cluster.proofs.rows.write_edges.Goals as goal

pub loop-i-preserved : goal.loop-i-preserved
loop-i-preserved c =
    record {
      long = length-set c.loop-i.edges _ _ ∙ c.loop-i.invariant.long;
      count = c.loop-i.invariant.count;
      written = one_written (λ i. (nth_half c.args.halves.now i).edge.0) (λ i. slice_index c.args.row.now (length c.args.halves.now + i)) (length c.args.halves.now) c.args.edges.now c.loop-i.i c.loop-i.edges c.loop-i-test.true c.loop-i.invariant.long (c.requires.edges c.loop-i.i c.loop-i-test.true) c.loop-i.invariant.written;
    }

pub returns-clause-written : goal.returns-clause-written
returns-clause-written c =
    all_written (λ i. (nth_half c.args.halves.now i).edge.0) (λ i. slice_index c.args.row.now (length c.args.halves.now + i)) (length c.args.halves.now) c.args.edges.now c.loop-i.i c.loop-i.edges c.loop-i-test.false c.loop-i.invariant.written
