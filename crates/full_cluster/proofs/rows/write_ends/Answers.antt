use Rattle.std.proofs.Common.{slice_index, length-set, ◌∙◌, length}
use Rattle.full_cluster.specs.Inner.Rows.{nth_half}
use Rattle.full_cluster.proofs.WritingRows.{all_written, one_written}
use Rattle.full_cluster.proofs.rows.write_ends.Goals as goal

pub loop-i-preserved : goal.loop-i-preserved
loop-i-preserved c =
    record {
      long = length-set c.loop-i.numbers _ _ ∙ c.loop-i.invariant.long;
      written = one_written (λ i. (nth_half c.args.halves.now i).other.0) (slice_index c.args.row.now) (length c.args.halves.now) c.args.numbers.now c.loop-i.i c.loop-i.numbers c.loop-i-test.true c.loop-i.invariant.long (c.requires.ends c.loop-i.i c.loop-i-test.true) c.loop-i.invariant.written;
    }

pub returns-clause-written : goal.returns-clause-written
returns-clause-written c =
    all_written (λ i. (nth_half c.args.halves.now i).other.0) (slice_index c.args.row.now) (length c.args.halves.now) c.args.numbers.now c.loop-i.i c.loop-i.numbers c.loop-i-test.false c.loop-i.invariant.written
