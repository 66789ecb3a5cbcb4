-- One section more is counted.
use Rattle.std.proofs.Common.{arith, sym}
use Rattle.coordinator.proofs.coord_core.StoreLemmas.{count_more, none_below, told}
use Rattle.coordinator.proofs.coord_core.stores.count_entries.Goals as goal

pub loop-section-init : goal.loop-section-init
loop-section-init c = record { sum = sym (none_below (told c.args.come.now)); bound = omega arith }

pub loop-section-preserved : goal.loop-section-preserved
loop-section-preserved c =
    record {
      sum = count_more c.args.come.now c.loop-section.section-index c.section-item.result c.loop-section.entries c.count_of.result c.loop-section-test.true c.section-item.is
          c.loop-section.invariant.sum c.count_of.ensures;
      bound = omega arith;
    }
