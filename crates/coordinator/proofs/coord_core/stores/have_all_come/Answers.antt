-- A section is missing, or one more has come.
use Rattle.std.proofs.Common.{rules}
use Rattle.coordinator.proofs.coord_core.StoreLemmas.{all_more, not_all}
use Rattle.coordinator.proofs.coord_core.stores.have_all_come.Goals as goal

pub returns-then-is_none : goal.returns-then-is_none
returns-then-is_none c = (
  (λ is. absurd (cc)),
  (λ all. absurd (not_all c.args.come.now c.loop-section.section-index c.section-item.result c.loop-section-test.true c.section-item.is (search rules) all)),
)

pub loop-section-preserved : goal.loop-section-preserved
loop-section-preserved c =
    all_more c.args.come.now c.loop-section.section-index c.section-item.result c.loop-section-test.true c.section-item.is (search rules) c.loop-section.invariant
