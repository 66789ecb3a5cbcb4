-- One section more is gone.
use Rattle.std.proofs.Common.{◌≡◌, ◌<◌, None, arith, length}
use Rattle.coordinator.proofs.coord_core.StoreLemmas.{all_forgotten, forget_more}
use Rattle.coordinator.proofs.coord_core.stores.forget.Goals as goal

pub loop-section-preserved : goal.loop-section-preserved
loop-section-preserved c =
    let inside : c.loop-section.section-index < length c.args.come.now = omega arith in
    forget_more c.args.come.now c.loop-section.come c.loop-section.section-index None inside c.loop-section.invariant

pub returns : goal.returns
returns c =
    let all : c.loop-section.section-index ≡ length c.args.come.now = omega arith in
    all_forgotten c.args.come.now c.loop-section.come c.loop-section.section-index all c.loop-section.invariant
