use Rattle.std.proofs.Common.{◌≡◌, ◌++◌, None, drop, replicate}
use Rattle.coordinator.proofs.coord_core.stores.forget.Given as goal

abbrev pub invariant-loop-section : goal.invariant-loop-section
invariant-loop-section l = l.come ≡ replicate l.section-index None ++ drop l.section-index l.initial.come
