-- There is room for the machines that the loop has passed.
use Rattle.coordinator.proofs.coord_core.BoxLemmas.{HaveReserved}
use Rattle.coordinator.proofs.coord_core.asking.reserve_each.Given as goal

abbrev pub invariant-loop-machine : goal.invariant-loop-machine
invariant-loop-machine l = HaveReserved l.fn.out l.out l.machine
