-- The machines that the loop has passed are told.
use Rattle.coordinator.specs.coord_core.Inner.Words.{word_message}
use Rattle.coordinator.proofs.coord_core.BoxLemmas.{HaveTold}
use Rattle.coordinator.proofs.coord_core.asking.tell_each.Given as goal

abbrev pub invariant-loop-machine : goal.invariant-loop-machine
invariant-loop-machine l = HaveTold l.fn.out l.out (word_message l.word) l.machine
