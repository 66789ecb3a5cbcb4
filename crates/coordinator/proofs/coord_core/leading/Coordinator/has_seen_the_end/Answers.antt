-- The waves have shown the end.
use Rattle.coordinator.proofs.coord_core.SavingLemmas.{end_seen}
use Rattle.coordinator.proofs.coord_core.leading.Coordinator.has_seen_the_end.Goals as goal

pub returns : goal.returns
returns c = λ yes. end_seen c.args.self.now (c.is_quiet.ensures.0 yes)
