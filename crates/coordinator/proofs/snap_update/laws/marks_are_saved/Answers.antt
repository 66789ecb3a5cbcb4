use Rattle.coordinator.proofs.snap_update.Saving.{marks_follow}
use Rattle.coordinator.proofs.snap_update.laws.marks_are_saved.Goals as goal

pub returns : goal.returns
returns c = marks_follow
