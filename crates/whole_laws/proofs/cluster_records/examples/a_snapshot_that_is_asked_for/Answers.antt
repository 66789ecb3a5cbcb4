-- By computation.
use Rattle.whole_laws.proofs.cluster_records.PairSaved.{again_may, asked_then, not_now, saved_then, saves_may, updates_may}
use Rattle.whole_laws.proofs.cluster_records.examples.a_snapshot_that_is_asked_for.Goals as goal

pub returns-clause-updates : goal.returns-clause-updates
returns-clause-updates c = updates_may

pub returns-clause-asked : goal.returns-clause-asked
returns-clause-asked c = asked_then

pub returns-clause-not_now : goal.returns-clause-not_now
returns-clause-not_now c = not_now

pub returns-clause-saves : goal.returns-clause-saves
returns-clause-saves c = saves_may

pub returns-clause-saved : goal.returns-clause-saved
returns-clause-saved c = saved_then

pub returns-clause-again : goal.returns-clause-again
returns-clause-again c = again_may
