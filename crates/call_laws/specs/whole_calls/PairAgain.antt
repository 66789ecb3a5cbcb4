-- Two vertices on one machine with a window of 1, and a job that orders the machine's failure at its second update: a snapshot has the
-- first update, the second one is lost, and all go back.
use Rattle.std.specs.Prelude.{List, [], ◌++◌, ◌∷◌}
use Rattle.gl_base.specs.declared.entries.Entry.TheVariants.{Restart}
use Rattle.gl_base.specs.declared.jobs.FailureAt.{FailureAt}
use Rattle.call_laws.specs.attempts.OneFailure.{fails_at_two}
use Rattle.cluster_laws.specs.cluster_model.Clusters.{BaseView, Cluster}
use Rattle.cluster_laws.specs.cluster_model.Events.{Admit, Event, Fail, Recover, Update, newest_of, recovers}
use Rattle.whole_laws.specs.cluster_records.LineOfFour.{after_events}
use Rattle.whole_laws.specs.cluster_records.LonePair.{pair_alone, pair_entry, pair_saved, pair_saves, pair_scope, pair_updates}

-- the job's failures
abbrev pub pair_failures : List FailureAt
pair_failures = fails_at_two ∷ []

-- vertex 2 is updated
abbrev pub pair_second : List Event
pair_second = Admit 0 1 ∷ Update (pair_scope 3) ∷ []

-- where that leads
abbrev pub pair_twice : Cluster
pair_twice = after_events pair_alone pair_second pair_saved

-- and the machine has failed
abbrev pub pair_failed : Cluster
pair_failed = after_events pair_alone (Fail 0 ∷ []) pair_twice

-- what all go back to: the snapshot, and a restart
abbrev pub pair_kept : BaseView
pair_kept = record { number = 1; order = pair_entry ∷ Restart 2 ∷ []; numbers = newest_of pair_alone pair_saved.coordinator.snapshots pair_alone.start }

-- all of it
abbrev pub pair_trace : List Event
pair_trace = pair_updates ++ (pair_saves ++ (pair_second ++ (Fail 0 ∷ Recover pair_kept ∷ [])))

-- where the next attempt begins
abbrev pub pair_again : Cluster
pair_again = recovers pair_alone pair_kept pair_failed
