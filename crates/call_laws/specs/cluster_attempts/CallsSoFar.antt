-- A cluster in the course of a call: the attempts that failed, and what the newest one has made.
use Rattle.std.specs.Prelude.{List, count_by, length, map, ℕ, ◌+◌, ◌≡◌}
use Rattle.gl_base.specs.declared.jobs.FailureAt.{FailureAt}
use Rattle.call_laws.specs.attempts.EngineCalls.{HaveFailed, begins_behind}
use Rattle.cluster_laws.specs.cluster_cuts.Goings.{AreUpdatesFrom}
use Rattle.cluster_laws.specs.cluster_runs.Attempts.{Attempt, Beginning, Shared, done_with, is_reached}
use Rattle.cluster_laws.specs.cluster_core.Cuts.{updates_of}
use Rattle.cluster_laws.specs.cluster_model.Clusters.{Cluster}
use Rattle.cluster_laws.specs.cluster_model.Leading.{Snapshot}
use Rattle.whole_laws.specs.cluster_whole.Logged.{Logged, all_entries, entries_to}

-- how many updates of each vertex snapshot k has
abbrev pub count_to : List Logged → ℕ → ℕ → ℕ
count_to logged k v = updates_of v (entries_to k logged)

-- and so each of these snapshots
abbrev pub counts_of : List Logged → List Snapshot → List (ℕ → ℕ)
counts_of logged snapshots = map (λ (snapshot : Snapshot). count_to logged snapshot.number) snapshots

-- what the newest attempt of a cluster did, where it went on from here
abbrev pub attempt_of : List FailureAt → Beginning → Cluster → List Logged → Attempt
attempt_of failures b c logged =
    record {
      made = all_entries logged;
      kept = counts_of logged c.coordinator.snapshots;
      struck = count_by (is_reached b.done (done_with b (all_entries logged))) failures;
    }

-- Attempts failed, and the cluster goes on where they lead: its base has that order, and its machines and tickets count on from there.
pub record IsCallSoFar (shared : Shared) (b : Beginning) (c : Cluster) (logged : List Logged) (failed : List Attempt) : Type 0 where
  pub have : HaveFailed shared b failed
  pub front : c.base.order ≡ (begins_behind b failed).front
  pub tickets : AreUpdatesFrom (begins_behind b failed).next (all_entries logged)
  pub next : c.next ≡ (begins_behind b failed).next + length (all_entries logged)
  pub done : (a : ℕ) → (c.machine a).done ≡ (begins_behind b failed).done a
