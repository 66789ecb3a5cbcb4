-- Failures of machines, and those that a job orders.
use Rattle.std.specs.List.{AllByRecursion}
use Rattle.std.specs.Prelude.{List, [], count_by, true, ℕ, ◌∷◌, ◌≡◌}
use Rattle.gl_base.specs.declared.jobs.FailureAt.{FailureAt}
use Rattle.cluster_laws.specs.cluster_core.Settings.{Setting}
use Rattle.cluster_laws.specs.cluster_model.Clusters.{BaseView, Cluster}
use Rattle.cluster_laws.specs.cluster_model.Events.{Event, Recover, after_event, failures_in, setting_after}
use Rattle.cluster_laws.specs.cluster_model.Machines.{completed}
use Rattle.cluster_laws.specs.cluster_runs.Attempts.{is_reached}

-- how many updates a machine had made in the call as this attempt began, and how many it has made now
abbrev pub done_before : Cluster → ℕ → ℕ
done_before c a = (c.machine a).done

abbrev pub done_now : Cluster → ℕ → ℕ
done_now c a = completed (c.machine a)

-- a machine that reached the count of a failure in this attempt has made no update more
abbrev pub StopsAtCount : Cluster → FailureAt → Type 0
StopsAtCount c failure = is_reached (done_before c) (done_now c) failure ≡ true → done_now c failure.machine.0 ≡ failure.after

-- As many machines have failed as failures of the job were reached in this attempt, one at least, and each machine stopped there.
pub record FailAsOrdered (st : Setting) (failures : List FailureAt) (c : Cluster) : Type 0 where
  pub struck : failures_in st c ≡ count_by (is_reached (done_before c) (done_now c)) failures
  pub stops : AllByRecursion (StopsAtCount c) failures

-- machines fail as ordered at each recovery among these events, and stop as ordered where they lead to
abbrev pub KeepToJob : Setting → List FailureAt → Cluster → List Event → Type 0
KeepToJob st failures c [] = AllByRecursion (StopsAtCount c) failures
KeepToJob st failures c (event ∷ events) =
    ((base : BaseView) → event ≡ Recover base → FailAsOrdered st failures c) × KeepToJob (setting_after st event) failures (after_event st c event) events
