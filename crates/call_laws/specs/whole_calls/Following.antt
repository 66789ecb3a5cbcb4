-- What the code that lets machines fail owes to the failures that a job orders.
use Rattle.std.specs.List.{AllByRecursion, list_any}
use Rattle.std.specs.Prelude.{Bool, List, [], false, nat_le, nat_lt, true, ℕ, ⊤, ◌&&◌, ◌<◌, ◌==◌, ◌∷◌, ◌≡◌, ◌≢◌, ◌≤◌}
use Rattle.gl_base.specs.declared.jobs.FailureAt.{FailureAt}
use Rattle.call_laws.specs.cluster_attempts.Failures.{done_before, done_now}
use Rattle.cluster_laws.specs.cluster_core.Settings.{Setting}
use Rattle.cluster_laws.specs.cluster_model.Clusters.{Cluster}
use Rattle.cluster_laws.specs.cluster_model.Events.{DeliverCall, Event, Fail, Recover, Update, after_event, setting_after}

-- ---- the failures of a job

-- no two of these failures are the same
abbrev pub AreDifferent : List FailureAt → Type 0
AreDifferent [] = ⊤
AreDifferent (failure ∷ failures) = AllByRecursion (λ (other : FailureAt). failure ≢ other) failures × AreDifferent failures

-- Failures that a job may order: each is of one of its machines and comes behind one update at least, and no two are the same.
pub record AreJobFailures (machines : ℕ) (failures : List FailureAt) : Type 0 where
  pub owned : AllByRecursion (λ (failure : FailureAt). failure.machine.0 < machines) failures
  pub counts : AllByRecursion (λ (failure : FailureAt). 1 ≤ failure.after) failures
  pub different : AreDifferent failures

-- machine a, which had made so many updates before, has reached the count of a failure with those that it has made now
abbrev pub reaches : List FailureAt → ℕ → ℕ → ℕ → Bool
reaches failures a before now = list_any (λ (failure : FailureAt). (failure.machine.0 == a) && (nat_lt before failure.after && nat_le failure.after now)) failures

-- it has reached one in this attempt
abbrev pub has_reached : List FailureAt → Cluster → ℕ → Bool
has_reached failures c a = reaches failures a (done_before c a) (done_now c a)

-- ---- what is owed

-- A machine that has reached the count of a failure makes no update and hears nothing of the coordinator; no other machine fails; and
-- all go back where each that has reached one has failed.
abbrev pub FollowsJob : Setting → List FailureAt → Cluster → Event → Type 0
FollowsJob st failures c (Update s) = has_reached failures c s.home.0 ≡ false
FollowsJob st failures c (DeliverCall a) = has_reached failures c a ≡ false
FollowsJob st failures c (Fail a) = has_reached failures c a ≡ true
FollowsJob st failures c (Recover base) = (a : ℕ) → a < st.machines → has_reached failures c a ≡ true → (c.machine a).failed ≡ true
FollowsJob st failures c event = ⊤

-- each of these events follows the job
abbrev pub FollowJob : Setting → List FailureAt → Cluster → List Event → Type 0
FollowJob st failures c [] = ⊤
FollowJob st failures c (event ∷ events) = FollowsJob st failures c event × FollowJob (setting_after st event) failures (after_event st c event) events
