-- What the coordinator and the machines tell each other of snapshots, and what each relies on where it comes.
use Rattle.std.specs.List.{AllByRecursion}
use Rattle.std.specs.Prelude.{List, None, [], length, suc, ℕ, ⊤, ◌+◌, ◌<◌, ◌∷◌, ◌≡◌, ◌≤◌, ◌⊎◌}
use Rattle.cluster_laws.specs.cluster_core.Settings.{Setting}
use Rattle.cluster_laws.specs.cluster_model.Calls.{Begin, Call, Committed, Count, Report, Saved, Step, Want, Wave}
use Rattle.cluster_laws.specs.cluster_model.Clusters.{Cluster, call_way, report_way}
use Rattle.cluster_laws.specs.cluster_model.Leading.{Coordinator}
use Rattle.cluster_laws.specs.cluster_model.Machines.{Machine}
use Rattle.graph_core.specs.DataGraph.{size}

-- the acknowledged snapshots among what the coordinator told
abbrev pub commits_in : List Call → List ℕ
commits_in [] = []
commits_in (Begin k ∷ calls) = commits_in calls
commits_in (Committed k ∷ calls) = k ∷ commits_in calls
commits_in (Wave k ∷ calls) = commits_in calls
commits_in (Step colour ∷ calls) = commits_in calls

-- these are the numbers above the low one up to the high one, one by one
abbrev pub CountUp : ℕ → List ℕ → ℕ → Type 0
CountUp low [] high = low ≡ high
CountUp low (k ∷ numbers) high = (k ≡ suc low) × CountUp k numbers high

-- a section is of the snapshot of which the machine sent the last one, and no want is of a newer snapshot than the acknowledged one
abbrev pub IsReportOf : ℕ → ℕ → Report → Type 0
IsReportOf sent acknowledged (Saved k section entries) = k ≡ sent
IsReportOf sent acknowledged (Count k counts) = ⊤
IsReportOf sent acknowledged (Want k) = k ≤ acknowledged

-- What a machine and the coordinator, which has acknowledged so many snapshots, know of each other.
pub record IsInformed (acknowledged : ℕ) (m : Machine) (calls : List Call) (reports : List Report) : Type 0 where
  -- what the machine doesn't know to be acknowledged is told on the way, snapshot by snapshot
  pub commits : CountUp m.acknowledged (commits_in calls) acknowledged
  -- it has one length for each section that it sent and doesn't know to be acknowledged
  pub unsure : length m.unsure + m.acknowledged ≡ m.part.sent
  pub told : AllByRecursion (IsReportOf m.part.sent acknowledged) reports

-- each machine
abbrev pub AreInformed : Cluster → Type 0
AreInformed c = (a : ℕ) → IsInformed c.coordinator.acknowledged (c.machine a) (call_way c a) (report_way c a)

-- ---- what is relied on

-- The snapshot is none that is new to the machine, or the next one, and then all its vertices have the mark of the one before.
abbrev pub MayBegin : Setting → ℕ → ℕ → Machine → Type 0
MayBegin st a k m =
    (k ≤ m.part.known)
    ⊎ ((k ≡ suc m.part.known) × ((v : ℕ) → v < size st.graph → st.owner v ≡ a → (m.part.datum v).mark ≡ m.part.known))

-- The snapshot is the one behind that which the machine knew to be acknowledged, and it has sent its section.
pub record MayCommit (k : ℕ) (m : Machine) : Type 0 where
  pub next : k ≡ suc m.acknowledged
  pub sent : k ≤ m.part.sent
  pub oldest : ℕ
  pub behind : List ℕ
  pub unsure : m.unsure ≡ oldest ∷ behind

-- The section is of the snapshot under way, and none of this machine has come.
pub record MayBeSaved (a k : ℕ) (c : Coordinator) : Type 0 where
  pub newest : k ≡ c.begun
  pub under : c.acknowledged < c.begun
  pub missing : c.come a ≡ None

-- ---- steps

-- the call is no step
abbrev pub IsNoStep : Call → Type 0
IsNoStep (Begin k) = ⊤
IsNoStep (Committed k) = ⊤
IsNoStep (Wave k) = ⊤
IsNoStep (Step colour) = ⊥

-- no step is on its way to a machine
abbrev pub HasNoSteps : Cluster → Type 0
HasNoSteps c = (a : ℕ) → AllByRecursion IsNoStep (call_way c a)
