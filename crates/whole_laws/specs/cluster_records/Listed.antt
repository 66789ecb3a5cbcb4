-- The entries that machines list for the next snapshots, and those that their sections have.
use Rattle.std.specs.List.{AllByRecursion}
use Rattle.std.specs.Prelude.{Bool, List, Some, [], filter, if◌then◌else◌, map, nat_lt, suc, true, ℕ, ⊤, ◌&&◌, ◌<◌, ◌==◌, ◌≡◌, ◌≤◌}
use Rattle.gl_base.specs.declared.entries.Entry.{Entry}
use Rattle.cluster_laws.specs.cluster_core.Replays.{is_of}
use Rattle.cluster_laws.specs.cluster_core.Settings.{Setting}
use Rattle.cluster_laws.specs.cluster_model.Calls.{Count, Report, Saved, Want}
use Rattle.cluster_laws.specs.cluster_model.Clusters.{Cluster, report_way}
use Rattle.cluster_laws.specs.cluster_model.Leading.{Come}
use Rattle.cluster_laws.specs.cluster_model.Machines.{Machine}
use Rattle.whole_laws.specs.cluster_whole.Logged.{Logged, entry_of}

-- an update of machine a that snapshot k is the first to have
abbrev pub is_first_in : ℕ → ℕ → Logged → Bool
is_first_in a k l = is_of a l.entry && l.number == k

-- the updates of machine a that snapshot k is the first to have
abbrev pub entries_at : ℕ → ℕ → List Logged → List Entry
entries_at a k logged = map entry_of (filter (is_first_in a k) logged)

-- an update of machine a is of no later snapshot than the one after k
abbrev pub IsNextAtMost : ℕ → ℕ → Logged → Type 0
IsNextAtMost a k l = is_of a l.entry ≡ true → l.number ≤ suc k

-- The lists of machine a: before the marks, while its section isn't sent, are its updates for the snapshot that it knows, and behind
-- them those for the next one. For a later one it has none.
pub record IsListed (a : ℕ) (m : Machine) (logged : List Logged) : Type 0 where
  pub before : m.before ≡ (if nat_lt m.part.sent m.part.known then entries_at a m.part.known logged else [])
  pub behind : m.behind ≡ entries_at a (suc m.part.known) logged
  pub next : AllByRecursion (IsNextAtMost a m.part.known) logged

-- each machine's lists are such
abbrev pub AreListed : Setting → Cluster → List Logged → Type 0
AreListed st c logged = (a : ℕ) → a < st.machines → IsListed a (c.machine a) logged

-- a section that machine a tells is of snapshot k, and has the machine's updates that this snapshot is the first to have
abbrev pub HasItsUpdates : ℕ → ℕ → List Logged → Report → Type 0
HasItsUpdates a k logged (Saved number section entries) = (number ≡ k) × (entries ≡ entries_at a k logged)
HasItsUpdates a k logged (Count wave counts) = ⊤
HasItsUpdates a k logged (Want acknowledged) = ⊤

-- The sections of machine a on their way, and the one that has come, have its updates that the newest snapshot is the first to have.
pub record IsComing (a : ℕ) (c : Cluster) (logged : List Logged) : Type 0 where
  pub told : AllByRecursion (HasItsUpdates a c.coordinator.begun logged) (report_way c a)
  pub come : (come : Come) → c.coordinator.come a ≡ Some come → come.entries ≡ entries_at a c.coordinator.begun logged

-- each machine's sections are such
abbrev pub AreComing : Setting → Cluster → List Logged → Type 0
AreComing st c logged = (a : ℕ) → a < st.machines → IsComing a c logged
