-- When machines ask for a snapshot, and what they count for that.
use Rattle.std.specs.List.{AllByRecursion, list_any}
use Rattle.std.specs.Prelude.{Bool, List, [], false, filter, length, map, nat_lt, suc, true, zero, ℕ, ⊤, ◌&&◌, ◌+◌, ◌<◌, ◌==◌, ◌∷◌, ◌≡◌, ◌≤◌, ◌⊎◌}
use Rattle.gl_base.specs.declared.entries.Entry.{Entry}
use Rattle.cluster_laws.specs.cluster_core.Replays.{is_of}
use Rattle.cluster_laws.specs.cluster_core.Settings.{Setting}
use Rattle.cluster_laws.specs.cluster_model.Calls.{Begin, Call, Committed, Count, Report, Saved, Step, Want, Wave}
use Rattle.cluster_laws.specs.cluster_model.Clusters.{Cluster, call_way, report_way}
use Rattle.cluster_laws.specs.cluster_model.Machines.{Machine, outside}
use Rattle.cluster_laws.specs.cluster_model.Working.{half_window}
use Rattle.whole_laws.specs.cluster_records.Listed.{entries_at}
use Rattle.whole_laws.specs.cluster_whole.Logged.{Logged, entry_of}

-- an update of machine a that snapshot k doesn't have
abbrev pub is_outside : ℕ → ℕ → Logged → Bool
is_outside a k l = is_of a l.entry && nat_lt k l.number

-- the updates of machine a outside snapshot k
abbrev pub entries_outside : ℕ → ℕ → List Logged → List Entry
entries_outside a k logged = map entry_of (filter (is_outside a k) logged)

-- how many updates of machine a snapshot k is the first to have, and so on for so many snapshots
abbrev pub sizes_from : ℕ → ℕ → ℕ → List Logged → List ℕ
sizes_from a k zero logged = []
sizes_from a k (suc many) logged = length (entries_at a k logged) ∷ sizes_from a (suc k) many logged

-- k, the next number, and so on
abbrev pub numbers_from : ℕ → ℕ → List ℕ
numbers_from k zero = []
numbers_from k (suc many) = k ∷ numbers_from (suc k) many

-- the snapshots of which a machine is told that they are acknowledged
abbrev pub known_by_calls : List Call → List ℕ
known_by_calls [] = []
known_by_calls (Begin k ∷ calls) = known_by_calls calls
known_by_calls (Committed k ∷ calls) = k ∷ known_by_calls calls
known_by_calls (Wave k ∷ calls) = known_by_calls calls
known_by_calls (Step colour ∷ calls) = known_by_calls calls

-- the machine asks for a snapshot after snapshot k
abbrev pub is_want : ℕ → Report → Bool
is_want k (Saved number section entries) = false
is_want k (Count wave counts) = false
is_want k (Want number) = number == k

-- one of the reports does
abbrev pub want_told : ℕ → List Report → Bool
want_told k reports = list_any (is_want k) reports

-- Word of each snapshot that was acknowledged since the newest that machine a knows to be is among these calls, in turn; and the machine
-- knows how many updates each section has that it sent since.
pub record IsCounting (a : ℕ) (m : Machine) (acknowledged : ℕ) (calls : List Call) (logged : List Logged) : Type 0 where
  pub late : ℕ
  pub newest : acknowledged ≡ m.acknowledged + late
  pub commits : known_by_calls calls ≡ numbers_from (suc m.acknowledged) late
  pub sections : ℕ
  pub sent : m.part.sent ≡ m.acknowledged + sections
  pub unsure : m.unsure ≡ sizes_from a (suc m.acknowledged) sections logged

-- a machine asks only where at least half of its window is outside the snapshot that it names
abbrev pub IsTrueWant : Setting → ℕ → List Logged → Report → Type 0
IsTrueWant st a logged (Saved number section entries) = ⊤
IsTrueWant st a logged (Count wave counts) = ⊤
IsTrueWant st a logged (Want k) = half_window st ≤ length (entries_outside a k logged)

-- Machine a has asked where at least half of its window is outside the newest snapshot that it knows to be acknowledged. While that is the
-- newest one, its word is among these reports, or the coordinator knows that a snapshot is wanted.
pub record IsAsking (st : Setting) (a : ℕ) (m : Machine) (acknowledged : ℕ) (wanted : Bool) (reports : List Report) (logged : List Logged) : Type 0 where
  pub asked : 0 < half_window st → st.stored ≡ true → half_window st ≤ outside m → m.wanted ≡ true
  pub told : m.wanted ≡ true → m.acknowledged ≡ acknowledged → (want_told m.acknowledged reports ≡ true) ⊎ (wanted ≡ true)
  pub truly : AllByRecursion (IsTrueWant st a logged) reports

-- Each machine counts and asks; and where the coordinator knows that a snapshot is wanted, half of some machine's window is outside the
-- newest one.
pub record AreAsking (st : Setting) (c : Cluster) (logged : List Logged) : Type 0 where
  pub counting : (a : ℕ) → a < st.machines → IsCounting a (c.machine a) c.coordinator.acknowledged (call_way c a) logged
  pub asking : (a : ℕ) → a < st.machines → IsAsking st a (c.machine a) c.coordinator.acknowledged c.coordinator.wanted (report_way c a) logged
  pub wanted : c.coordinator.wanted ≡ true → (a : ℕ) × (a < st.machines) × (half_window st ≤ length (entries_outside a c.coordinator.acknowledged logged))
