-- Stores of snapshots, by their orders.
use Rattle.std.specs.List.{AllByRecursion}
use Rattle.std.specs.List.Sorted.{IsPermutation}
use Rattle.std.specs.Prelude.{List, [], filter, map, true, ℕ, ⊤, ◌++◌, ◌∷◌, ◌≡◌, ◌≤◌}
use Rattle.gl_base.specs.declared.entries.Entry.{Entry}
use Rattle.call_laws.specs.attempts.Beginnings.{again, snapshot_order}
use Rattle.call_laws.specs.attempts.EngineCalls.{EngineCall, IsOrderInTurn, last_beginning, opening}
use Rattle.cluster_laws.specs.cluster_runs.Attempts.{Attempt, Beginning, Shared, made_by}
use Rattle.cluster_laws.specs.cluster_core.Cuts.{Begins, updates_at}
use Rattle.call_laws.specs.attempts.Entries.{is_restart, is_update}

-- The updates of each vertex in the earlier order begin those in the later one, and so do the restarts.
pub record IsEarlier (earlier later : List Entry) : Type 0 where
  pub updates : (v : ℕ) → Begins (updates_at v earlier) (updates_at v later)
  pub restarts : Begins (filter is_restart earlier) (filter is_restart later)

-- each order is earlier than all behind it
abbrev pub AreEarlierFirst : List (List Entry) → Type 0
AreEarlierFirst [] = ⊤
AreEarlierFirst (order ∷ orders) = AllByRecursion (IsEarlier order) orders × AreEarlierFirst orders

-- The orders of a good store's snapshots: each is in turn, and earlier than all behind it.
pub record AreGoodOrders (shared : Shared) (orders : List (List Entry)) : Type 0 where
  pub in_turn : AllByRecursion (IsOrderInTurn shared) orders
  pub earlier_first : AreEarlierFirst orders

-- the last of the orders, or this one where there is none
abbrev pub last_order : List Entry → List (List Entry) → List Entry
last_order order [] = order
last_order order (later ∷ orders) = last_order later orders

-- the orders of the snapshots that were acknowledged in an attempt
abbrev pub snapshot_orders : Beginning → Attempt → List (List Entry)
snapshot_orders b a = map (snapshot_order b a) a.kept

-- and in attempts that failed
abbrev pub attempted_snapshots : Beginning → List Attempt → List (List Entry)
attempted_snapshots b [] = []
attempted_snapshots b (a ∷ failed) = snapshot_orders b a ++ attempted_snapshots (again b a) failed

-- the orders of all snapshots that were acknowledged in a call
abbrev pub snapshots_of : EngineCall → List (List Entry)
snapshots_of call = attempted_snapshots (opening call) call.failed ++ snapshot_orders (last_beginning call) call.last

-- the order is the snapshot's, and behind it restarts that the snapshot lacks
abbrev pub ResumesFrom : List Entry → List Entry → Type 0
ResumesFrom snapshot order = (missing : List Entry) × (order ≡ snapshot ++ missing) × AllByRecursion (λ entry. is_restart entry ≡ true) missing

-- The updates of the order are those of the snapshot and these others, of which each machine has at most so many.
pub record IsWithinWindow (window : ℕ) (snapshot order : List Entry) : Type 0 where
  pub outside : List Entry
  pub same : IsPermutation (filter is_update snapshot ++ outside) (filter is_update order)
  pub few : (m : ℕ) → made_by outside m ≤ window

-- the store, and the first of the snapshots that the call adds, so many as it may be
abbrev pub IsStoreImage : List (List Entry) → List (List Entry) → List (List Entry) → Type 0
IsStoreImage store added image = (front : List (List Entry)) × (behind : List (List Entry)) × (added ≡ front ++ behind) × (image ≡ store ++ front)
