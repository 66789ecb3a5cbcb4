-- How a store keeps up with the events of a call.
pub use Rattle.coordinator.specs.coord_core.Calls.{IsSavedPart}
pub use Rattle.recovery.specs.GoodStores.{GoesWith, IsGoodStore, orders_behind}
pub use Rattle.recovery.specs.Journals.{stored_order, with_entries}
pub use Rattle.call_laws.specs.whole_calls.Saved.{AreNextOrders, IsNextOrder, fronts_in, recorded_in}
use Rattle.std.specs.List.{AllByRecursion}
use Rattle.std.specs.List.Sorted.{IsPermutation}
use Rattle.std.specs.Prelude.{List, filter, length, slice_index_or, true, ℕ, ◌++◌, ◌<◌, ◌≡◌}
use Rattle.gl_base.specs.declared.entries.Entry.{Entry}
use Rattle.gl_base.specs.declared.jobs.FailureAt.{FailureAt}
use Rattle.gl_base.specs.declared.snapshots.Record.{Record}
use Rattle.gl_base.specs.declared.snapshots.SavedPart.{SavedPart}
use Rattle.call_laws.specs.attempts.Entries.{is_restart}
use Rattle.cluster_laws.specs.cluster_core.Settings.{Setting}
use Rattle.cluster_laws.specs.cluster_model.Events.{entries_below}
use Rattle.cluster_laws.specs.cluster_model.Leading.{Snapshot}
use Rattle.cluster_laws.specs.cluster_runs.Recorded.{shared_of}
use Rattle.store.specs.declared.store_format.header.Header.{Header}

-- Behind the snapshots with which the store began stand those that were acknowledged since, one for one: their orders are told by what their
-- attempts began with and by what their sections brought. And the store is good.
pub record KeepsUp (st : Setting) (failures : List FailureAt) (header : Header) (start : List (List ℕ)) (fronts : List (List Entry)) (taken : List Snapshot) (bodies : List (List ℕ)) : Type 0 where
  pub added : List (List ℕ)
  pub stored : bodies ≡ start ++ added
  pub orders : AreNextOrders st (stored_order start) fronts taken (orders_behind (stored_order start) added)
  pub good : IsGoodStore (shared_of st failures) header bodies

-- The record of a snapshot for a store whose last order is this, in an attempt that began with that one: of each machine the numbers that it
-- saved, and all updates that it brought; and the restarts that the store lacks.
pub record IsRecordBehind (st : Setting) (before front : List Entry) (snapshot : Snapshot) (made : Record) : Type 0 where
  pub machines : length made.sections.items ≡ st.machines
  pub parts : (a : ℕ) (d : SavedPart) → a < st.machines → IsSavedPart (snapshot.sections a).section (slice_index_or made.sections.items a d)
  pub missing : List Entry
  pub restarts : AllByRecursion (λ entry. is_restart entry ≡ true) missing
  pub lacks : filter is_restart before ++ missing ≡ filter is_restart front
  pub entries : IsPermutation (missing ++ entries_below st.machines snapshot) made.entries.items
