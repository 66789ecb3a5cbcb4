-- A snapshot is a cut.
pub use Rattle.whole_laws.specs.cluster_records.Recorded.{snapshot_due}
use Rattle.std.specs.List.Sorted.{IsPermutation}
use Rattle.std.specs.Prelude.{List, is_some, slice_index_or, ℕ, ◌++◌}
use Rattle.gl_base.specs.declared.entries.Entry.{Entry}
use Rattle.gl_base.specs.declared.snapshots.Record.{Record}
use Rattle.gl_base.specs.declared.snapshots.SavedPart.{SavedPart}
use Rattle.cluster_laws.specs.cluster_core.Ranges.{first_passing}
use Rattle.cluster_laws.specs.cluster_core.Replays.{replay_of}
use Rattle.cluster_laws.specs.cluster_core.Settings.{Setting}
use Rattle.cluster_laws.specs.cluster_model.Clusters.{Cluster}
use Rattle.cluster_laws.specs.cluster_model.Events.{entries_in_all, snapshot_numbers}
use Rattle.cluster_laws.specs.cluster_model.Leading.{Snapshot}
use Rattle.cluster_laws.specs.cluster_model.Working.{or_zero}
use Rattle.whole_laws.specs.cluster_records.Bases.{IsOpening}
use Rattle.whole_laws.specs.cluster_records.Recorded.{HaveSameNumbers}
use Rattle.coordinator.specs.coord_core.Calls.{IsRecordFor}
use Rattle.seq_run.specs.Orders.{IsValidFrom, IsValidOrder, all_tasks, replay}
use Rattle.seq_run.specs.States.{GraphState}
use Rattle.coordinator.specs.snap_update.Holding.{last_of_edge, last_of_vertex}

-- ---- the numbers of a record

-- the part of machine a
abbrev pub part_in : SavedPart → Record → ℕ → SavedPart
part_in none made a = slice_index_or made.sections.items a none

-- the first machine whose part has edge e
abbrev pub saver_of : Setting → SavedPart → Record → ℕ → ℕ
saver_of st none made e = or_zero (first_passing (λ a. is_some (last_of_edge (part_in none made a).edges.items e)) 0 st.machines)

-- of a vertex that of its owner's part, and of an edge that of the first part that has it
abbrev pub numbers_in : Setting → SavedPart → Record → GraphState
numbers_in st none made =
    record {
      vertex = λ v. or_zero (last_of_vertex (part_in none made (st.owner v)).vertices.items v);
      edge = λ e. or_zero (last_of_edge (part_in none made (saver_of st none made e)).edges.items e);
    }

-- ---- cuts

-- The attempt went on from a good base: the base's order is valid from the start state of the program on and leaves every vertex a task, and
-- the attempt's first numbers are its replay.
pub record HasGoodBase (st : Setting) (c : Cluster) : Type 0 where
  pub front : IsOpening st c.base.order
  pub numbers : HaveSameNumbers st.graph st.start (replay st.graph st.program c.base.order)

-- These updates are a valid order from the attempt's first numbers on, and these numbers, of each vertex and each edge, are its replay on the
-- undivided graph. Where the base is good the same holds of the base's order and the updates together, from the program's start state on.
pub record IsCutWith (st : Setting) (c : Cluster) (updates : List Entry) (numbers : GraphState) : Type 0 where
  pub valid : IsValidFrom st.graph st.program st.start (all_tasks st.graph) updates
  pub replayed : HaveSameNumbers st.graph numbers (replay_of st updates)
  pub whole : HasGoodBase st c → IsValidOrder st.graph st.program (c.base.order ++ updates) × HaveSameNumbers st.graph numbers (replay st.graph st.program (c.base.order ++ updates))

-- the snapshot is a cut
abbrev pub IsSnapshotCut : Setting → Cluster → Snapshot → Type 0
IsSnapshotCut st c snapshot = (updates : List Entry) × IsCutWith st c updates (snapshot_numbers st snapshot)

-- The record is that of the snapshot under way, and a cut: that of the updates which the snapshots before it bring, and its entries.
pub record RecordsCut (st : Setting) (c : Cluster) (made : Record) : Type 0 where
  pub is : IsRecordFor st (snapshot_due c.coordinator) made
  pub updates : List Entry
  pub brings : IsPermutation (entries_in_all st c.coordinator.snapshots ++ made.entries.items) updates
  pub cut : (none : SavedPart) → IsCutWith st c updates (numbers_in st none made)
