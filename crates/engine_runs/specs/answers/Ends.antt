-- How a run with a store ends, told by its lists.
use Rattle.std.specs.List.Sorted.{IsPermutation}
use Rattle.std.specs.Prelude.{Bool, List, [], false, filter, length, ⊤, ℕ, ◌*◌, ◌++◌, ◌+◌, ◌-◌, ◌/◌, ◌<◌, ◌≡◌, ◌≤◌, ◌⊎◌}
use Rattle.gl_base.specs.declared.entries.Entry.{Entry}
use Rattle.call_laws.specs.attempts.Entries.{is_update}
use Rattle.call_laws.specs.call_answers.Answers.{RunLists, Shared, last_order, made_by}
use Rattle.call_laws.specs.call_answers.Ends.{FinishesRun, SpendsRun}
use Rattle.graph_core.specs.DataGraph.{size}
use Rattle.seq_run.specs.Orders.{tasks_after}
use Rattle.engine_runs.specs.declared.answers.runs.StoredEnd.{StoredEnd}
use Rattle.engine_runs.specs.declared.answers.runs.StoredEnd.TheVariants.{DiskFault, Finished, Full, Spent}

-- half of a window, rounded up
abbrev pub half_of : ℕ → ℕ
half_of window = (window + 1) / 2

-- one of so many machines has made at least so many updates of the order that the snapshot lacks
pub record HasOutside (machines many : ℕ) (snapshot order : List Entry) : Type 0 where
  pub outside : List Entry
  pub same : IsPermutation (filter is_update snapshot ++ outside) (filter is_update order)
  pub machine : ℕ
  pub below : machine < machines
  pub enough : many ≤ made_by outside machine

-- the order leaves no task, and no snapshot of it was acknowledged in this run
pub record LacksLast (shared : Shared) (kept : List Entry) (snapshots : List (List Entry)) (order : List Entry) : Type 0 where
  pub tasks : (u : ℕ) → u < size shared.graph → tasks_after shared.graph shared.program order u ≡ false
  pub none : (snapshots ≡ []) ⊎ (last_order kept snapshots ≡ order → ⊥)

-- how many bytes a record of so many entries of this graph has on so many machines, with the gate behind it
abbrev pub bytes_with : Shared → ℕ → ℕ → ℕ
bytes_with shared machines entries = 8 + 16 * entries + 8 * machines + 12 * size shared.graph + 12 * length shared.graph.edges + 9

-- A store of so many snapshots has as many as may be, and one more is due: half of a machine's window is outside the last one, or it is for
-- the end.
abbrev pub IsFullOfSnapshots : Shared → ℕ → ℕ → List Entry → List (List Entry) → ℕ → List Entry → Type 0
IsFullOfSnapshots shared machines window kept snapshots stored order =
    (4096 ≤ stored)
    × (HasOutside machines (half_of window) (last_order kept snapshots) order ⊎ LacksLast shared kept snapshots order)

-- A store of so many snapshots and bytes has no room for what the run needs: it is full of snapshots; or a record of all that is outside the
-- last one would end too far.
abbrev pub NeedsMoreRoom : Shared → ℕ → ℕ → List Entry → List (List Entry) → ℕ → ℕ → List Entry → Type 0
NeedsMoreRoom shared machines window kept snapshots stored bytes order =
    IsFullOfSnapshots shared machines window kept snapshots stored order
    ⊎ (1073741824 < bytes + bytes_with shared machines (length order - length (last_order kept snapshots)))

-- What a run that ended so says by its lists, whose end is saved or not, where its store had so many snapshots, of which the last has this
-- order, these are the orders of the snapshots that it acknowledged, and so many failures went unanswered. A run that spent its budget is one
-- whose store is not full of snapshots.
abbrev pub RunEndMeaning : Bool → Shared → ℕ → ℕ → ℕ → ℕ → List Entry → List (List Entry) → ℕ → RunLists → StoredEnd → Type 0
RunEndMeaning saves shared machines window budget had kept snapshots unanswered lists Finished =
    FinishesRun saves shared kept snapshots unanswered lists
RunEndMeaning saves shared machines window budget had kept snapshots unanswered lists (Spent left) =
    SpendsRun shared budget left.0 unanswered lists
    × (0 < window → IsFullOfSnapshots shared machines window kept snapshots (had + length snapshots) lists.order → ⊥)
RunEndMeaning saves shared machines window budget had kept snapshots unanswered lists (Full stored bytes) =
    (unanswered ≡ 0) × NeedsMoreRoom shared machines window kept snapshots stored bytes lists.order
RunEndMeaning saves shared machines window budget had kept snapshots unanswered lists DiskFault = ⊤
