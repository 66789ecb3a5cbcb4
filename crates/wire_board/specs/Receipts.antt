-- What closing a board leaves of the updates that were made on it.
pub use Rattle.cluster_laws.specs.merged_logs.Merges.{IsMerge}
pub use Rattle.wire_board.specs.Closings.{Machine, Setting, TraceView}
use Rattle.std.specs.List.{AllByRecursion}
use Rattle.std.specs.Prelude.{List, None, Option, Some, [], drop, length, slice_index_or, suc, zero, ℕ, ◌++◌, ◌+◌, ◌<◌, ◌≡◌}
use Rattle.cluster_laws.specs.cluster_core.Replays.{entries_of}
use Rattle.cluster_laws.specs.cluster_cuts.Goings.{AreUpdatesFrom}
use Rattle.cluster_laws.specs.cluster_model.Events as law
use Rattle.cluster_laws.specs.merged_logs.Merges.{IsByMachineBelow}
use Rattle.cluster_step.specs.trace.Traces.{Cluster, InEachTrace, IsTraceNow}
use Rattle.gl_base.specs.declared.entries.Entry.{Entry}
use Rattle.whole_laws.specs.cluster_whole.Whole.{IsNoRecovery}

-- the entries of a receipt, if there is one
abbrev pub entries_in : Option (List Entry) → List Entry
entries_in None = []
entries_in (Some entries) = entries

-- A cluster with so many machines has made these updates on its way from one state to another: their tickets are the next one, the one behind that, and
-- so on, each is by one of the machines, and the log of each machine has its own of them more.
pub record HaveBeenMade (machines : ℕ) (old new : Cluster) (made : List Entry) : Type 0 where
  pub tickets : AreUpdatesFrom old.next made
  pub drawn : new.next ≡ old.next + length made
  pub owners : AllByRecursion (IsByMachineBelow machines) made
  pub logs : (a : ℕ) → (new.machine a).part.log ≡ (old.machine a).part.log ++ entries_of a made

-- In each course the trace has gone on from where it was, in the same attempt, and these are the updates made since.
abbrev pub AreMadeSince : {M : Type 0} → (Setting → ℕ → Machine → M → Type 0) → TraceView M → TraceView M → List Entry → Type 0
AreMadeSince represents old new made =
    InEachTrace represents old
    (λ st o events c. (more : List law.Event) × (later : Cluster) × AllByRecursion IsNoRecovery more × IsTraceNow represents new st o (events ++ more) later × HaveBeenMade st.machines c later made)

-- The entries are those that came in, and behind them the updates made since.
pub record IsReceipt {M : Type 0} (represents : Setting → ℕ → Machine → M → Type 0) (old new : TraceView M) (base entries : List Entry) : Type 0 where
  pub made : List Entry
  pub entries_are : entries ≡ base ++ made
  pub since : AreMadeSince represents old new made

-- There is a length for each machine, and in each course it is that of the machine's log.
pub record AreLengthsOf {M : Type 0} (represents : Setting → ℕ → Machine → M → Type 0) (v : TraceView M) (lengths : List ℕ) : Type 0 where
  pub many : length lengths ≡ length v.now.machines.items
  pub each : InEachTrace represents v (λ st o events c. (a : ℕ) → a < length v.now.machines.items → slice_index_or lengths a 0 ≡ length (c.machine a).part.log)

-- what the logs of the first so many machines have behind these lengths, one behind the other
abbrev pub logged_behind : List ℕ → ℕ → Cluster → List Entry
logged_behind lengths zero c = []
logged_behind lengths (suc n) c = logged_behind lengths n c ++ drop (slice_index_or lengths n 0) (c.machine n).part.log

-- The entries are those that came in, and behind them in one order by ticket what the logs have behind these lengths.
pub record HasLoggedBehind {M : Type 0} (represents : Setting → ℕ → Machine → M → Type 0) (v : TraceView M) (lengths : List ℕ) (base entries : List Entry) : Type 0 where
  pub made : List Entry
  pub entries_are : entries ≡ base ++ made
  pub merged : InEachTrace represents v (λ st o events c. IsMerge (logged_behind lengths st.machines c) made)
