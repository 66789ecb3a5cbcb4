-- One attempt of a call: from where it goes on, and what comes of it.
use Rattle.std.specs.List.{AllByRecursion}
use Rattle.std.specs.Prelude.{◌≡◌, ℕ, ◌+◌, ◌≤◌, Bool, true, ◌&&◌, List, [], ◌∷◌, nat_lt, nat_le, count_by, ⊤}
use Rattle.gl_base.specs.declared.entries.Entry.{Entry}
use Rattle.gl_base.specs.declared.jobs.FailureAt.{FailureAt}
use Rattle.graph_core.specs.DataGraph.{DataGraph}
use Rattle.update_api.specs.Updates.{Update}
use Rattle.seq_run.specs.Orders.{replay, all_tasks, IsValidFrom}
use Rattle.cluster_laws.specs.cluster_core.Cuts.{cut_of}
use Rattle.cluster_laws.specs.cluster_core.Replays.{is_of}
use Rattle.cluster_laws.specs.cluster_cuts.Goings.{AreUpdatesFrom, IsByOwner}

-- What all attempts of a call share: the graph, the program that updates it, the machine of each vertex, and the failures that
-- the job orders.
pub record Shared : Type 0 where
  pub graph : DataGraph
  pub program : Update
  pub owner : ℕ → ℕ
  pub failures : List FailureAt

-- What one attempt did: the updates that it made, by ticket; of each snapshot that was acknowledged in it, in turn, how many of
-- these updates of each vertex the snapshot has; and how many failures were reached in it.
pub record Attempt : Type 0 where
  pub made : List Entry
  pub kept : List (ℕ → ℕ)
  pub struck : ℕ

-- Where an attempt begins: the order so far, which is that of the last snapshot and the restarts that it lacks; the next
-- ticket; and how many updates each machine has made in this call.
pub record Beginning : Type 0 where
  pub front : List Entry
  pub next : ℕ
  pub done : ℕ → ℕ

-- how many of these updates machine m made
abbrev pub made_by : List Entry → ℕ → ℕ
made_by made m = count_by (is_of m) made

-- how many updates machine m has made in this call, with these
abbrev pub done_with : Beginning → List Entry → ℕ → ℕ
done_with b made m = b.done m + made_by made m

-- a failure's count is above what its machine had made, and not above what it has made now
abbrev pub is_reached : (ℕ → ℕ) → (ℕ → ℕ) → FailureAt → Bool
is_reached before now failure = nat_lt (before failure.machine.0) failure.after && nat_le failure.after (now failure.machine.0)

-- a machine that reaches the count of the failure makes no more updates
abbrev pub StopsAtFailure : Beginning → List Entry → FailureAt → Type 0
StopsAtFailure b made failure = is_reached b.done (done_with b made) failure ≡ true → done_with b made failure.machine.0 ≡ failure.after

-- each cut has of each vertex at least as many updates as the one before
abbrev pub AreRising : (ℕ → ℕ) → List (ℕ → ℕ) → Type 0
AreRising count [] = ⊤
AreRising count (later ∷ counts) = ((v : ℕ) → count v ≤ later v) × AreRising later counts

-- The updates have the tickets from the next one on. From the numbers of the order so far, with every vertex a task, they are
-- valid, and so is what each snapshot has of them; and each snapshot has what the one before has.
pub record IsAttempt (shared : Shared) (b : Beginning) (a : Attempt) : Type 0 where
  pub tickets : AreUpdatesFrom b.next a.made
  pub owners : AllByRecursion (IsByOwner shared.owner) a.made
  pub valid : IsValidFrom shared.graph shared.program (replay shared.graph shared.program b.front) (all_tasks shared.graph) a.made
  pub cuts : AllByRecursion (λ count. IsValidFrom shared.graph shared.program (replay shared.graph shared.program b.front) (all_tasks shared.graph) (cut_of count a.made)) a.kept
  pub rising : AreRising (λ v. 0) a.kept
  pub struck : a.struck ≡ count_by (is_reached b.done (done_with b a.made)) shared.failures
  pub stops : AllByRecursion (StopsAtFailure b a.made) shared.failures
