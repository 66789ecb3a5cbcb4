-- Numbers and tasks are those of one order, once what is given has come.
use Rattle.std.specs.List.{AllByRecursion, list_any, range_with_len}
use Rattle.std.specs.Prelude.{List, None, Option, Some, length, map, true, ℕ, ⊤, ◌<◌, ◌↔◌, ◌≡◌, ◌⊎◌}
use Rattle.gl_base.specs.declared.entries.Entry.{Entry}
use Rattle.gl_base.specs.declared.scopes.ScopeId.{ScopeId}
use Rattle.graph_core.specs.DataGraph.{size}
use Rattle.cluster_laws.specs.cluster_core.Replays.{entries_of}
use Rattle.cluster_laws.specs.cluster_core.Settings.{Setting}
use Rattle.cluster_laws.specs.cluster_core.Stages.{Stage}
use Rattle.cluster_laws.specs.cluster_cuts.Goings.{AreUpdatesFrom, IsByOwner}
use Rattle.cluster_laws.specs.merged_logs.Merges.{all_logged}
use Rattle.full_scope.specs.FullOrders.{IsFullyValid, full_replay, full_tasks_after}
use Rattle.full_scope.specs.FullUpdates.{FullUpdate}
use Rattle.full_laws.specs.FullMessages.{Gift, gifts_of}
use Rattle.full_laws.specs.FullPlaces.{AreFullPlaces, AreGathered, GiveTheirLocks, HaveOneHolder, HoldTheirOwn, to_gather}
use Rattle.full_laws.specs.FullWorlds.{FullWorld, full_way}
use Rattle.full_laws.specs.Items.{IsItem, Item, keeps, number_in}

-- what is given on the way from p to q
abbrev pub gifts_from : FullWorld → ℕ → ℕ → List Gift
gifts_from w p q = gifts_of (full_way w p q)

-- n, where there is a number
abbrev pub IsOnly : ℕ → Option ℕ → Type 0
IsOnly n None = ⊤
IsOnly n (Some m) = m ≡ n

-- The number of the item is n once these gifts have come: whatever they give it is n, and where none gives it one, it is n
-- already.
pub record ComesTo (gifts : ℕ → List Gift) (i : Item) (here n : ℕ) : Type 0 where
  pub given : (p : ℕ) → AllByRecursion (λ gift. IsOnly n (gift.numbers i)) (gifts p)
  pub else_here : ((p : ℕ) → AllByRecursion (λ gift. gift.numbers i ≡ None) (gifts p)) → here ≡ n

-- u is a task of its owner, or will be as soon as what is given has come
abbrev pub IsTaskFull : Setting → FullWorld → ℕ → Type 0
IsTaskFull st w u =
    ((w.part (st.owner u)).task u ≡ true) ⊎ ((p : ℕ) × (list_any (λ gift. gift.wakes u) (gifts_from w p (st.owner u)) ≡ true))

-- the logs of all machines, one behind the other
abbrev pub all_logs : Setting → FullWorld → List Entry
all_logs st w = all_logged (map (λ a. (w.part a).log) (range_with_len 0 st.machines))

-- The numbers and the tasks of the cluster are those of the order, and its logs are the parts of the order.
pub record IsFullReplay (st : Setting) (p : FullUpdate) (w : FullWorld) (order : List Entry) : Type 0 where
  -- each update of the order found its vertex among the tasks
  pub valid : IsFullyValid st.graph p order
  -- each machine's log is its part of the order
  pub logs : (a : ℕ) → (w.part a).log ≡ entries_of a order
  -- the tickets are 0, 1, 2 and so on up to the next one, and each update was made by the owner of its vertex
  pub tickets : AreUpdatesFrom 0 order
  pub drawn : w.next ≡ length order
  pub owners : AllByRecursion (IsByOwner st.owner) order
  -- each vertex at its owner, and both copies of each edge
  pub numbers : (i : Item) (a : ℕ) → IsItem st.graph i → keeps st a i ≡ true →
      ComesTo (λ from. gifts_from w from a) i ((w.part a).number i) (number_in (full_replay st.graph p order) i)
  pub tasks : (u : ℕ) → u < size st.graph → (full_tasks_after st.graph p order u ≡ true) ↔ IsTaskFull st w u

-- One holder for each lock, each scope in one place, what was gathered is true, what is given has a number of each vertex whose lock
-- is let go with it, and the numbers are those of an order.
pub record IsFullCoherent (st : Setting) (p : FullUpdate) (w : FullWorld) : Type 0 where
  pub stage : ScopeId → Stage
  pub order : List Entry
  pub holders : HaveOneHolder w
  pub own : HoldTheirOwn st w
  pub given : GiveTheirLocks w
  pub places : AreFullPlaces st w stage
  pub gathered : AreGathered w (to_gather st w)
  pub replay : IsFullReplay st p w order
