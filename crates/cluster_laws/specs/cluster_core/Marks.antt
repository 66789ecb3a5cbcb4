-- The marks of vertices: which snapshots machines know, and what is pending.
use Rattle.std.specs.List.{AllByRecursion, list_any}
use Rattle.std.specs.Prelude.{Bool, List, None, Some, [], false, suc, true, ℕ, ⊤, ◌<◌, ◌∷◌, ◌≡◌, ◌≤◌, ◌⊎◌}
use Rattle.cluster_laws.specs.cluster_core.Messages.{Ask, Done, Message, Ready}
use Rattle.cluster_laws.specs.cluster_core.Settings.{Setting}
use Rattle.cluster_laws.specs.cluster_core.Worlds.{World, way}
use Rattle.graph_core.specs.DataGraph.{size}

-- the newest snapshot for which v was saved
abbrev pub mark_of : Setting → World → ℕ → ℕ
mark_of st w v = ((w.part (st.owner v)).datum v).mark

-- the message makes u pending
abbrev pub names_vertex : ℕ → Message → Bool
names_vertex u (Ask s c rest) = false
names_vertex u (Ready s) = false
names_vertex u (Done s news) = news.pends u

-- one of the messages makes u pending
abbrev pub vertex_named : ℕ → List Message → Bool
vertex_named u messages = list_any (names_vertex u) messages

-- No newer snapshot is told than the newest that was begun; and who is to become pending for it has no mark of it.
abbrev pub IsMarking : Setting → World → Message → Type 0
IsMarking st w (Ask s c rest) = ⊤
IsMarking st w (Ready s) = ⊤
IsMarking st w (Done s news) =
    (news.number ≤ w.begun) × ((u : ℕ) → news.pends u ≡ true → (news.number ≡ w.begun) × (mark_of st w u < w.begun))

-- machine a's section of the snapshot under way: not sent yet, on the way, or with the coordinator
abbrev pub IsInPlace : World → ℕ → Type 0
IsInPlace w a =
    ((w.reports a ≡ []) × (w.collected a ≡ None))
    ⊎ ((w.acknowledged < w.begun) × ((w.part a).sent ≡ w.begun)
    × (((w.reports a ≡ (w.part a).saved ∷ []) × (w.collected a ≡ None)) ⊎ ((w.reports a ≡ []) × (w.collected a ≡ Some (w.part a).saved))))

-- How far machines and vertices are with the snapshot under way.
pub record MarksHold (st : Setting) (w : World) : Type 0 where
  pub base : st.base ≤ w.acknowledged
  -- at most one snapshot is under way
  pub under : (w.begun ≡ w.acknowledged) ⊎ (w.begun ≡ suc w.acknowledged)
  -- each machine knows it or the one before, and no order is of a newer one
  pub known : (a : ℕ) → a < st.machines → (w.acknowledged ≤ (w.part a).known) × ((w.part a).known ≤ w.begun)
  pub orders : (a : ℕ) → AllByRecursion (λ k. k ≤ w.begun) (w.orders a)
  -- each vertex has the mark of the newest that its owner knows, or of the newest that is acknowledged
  pub marks : (v : ℕ) → v < size st.graph → (w.acknowledged ≤ mark_of st w v) × (mark_of st w v ≤ (w.part (st.owner v)).known)
  -- what is pending has no mark yet
  pub pending : (a u : ℕ) → (w.part a).pending u ≡ true → (u < size st.graph) × (st.owner u ≡ a) × (((w.part a).datum u).mark < (w.part a).known)
  pub told : (p q : ℕ) → AllByRecursion (IsMarking st w) (way w p q)
  -- who sent its section of the snapshot under way has marked all its vertices
  pub sent_low : (a : ℕ) → a < st.machines → (w.acknowledged ≤ (w.part a).sent) × ((w.part a).sent ≤ w.begun)
  pub sent : (a : ℕ) → a < st.machines → (w.part a).sent ≡ w.begun → w.acknowledged < w.begun →
      ((w.part a).known ≡ w.begun) × ((v : ℕ) → v < size st.graph → st.owner v ≡ a → mark_of st w v ≡ w.begun)
  pub sections : (a : ℕ) → a < st.machines → IsInPlace w a
