-- A cluster that takes snapshots, but for its locks.
use Rattle.std.specs.Prelude.{List, None, [], false, ℕ, ◌<◌, ◌≡◌}
use Rattle.gl_base.specs.declared.entries.Entry.{Entry}
use Rattle.cluster_laws.specs.cluster_core.Copies.{AreCopies}
use Rattle.cluster_laws.specs.cluster_core.Cuts.{IsCut}
use Rattle.cluster_laws.specs.cluster_core.Marks.{MarksHold}
use Rattle.cluster_laws.specs.cluster_core.Replays.{IsReplay}
use Rattle.cluster_laws.specs.cluster_core.Settings.{Setting}
use Rattle.cluster_laws.specs.cluster_core.Worlds.{World}

-- The copies are true, the numbers are those of an order, and once a snapshot was begun in this run, what is saved for the
-- newest one is a cut of that order: of each vertex the first updates, so many as are counted.
pub record IsConsistent (st : Setting) (w : World) : Type 0 where
  pub order : List Entry
  pub copies : AreCopies st w
  pub replay : IsReplay st w order
  pub marks : MarksHold st w
  pub count : ℕ → ℕ
  pub cut : st.base < w.begun → IsCut st w order count

-- A start: no machine knows of a newer snapshot than the one that the run began with, and nothing is pending.
pub record IsUnmarked (st : Setting) (w : World) : Type 0 where
  pub begun : w.begun ≡ st.base
  pub acknowledged : w.acknowledged ≡ st.base
  pub known : (a : ℕ) → (w.part a).known ≡ st.base
  pub sent : (a : ℕ) → (w.part a).sent ≡ st.base
  pub pending : (a u : ℕ) → (w.part a).pending u ≡ false
  pub orders : (a : ℕ) → w.orders a ≡ []
  pub reports : (a : ℕ) → w.reports a ≡ []
  pub collected : (a : ℕ) → w.collected a ≡ None
