-- Parts of a machine that differ at most where it doesn't look.
pub use Rattle.cluster_laws.specs.cluster_core.Actions.{MayAdmit, MayGrant, MayMark, MaySend, MayUpdate}
pub use Rattle.cluster_laws.specs.cluster_core.Effects.{admitted, begins, granted, marked, received, updated}
pub use Rattle.cluster_laws.specs.cluster_core.Messages.{Message}
pub use Rattle.cluster_laws.specs.cluster_core.Parts.{Part}
pub use Rattle.cluster_laws.specs.cluster_core.Settings.{IsSetting, Setting}
use Rattle.std.specs.Prelude.{length, true, ℕ, ◌<◌, ◌≡◌}
use Rattle.gl_base.specs.declared.scopes.Datum.{Datum}
use Rattle.cluster_laws.specs.cluster_core.Scopes.{takes_part}
use Rattle.graph_core.specs.DataGraph.{size}

-- the part with these data and numbers of edges
abbrev pub with_copies : (ℕ → Datum) → (ℕ → ℕ) → Part → Part
with_copies datum edge part = record part { datum = datum; edge = edge }

-- To machine a the two parts look alike: they have the same data of the vertices in whose scopes it takes part, the same numbers of the
-- graph's edges, and all else is the same.
pub record LooksAlike (st : Setting) (a : ℕ) (one other : Part) : Type 0 where
  pub rest : one ≡ with_copies one.datum one.edge other
  pub vertices : (v : ℕ) → v < size st.graph → takes_part st v a ≡ true → one.datum v ≡ other.datum v
  pub edges : (e : ℕ) → e < length st.graph.edges → one.edge e ≡ other.edge e
