-- Steps by colours: in one step only vertices of one colour run.
use Rattle.std.specs.Prelude.{All, false, ℕ, Some, ⊤, ◌<◌, ◌≡◌, ◌≢◌}
use Rattle.std.specs.List.{AllByRecursion}
use Rattle.gl_base.specs.declared.scopes.ScopeId.{ScopeId}
use Rattle.graph_core.specs.DataGraph.{size}
use Rattle.cluster_laws.specs.cluster_core.Messages.{Message, Ask, Ready, Done}
use Rattle.cluster_laws.specs.cluster_core.Settings.{Setting}
use Rattle.cluster_laws.specs.cluster_core.Worlds.{World, way}

-- neighbours have different colours
abbrev pub AreApart : Setting → (ℕ → ℕ) → Type 0
AreApart st colour = All (λ e. colour e.from ≢ colour e.to) st.graph.edges

-- the message tells of an update of a vertex of this colour, or of none
abbrev pub IsOfColour : (ℕ → ℕ) → ℕ → Message → Type 0
IsOfColour colour step (Ask s v rest) = ⊤
IsOfColour colour step (Ready s) = ⊤
IsOfColour colour step (Done s news) = colour news.centre ≡ step

-- The step of one colour: machines that admit scopes are in it, scopes in flight have vertices of that colour, and only updates
-- of such vertices are told of.
pub record IsInStep (st : Setting) (colour : ℕ → ℕ) (step : ℕ) (w : World) : Type 0 where
  pub machines : (a : ℕ) → (w.part a).closed ≡ false → (w.part a).colour ≡ step
  pub flights : (s : ScopeId) (v : ℕ) → (w.part s.home.0).flight s ≡ Some v → (v < size st.graph) × (st.owner v ≡ s.home.0) × (colour v ≡ step)
  pub news : (p q : ℕ) → AllByRecursion (IsOfColour colour step) (way w p q)
