-- What a setting's engine has to do with the colours of a machine.
use Rattle.std.specs.Prelude.{◌≡◌, ℕ, Some, List, slice_get}
use Rattle.gl_base.specs.declared.numbers.Vertex.{Vertex}
use Rattle.cluster_laws.specs.cluster_core.Settings.{Chromatic, Engine}

-- The engine goes by colours, and those of the vertices at these places are the engine's.
pub record GoesByColours (engine : Engine) (vertices : List Vertex) (colours : List ℕ) : Type 0 where
  pub colour : ℕ → ℕ
  pub greatest : ℕ
  pub chromatic : engine ≡ Chromatic colour greatest
  pub here : (k : ℕ) (v : Vertex) → slice_get vertices k ≡ Some v → slice_get colours k ≡ Some (colour v.0)
