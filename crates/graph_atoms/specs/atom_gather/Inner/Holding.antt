-- What is kept of the atoms that add vertices, vertex by vertex.
use Rattle.std.specs.Prelude.{◌≡◌, ◌≢◌, ℕ, ◌<◌, List, length, slice_index, slice_index_or}
use Rattle.gl_base.specs.declared.numbers.AtomNo.{AtomNo}
use Rattle.gl_base.specs.declared.atoms.AtomsFault.{AtomsFault}
use Rattle.graph_atoms.specs.declared.atom_gather.owners.Held.{Held}
use Rattle.graph_atoms.specs.declared.atom_gather.owners.Held.TheVariants.{Nobody, By, Many}
use Rattle.graph_atoms.specs.atom_gather.Owners.{owner_at}

-- what is kept when one more atom adds the vertex
abbrev pub held_more : Held → ℕ → Held
held_more Nobody a = By (record { 0 = a })
held_more (By b) a = Many
held_more Many a = Many

-- each vertex is held by its atom
pub record AreAllHeld (held : List Held) (of : List ℕ) : Type 0 where
  pub each : length of ≡ length held
  pub by : (v : ℕ) → v < length held → slice_index_or held v Nobody ≡ By (record { 0 = slice_index of v })

-- the fault is that of the first vertex that not exactly one atom holds
pub record IsFirstUnheld (held : List Held) (fault : AtomsFault) : Type 0 where
  pub vertex : ℕ
  pub inside : vertex < length held
  pub here : (a : AtomNo) → slice_index_or held vertex Nobody ≢ By a
  pub before : (v : ℕ) → v < vertex → (a : AtomNo) × (slice_index_or held v Nobody ≡ By a)
  pub fault_is : fault ≡ owner_at vertex
