-- A graph whose vertices are in atoms, and the atoms on machines.
pub use Rattle.partition.specs.local_parts.Parts.{Setting, IsLocalOf, AreIn}
pub use Rattle.local_graph.specs.Locals.{LocalView, own_datum, is_own, edge_number_at, machine_numbers}
pub use Rattle.local_graph.specs.Played.{no_datum}
pub use Rattle.graph_atoms.specs.atom_cut.Cuts.{atom_numbers}
use Rattle.std.specs.Prelude.{◌≡◌, ℕ, ◌<◌, true, Some, List, length, slice_index, slice_index_or}
use Rattle.gl_base.specs.declared.numbers.AtomNo.{AtomNo}
use Rattle.gl_base.specs.declared.numbers.MachineNo.{MachineNo}
use Rattle.graph_core.specs.DataGraph.{DataGraph, size}

-- the machine of a vertex: that of its atom
abbrev pub placed_owner : List AtomNo → List MachineNo → ℕ → ℕ
placed_owner of owner v = slice_index (machine_numbers owner) (slice_index (atom_numbers of) v)

-- the cluster runs this graph on so many machines, and this is the owner of each vertex
pub record IsOwnedBy (g : DataGraph) (many : ℕ) (owner : ℕ → ℕ) (st : Setting) : Type 0 where
  pub graph : st.graph ≡ g
  pub machines : st.machines ≡ many
  pub owners : (v : ℕ) → v < size g → st.owner v ≡ owner v

-- Machine a holds its part of the graph, each row is in, and no number is set yet.
pub record IsUnsetPart (st : Setting) (a : ℕ) (l : LocalView) : Type 0 where
  pub machine : l.me.0 ≡ a
  pub local : IsLocalOf st l
  pub rows : AreIn l
  pub places : length l.kept ≡ length l.owned
  pub data_unset : (v : ℕ) → is_own l v ≡ true → own_datum l v ≡ Some no_datum
  pub edges_unset : (e : ℕ) → edge_number_at l e ≡ 0

-- and so does each machine, in turn
pub record AreUnsetParts (st : Setting) (locals : List LocalView) : Type 0 where
  pub count : length locals ≡ st.machines
  pub each : (a : ℕ) (d : LocalView) → a < st.machines → IsUnsetPart st a (slice_index_or locals a d)
