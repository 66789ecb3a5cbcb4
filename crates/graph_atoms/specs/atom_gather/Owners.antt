-- Which atoms add each vertex, as the files of atoms say.
use Rattle.std.specs.Prelude.{◌≡◌, ℕ, zero, suc, ◌+◌, ◌<◌, ◌==◌, nat_le, if◌then◌else◌, List, [], ◌∷◌, length, map, slice_index, slice_index_or, Option, Some, None}
use Rattle.std.specs.List.{flat_map, list_any, range_with_len}
use Rattle.gl_base.specs.declared.atoms.AtomsFault.{AtomsFault}
use Rattle.gl_base.specs.declared.atoms.AtomsKind.TheVariants as kinds
use Rattle.graph_core.specs.Rows.{with_key}
use Rattle.graph_atoms.specs.atom_file.Fields.{field}
use Rattle.graph_atoms.specs.declared.atom_gather.owners.Held.{Held}
use Rattle.graph_atoms.specs.declared.atom_gather.owners.Held.TheVariants.{Nobody, By, Many}
use Rattle.graph_atoms.specs.declared.atom_gather.owners.Owners.{Owners}

-- the vertices that so many records of a file add, from this place on and up to the first record of another kind
abbrev pub vertices_from : List ℕ → ℕ → ℕ → List ℕ
vertices_from bytes zero at = []
vertices_from bytes (suc left) at =
    if slice_index bytes at == 1 then field bytes (at + 1) 4 ∷ vertices_from bytes left (at + 13) else []

-- the vertices that a file adds: where it has its form, its records begin with them
abbrev pub vertices_added : List ℕ → List ℕ
vertices_added bytes = vertices_from bytes (field bytes 16 4) 20

-- these vertices, each with the atom
abbrev pub with_atom : ℕ → List ℕ → List (ℕ × ℕ)
with_atom a vertices = map (λ v. (v, a)) vertices

-- each vertex that one of the first so many atoms adds, with this atom
abbrev pub added_by : (ℕ → List ℕ) → ℕ → List (ℕ × ℕ)
added_by file atoms = flat_map (λ a. with_atom a (vertices_added (file a))) (range_with_len 0 atoms)

abbrev pub owner_at : ℕ → AtomsFault
owner_at v = record { file = 0; kind = kinds.Owner; at = v }

-- the first of so many vertices, from v on, that not exactly one atom adds, and behind them the vertex that comes next, where it
-- or one above it is added
abbrev pub owner_from : List (ℕ × ℕ) → ℕ → ℕ → Option AtomsFault
owner_from added zero v = if list_any (λ p. nat_le v p.0) added then Some (owner_at v) else None
owner_from added (suc left) v =
    if length (with_key v added) == 1 then owner_from added left (v + 1) else Some (owner_at v)

-- the first of n vertices that not exactly one atom adds, or n where an atom adds a number from n on
abbrev pub owner_fault : ℕ → List (ℕ × ℕ) → Option AtomsFault
owner_fault n added = owner_from added n 0

-- the atom of each of n vertices: the first that adds it
abbrev pub owners_of : ℕ → List (ℕ × ℕ) → List ℕ
owners_of n added = map (λ v. slice_index (with_key v added) 0) (range_with_len 0 n)

-- what is kept of the atoms that add a vertex
abbrev pub held_from : List ℕ → Held
held_from [] = Nobody
held_from (a ∷ []) = By (record { 0 = a })
held_from (a ∷ b ∷ rest) = Many

-- what is kept of what was added, where there are n vertices
pub record AreHeld (n : ℕ) (added : List (ℕ × ℕ)) (owners : Owners) : Type 0 where
  pub each : length owners.held.items ≡ n
  pub held : (v : ℕ) → v < n → slice_index_or owners.held.items v Nobody ≡ held_from (with_key v added)
  pub beyond : owners.beyond ≡ list_any (λ p. nat_le n p.0) added
