-- What a record holds, as pairs, and numbers that fit their fields.
use Rattle.std.specs.Prelude.{ℕ, ◌^◌, ◌<◌, List, map}
use Rattle.std.specs.List.{AllByRecursion, flat_map}
use Rattle.gl_base.specs.declared.entries.Entry.{Entry}
use Rattle.gl_base.specs.declared.entries.Entry.TheVariants.{Go, Restart}
use Rattle.gl_base.specs.declared.numbers.Vertex.{Vertex}
use Rattle.gl_base.specs.declared.numbers.EdgeNo.{EdgeNo}
use Rattle.gl_base.specs.declared.snapshots.Record.{Record}
use Rattle.gl_base.specs.declared.snapshots.SavedPart.{SavedPart}

-- a vertex with its number, and an edge
abbrev pub vertex_pair : Vertex × ℕ → ℕ × ℕ
vertex_pair saved = (saved.0.0, saved.1)

abbrev pub edge_pair : EdgeNo × ℕ → ℕ × ℕ
edge_pair saved = (saved.0.0, saved.1)

-- the vertices of a part, each with its number, and its edges
abbrev pub part_vertices : SavedPart → List (ℕ × ℕ)
part_vertices part = map vertex_pair part.vertices.items

abbrev pub part_edges : SavedPart → List (ℕ × ℕ)
part_edges part = map edge_pair part.edges.items

-- the vertices of a record, each with its number, and its edges
abbrev pub record_vertices : Record → List (ℕ × ℕ)
record_vertices next = flat_map part_vertices next.sections.items

abbrev pub record_edges : Record → List (ℕ × ℕ)
record_edges next = flat_map part_edges next.sections.items

-- the numbers of an entry fit their fields
abbrev pub EntryFits : Entry → Type 0
EntryFits (Go machine vertex ticket) = (machine.0 < 2 ^ 16) × (vertex.0 < 2 ^ 32) × (ticket < 2 ^ 64)
EntryFits (Restart ticket) = ticket < 2 ^ 64

-- a key and its number do
abbrev pub PairFits : ℕ × ℕ → Type 0
PairFits pair = (pair.0 < 2 ^ 32) × (pair.1 < 2 ^ 64)

-- all numbers of a record do, as they do in a program
pub record NumbersFit (next : Record) : Type 0 where
  pub entries : AllByRecursion EntryFits next.entries.items
  pub vertices : AllByRecursion PairFits (record_vertices next)
  pub edges : AllByRecursion PairFits (record_edges next)
