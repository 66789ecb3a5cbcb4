-- The bytes of a snapshot's record.
use Rattle.std.specs.Prelude.{ℕ, ◌^◌, ◌<◌, List, [], ◌∷◌, ◌++◌, length, All}
use Rattle.std.specs.List.{flat_map}
use Rattle.byteorder.specs.Endian.{big_bytes}
use Rattle.gl_base.specs.declared.entries.Entry.{Entry}
use Rattle.gl_base.specs.declared.entries.Entry.TheVariants.{Go, Restart}
use Rattle.gl_base.specs.declared.numbers.Vertex.{Vertex}
use Rattle.gl_base.specs.declared.numbers.EdgeNo.{EdgeNo}
use Rattle.gl_base.specs.declared.snapshots.Record.{Record}
use Rattle.gl_base.specs.declared.snapshots.SavedPart.{SavedPart}

-- kind, zero, machine, vertex, ticket
abbrev pub entry_bytes : Entry → List ℕ
entry_bytes (Go machine vertex ticket) = (1 ∷ 0 ∷ []) ++ (big_bytes 2 machine.0 ++ (big_bytes 4 vertex.0 ++ big_bytes 8 ticket))
entry_bytes (Restart ticket) = (2 ∷ 0 ∷ []) ++ (big_bytes 2 0 ++ (big_bytes 4 0 ++ big_bytes 8 ticket))

-- a vertex and its number
abbrev pub saved_vertex : Vertex × ℕ → List ℕ
saved_vertex saved = big_bytes 4 saved.0.0 ++ big_bytes 8 saved.1

-- an edge and its number
abbrev pub saved_edge : EdgeNo × ℕ → List ℕ
saved_edge saved = big_bytes 4 saved.0.0 ++ big_bytes 8 saved.1

-- what one machine saved
abbrev pub section_bytes : SavedPart → List ℕ
section_bytes part =
    (big_bytes 4 (length part.vertices.items) ++ flat_map saved_vertex part.vertices.items)
    ++ (big_bytes 4 (length part.edges.items) ++ flat_map saved_edge part.edges.items)

-- the body
abbrev pub body_bytes : Record → List ℕ
body_bytes next =
    (big_bytes 4 next.number ++ big_bytes 4 (length next.entries.items)) ++ (flat_map entry_bytes next.entries.items
    ++ flat_map section_bytes next.sections.items)

-- the counts of a part fit their fields
pub record PartFits (part : SavedPart) : Type 0 where
  pub vertices : length part.vertices.items < 2 ^ 32
  pub edges : length part.edges.items < 2 ^ 32

-- the counts of a record fit their fields
pub record RecordFits (next : Record) : Type 0 where
  pub entries : length next.entries.items < 2 ^ 32
  pub sections : All PartFits next.sections.items
