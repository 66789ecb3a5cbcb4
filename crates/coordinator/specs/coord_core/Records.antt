-- The record of a snapshot, from the sections of its machines.
pub use Rattle.cluster_laws.specs.cluster_core.Replays.{ticket_of}
use Rattle.std.specs.List.Sorted.{IsNonDecreasingBy, IsPermutation}
use Rattle.std.specs.Prelude.{List, None, Option, Some, [], length, slice_index_or, suc, zero, ℕ, ◌++◌, ◌<◌, ◌≡◌}
use Rattle.gl_base.specs.declared.entries.Entry.{Entry}
use Rattle.gl_base.specs.declared.numbers.EdgeNo.{EdgeNo}
use Rattle.gl_base.specs.declared.numbers.Vertex.{Vertex}
use Rattle.gl_base.specs.declared.snapshots.Record.{Record}
use Rattle.gl_base.specs.declared.snapshots.SavedPart.{SavedPart}
use Rattle.coordinator.specs.coord_core.Saving.{SavingView, SectionView, come_at, entries_told}

-- the entries of the first so many machines' sections, machine by machine
abbrev pub entries_upto : ℕ → List (Option SectionView) → List Entry
entries_upto zero come = []
entries_upto (suc a) come = entries_upto a come ++ entries_told (come_at come a)

-- no entry has a lower ticket than one before it
abbrev pub AreByTicket : List Entry → Type 0
AreByTicket entries = IsNonDecreasingBy ticket_of entries

-- the numbers of a section, where it has come
abbrev pub vertices_told : Option SectionView → List (Vertex × ℕ)
vertices_told None = []
vertices_told (Some section) = section.vertices

abbrev pub edges_told : Option SectionView → List (EdgeNo × ℕ)
edges_told None = []
edges_told (Some section) = section.edges

-- The part has the numbers of the section, by vertex and by edge.
pub record IsPartOfRecord (section : Option SectionView) (part : SavedPart) : Type 0 where
  pub vertices : IsPermutation (vertices_told section) part.vertices.items
  pub edges : IsPermutation (edges_told section) part.edges.items
  pub by_vertex : IsNonDecreasingBy (λ pair. pair.0.0) part.vertices.items
  pub by_edge : IsNonDecreasingBy (λ pair. pair.0.0) part.edges.items

-- each machine's part has the numbers of its section
abbrev pub ArePartsOf : List (Option SectionView) → List SavedPart → Type 0
ArePartsOf come parts = (length parts ≡ length come) × ((a : ℕ) (d : SavedPart) → a < length come → IsPartOfRecord (come_at come a) (slice_index_or parts a d))

-- The record has the numbers of these sections, machine by machine, and their entries, by ticket.
pub record IsRecordFrom (k : ℕ) (come : List (Option SectionView)) (made : Record) : Type 0 where
  pub number : made.number ≡ k
  pub parts : ArePartsOf come made.sections.items
  pub entries : IsPermutation (entries_upto (length come) come) made.entries.items
  pub by_ticket : AreByTicket made.entries.items

-- it is the record of the snapshot under way
abbrev pub IsRecordOf : SavingView → Record → Type 0
IsRecordOf s made = IsRecordFrom s.begun s.come made
