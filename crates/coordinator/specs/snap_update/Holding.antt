-- What a machine keeps for snapshots, as a cluster's machine has it.
pub use Rattle.cluster_laws.specs.cluster_core.Effects.{saves_edge}
pub use Rattle.cluster_laws.specs.cluster_core.Messages.{Message}
pub use Rattle.cluster_laws.specs.cluster_core.Parts.{Part}
pub use Rattle.cluster_laws.specs.cluster_core.Settings.{Setting}
pub use Rattle.cluster_laws.specs.cluster_model.Calls.{Begin, Call, Committed, Report, Step, Wave}
pub use Rattle.cluster_laws.specs.cluster_model.Machines.{Machine, outside}
pub use Rattle.cluster_laws.specs.cluster_model.Working.{admits, asks, commits, fails, goes_back, grants, half_window, hands, hands_report, makes_mark, prompt, receives, sections, snapshot_in, takes_call, works_on}
use Rattle.std.specs.Prelude.{◌≡◌, ℕ, ◌==◌, Option, Some, None, List, [], ◌∷◌, ◌++◌, if◌then◌else◌}
use Rattle.gl_base.specs.declared.numbers.EdgeNo.{EdgeNo}
use Rattle.gl_base.specs.declared.numbers.Vertex.{Vertex}
use Rattle.cluster_laws.specs.cluster_core.Messages.{Section}
use Rattle.cluster_laws.specs.cluster_model.Calls.{Count, Saved, Want}
use Rattle.coordinator.specs.snap_update.Snaps.{SectionView, SnapView, asked_behind, with_asking, with_edge}

-- ---- lists of saved numbers as functions

-- the later number, where there is one
abbrev pub later_number : Option ℕ → Option ℕ → Option ℕ
later_number None earlier = earlier
later_number (Some number) earlier = Some number

-- the number that was saved of this vertex: the last one
abbrev pub last_of_vertex : List (Vertex × ℕ) → ℕ → Option ℕ
last_of_vertex [] v = None
last_of_vertex (pair ∷ pairs) v = later_number (last_of_vertex pairs v) (if v == pair.0.0 then Some pair.1 else None)

-- the number that was saved of this edge: the last one
abbrev pub last_of_edge : List (EdgeNo × ℕ) → ℕ → Option ℕ
last_of_edge [] e = None
last_of_edge (pair ∷ pairs) e = later_number (last_of_edge pairs e) (if e == pair.0.0 then Some pair.1 else None)

-- the lists have the numbers of the section
pub record AreSavedIn (section : Section) (of_vertices : List (Vertex × ℕ)) (of_edges : List (EdgeNo × ℕ)) : Type 0 where
  pub vertices : (v : ℕ) → section.vertices v ≡ last_of_vertex of_vertices v
  pub edges : (e : ℕ) → section.edges e ≡ last_of_edge of_edges e

-- ---- a machine's part

-- This is what the machine keeps for snapshots.
pub record IsSnapPartOf (w : SnapView) (m : Machine) : Type 0 where
  pub known : m.part.known ≡ w.known
  pub sent : m.part.sent ≡ w.sent
  pub acknowledged : m.acknowledged ≡ w.acknowledged
  pub wanted : m.wanted ≡ w.wanted
  pub saved : AreSavedIn m.part.saved w.vertices w.edges
  pub before : m.before ≡ w.before
  pub behind : m.behind ≡ w.behind
  pub unsure : m.unsure ≡ w.unsure

-- the numbers of the edges at v that its snapshot update has to save
abbrev pub AreEdgesToSave : Setting → Part → ℕ → List (EdgeNo × ℕ) → Type 0
AreEdgesToSave st part v edges = (e : ℕ) → last_of_edge edges e ≡ (if saves_edge st part v e then Some (part.edge e) else None)

-- these edges are saved, one after another
abbrev pub with_edges : List (EdgeNo × ℕ) → SnapView → SnapView
with_edges [] w = w
with_edges (pair ∷ pairs) w = with_edges pairs (with_edge pair.0 pair.1 w)

-- ---- what it tells the coordinator

-- the report is this section
abbrev pub IsSectionReport : SectionView → Report → Type 0
IsSectionReport section (Saved number saved entries) = (number ≡ section.number) × (AreSavedIn saved section.vertices section.edges) × (entries ≡ section.entries)
IsSectionReport section (Count wave counts) = ⊥
IsSectionReport section (Want number) = ⊥

-- the report behind the others is this section
abbrev pub TellsSection : SectionView → List Report → List Report → Type 0
TellsSection section old new = (told : Report) × (new ≡ old ++ told ∷ []) × IsSectionReport section told

-- where snapshots are taken it asks as soon as half of the window is outside
abbrev pub with_window : Setting → SnapView → SnapView
with_window st w = if st.stored then with_asking (half_window st) w else w

-- and tells the coordinator the snapshot behind which it asks for one
abbrev pub want_reports : Option ℕ → List Report
want_reports None = []
want_reports (Some number) = Want number ∷ []

abbrev pub wants_in : Setting → SnapView → List Report
wants_in st w = want_reports (if st.stored then asked_behind (half_window st) w else None)
