-- What a machine keeps for snapshots.
pub use Rattle.wire.specs.wire_msgs.Views.{SectionView, section_view}
use Rattle.std.specs.Prelude.{◌≡◌, ℕ, ◌+◌, ◌≤◌, Bool, false, not, ◌&&◌, ◌||◌, nat_le, nat_lt, pred, Option, Some, None, List, [], ◌∷◌, ◌++◌, drop, length, map, nat_eq, sum_by, if◌then◌else◌}
use Rattle.std.specs.List.{IsDistinct}
use Rattle.gl_base.specs.declared.entries.Entry.{Entry}
use Rattle.gl_base.specs.declared.numbers.EdgeNo.{EdgeNo}
use Rattle.gl_base.specs.declared.numbers.Vertex.{Vertex}

-- For how many more of each there is room.
pub record SnapRoom : Type 0 where
  pub vertices : ℕ
  pub edges : ℕ
  pub entries : ℕ

pub record SnapView : Type 0 where
  -- the newest snapshot that it knows, the newest one of which it sent its section, and the newest one that it knows to be acknowledged
  pub known : ℕ
  pub sent : ℕ
  pub acknowledged : ℕ
  -- whether it asked for the snapshot behind the last acknowledged one
  pub wanted : Bool
  -- what it saved for the snapshot that it knows
  pub vertices : List (Vertex × ℕ)
  pub edges : List (EdgeNo × ℕ)
  -- the updates that none of its sections has: those made before their vertex was marked, and those made behind that
  pub before : List Entry
  pub behind : List Entry
  -- how many updates each of its sections has that it doesn't know to be acknowledged, the first first
  pub unsure : List ℕ
  pub room : SnapRoom

-- its updates that are outside the last snapshot that it knows to be acknowledged
abbrev pub outside_of : SnapView → ℕ
outside_of w = sum_by (λ n. n) w.unsure + length w.before + length w.behind

-- ---- room

-- only room has changed
abbrev pub IsSameButRoom : SnapView → SnapView → Type 0
IsSameButRoom old new = new ≡ record old { room = new.room }

-- there is as much room as there was, or more
pub record HasKeptRoom (old new : SnapRoom) : Type 0 where
  pub vertices : old.vertices ≤ new.vertices
  pub edges : old.edges ≤ new.edges
  pub entries : old.entries ≤ new.entries

-- at most one place for an entry was used
pub record HasUsedEntry (old new : SnapRoom) : Type 0 where
  pub entries : old.entries ≤ new.entries + 1
  pub rest : new ≡ record old { entries = new.entries }

-- ---- the calls

-- nothing was made since this snapshot, which is acknowledged
abbrev pub nothing_since : ℕ → SnapRoom → SnapView
nothing_since k room =
    record {
      known = k;
      sent = k;
      acknowledged = k;
      wanted = false;
      vertices = [];
      edges = [];
      before = [];
      behind = [];
      unsure = [];
      room = room;
    }

-- a newer snapshot begins: nothing is saved for it, no vertex is marked, and so all entries are before the marks
abbrev pub newly_begun : ℕ → SnapView → SnapView
newly_begun k w = record w { known = k; vertices = []; edges = []; before = w.before ++ w.behind; behind = [] }

-- it knows this snapshot
abbrev pub with_begun : ℕ → SnapView → SnapView
with_begun k w = if nat_lt w.known k then newly_begun k w else w

-- this number of a vertex is saved
abbrev pub with_vertex : Vertex → ℕ → SnapView → SnapView
with_vertex v value w = record w { vertices = w.vertices ++ (v, value) ∷ []; room = record w.room { vertices = pred w.room.vertices } }

-- this number of an edge is saved
abbrev pub with_edge : EdgeNo → ℕ → SnapView → SnapView
with_edge e number w = record w { edges = w.edges ++ (e, number) ∷ []; room = record w.room { edges = pred w.room.edges } }

-- an update was made of a vertex with this mark
abbrev pub with_entry : Entry → ℕ → SnapView → SnapView
with_entry entry mark w =
    if nat_lt mark w.known
    then record w { before = w.before ++ entry ∷ [] }
    else record w { behind = w.behind ++ entry ∷ [] }

-- its section of the snapshot that it knows
abbrev pub own_section : SnapView → SectionView
own_section w = record { number = w.known; vertices = w.vertices; edges = w.edges; entries = w.before }

-- its section is sent
abbrev pub with_section : SnapView → SnapView
with_section w = record w { sent = w.known; before = []; unsure = w.unsure ++ length w.before ∷ [] }

-- how many updates its first section has that it isn't sure of
abbrev pub first_unsure : List ℕ → ℕ
first_unsure [] = 0
first_unsure (many ∷ unsure) = many

-- this snapshot is acknowledged, which has its first section that it wasn't sure of
abbrev pub with_committed : ℕ → SnapView → SnapView
with_committed k w = record w { acknowledged = k; unsure = drop 1 w.unsure; wanted = false }

-- it asks for the next snapshot: so many updates are outside the last one, and it didn't ask yet
abbrev pub has_to_ask : ℕ → SnapView → Bool
has_to_ask half w = not w.wanted && nat_le half (outside_of w)

-- it asks where it has to
abbrev pub with_asking : ℕ → SnapView → SnapView
with_asking half w = record w { wanted = w.wanted || has_to_ask half w }

-- the snapshot behind which it asks for one, where it has to
abbrev pub asked_behind : ℕ → SnapView → Option ℕ
asked_behind half w = if has_to_ask half w then Some w.acknowledged else None

-- ---- what is saved once

-- the numbers of the vertices and edges that were saved
abbrev pub saved_vertices_of : SnapView → List ℕ
saved_vertices_of w = map (λ pair. pair.0.0) w.vertices

abbrev pub saved_edges_of : SnapView → List ℕ
saved_edges_of w = map (λ pair. pair.0.0) w.edges

-- no vertex and no edge was saved twice
pub record IsSavedOnce (w : SnapView) : Type 0 where
  pub vertices : IsDistinct nat_eq (saved_vertices_of w)
  pub edges : IsDistinct nat_eq (saved_edges_of w)
