-- What the coordinator knows of snapshots.
pub use Rattle.wire.specs.wire_msgs.Views.{SectionView, section_view}
use Rattle.std.specs.List.{IsDistinct}
use Rattle.std.specs.Prelude.{Bool, List, None, Option, Some, [], false, is_some, length, map, nat_eq, replicate, slice_index_or, slice_set, true, ℕ, ⊤, ◌*◌, ◌+◌, ◌<◌, ◌==◌, ◌||◌, ◌≡◌, ◌≤◌, ◌⊎◌}
use Rattle.gl_base.specs.declared.entries.Entry.{Entry}
use Rattle.cluster_laws.specs.cluster_model.Totals.{total}

pub record SavingView : Type 0 where
  -- whether snapshots are taken; how many vertices and edges the graph has, where they are
  pub stored : Bool
  pub vertices : ℕ
  pub edges : ℕ
  -- the newest snapshot that was begun, and the newest that was acknowledged
  pub begun : ℕ
  pub acknowledged : ℕ
  -- the sections of the snapshot under way that have come
  pub come : List (Option SectionView)
  -- a machine asked for a snapshot after the newest acknowledged one
  pub wanted : Bool
  -- how many updates the snapshots of this attempt have, and whether there is one
  pub entries : ℕ
  pub saved : Bool
  -- where the store's file ends
  pub store_end : ℕ

-- what is known of a store: the sizes of its graph, its newest snapshot, and where its file ends
pub record StoreView : Type 0 where
  pub vertices : ℕ
  pub edges : ℕ
  pub newest : ℕ
  pub store_end : ℕ

-- no snapshots are taken on so many machines
abbrev pub saving_nothing : ℕ → SavingView
saving_nothing machines =
    record {
      stored = false;
      vertices = 0;
      edges = 0;
      begun = 0;
      acknowledged = 0;
      come = replicate machines None;
      wanted = false;
      entries = 0;
      saved = false;
      store_end = 0;
    }

-- an attempt begins, with the newest snapshot of this store
abbrev pub saved_before : ℕ → StoreView → SavingView
saved_before machines store =
    record {
      stored = true;
      vertices = store.vertices;
      edges = store.edges;
      begun = store.newest;
      acknowledged = store.newest;
      come = replicate machines None;
      wanted = false;
      entries = 0;
      saved = false;
      store_end = store.store_end;
    }

-- an attempt begins: with this store, or without one
abbrev pub saving_first : ℕ → Option StoreView → SavingView
saving_first machines None = saving_nothing machines
saving_first machines (Some store) = saved_before machines store

-- ---- sections

-- the section of machine a, where it has come
abbrev pub come_at : List (Option SectionView) → ℕ → Option SectionView
come_at come a = slice_index_or come a None

-- the entries of a section, where it has come
abbrev pub entries_told : Option SectionView → List Entry
entries_told None = []
entries_told (Some section) = section.entries

-- the sections of all machines have come
abbrev pub HaveAllCome : List (Option SectionView) → Type 0
HaveAllCome come = (a : ℕ) → a < length come → is_some (come_at come a) ≡ true

-- how many entries the first so many sections have that have come
abbrev pub entries_come : ℕ → List (Option SectionView) → ℕ
entries_come n come = total n (λ a. length (entries_told (come_at come a)))

-- no vertex and no edge stands in a section twice
pub record IsApart (section : SectionView) : Type 0 where
  pub vertices : IsDistinct nat_eq (map (λ pair. pair.0.0) section.vertices)
  pub edges : IsDistinct nat_eq (map (λ pair. pair.0.0) section.edges)

abbrev pub IsApartWhereCome : Option SectionView → Type 0
IsApartWhereCome None = ⊤
IsApartWhereCome (Some section) = IsApart section

-- ---- when a record is due, and whether the store takes it

-- how many bytes the record of the sections that have come has, with the gate behind it
abbrev pub saved_length : SavingView → ℕ
saved_length s = 8 + 16 * entries_come (length s.come) s.come + 8 * length s.come + 12 * s.vertices + 12 * s.edges + 9

-- snapshots are taken, one is under way, and all sections have come
pub record IsRecordDue (s : SavingView) : Type 0 where
  pub stored : s.stored ≡ true
  pub under : s.acknowledged < s.begun
  pub sections : HaveAllCome s.come

-- the store takes one record more of this length
pub record HasRoomForRecord (s : SavingView) : Type 0 where
  pub few : s.acknowledged < 4096
  pub short : s.store_end + saved_length s ≤ 1073741824

-- ---- when a snapshot is due

-- Snapshots are taken, none is under way, and a machine wants one, or the cluster is quiet and the snapshots don't have as many
-- updates as were told, or there is none.
pub record IsSnapshotDue (s : SavingView) (quiet : Bool) (updates : ℕ) : Type 0 where
  pub stored : s.stored ≡ true
  pub none : s.acknowledged ≡ s.begun
  pub wanted : (s.wanted ≡ true) ⊎ ((quiet ≡ true) × ((updates ≡ s.entries → ⊥) ⊎ (s.saved ≡ false)))

-- ---- what changes it

-- the next snapshot begins
abbrev pub saving_begun : SavingView → SavingView
saving_begun s = record s { begun = s.begun + 1 }

-- the section of machine a has come
abbrev pub saving_section : ℕ → SectionView → SavingView → SavingView
saving_section a section s = record s { come = slice_set s.come a (Some section) }

-- a machine wants a snapshot after this one
abbrev pub with_want : ℕ → SavingView → SavingView
with_want k s = record s { wanted = s.wanted || k == s.acknowledged }

-- the snapshot under way is acknowledged
abbrev pub with_acknowledged : SavingView → SavingView
with_acknowledged s =
    record s {
      acknowledged = s.begun;
      come = replicate (length s.come) None;
      wanted = false;
      entries = s.entries + entries_come (length s.come) s.come;
      saved = true;
      store_end = s.store_end + saved_length s;
    }
