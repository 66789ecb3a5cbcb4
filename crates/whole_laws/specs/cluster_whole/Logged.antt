-- Which snapshot is the first to have an update: the one behind the mark that its vertex had then.
use Rattle.std.specs.List.{AllByRecursion}
use Rattle.std.specs.Prelude.{Bool, List, filter, map, nat_le, suc, ℕ, ◌<◌, ◌≡◌, ◌≤◌}
use Rattle.gl_base.specs.declared.entries.Entry.{Entry}
use Rattle.cluster_laws.specs.cluster_core.Cuts.{cut_of}
use Rattle.cluster_laws.specs.cluster_core.Settings.{Setting}
use Rattle.cluster_laws.specs.cluster_core.Snapshots.{IsConsistent}
use Rattle.cluster_laws.specs.cluster_core.Worlds.{World}

-- an update, and the number of the first snapshot that has it
pub record Logged : Type 0 where
  pub entry : Entry
  pub number : ℕ

-- the entry alone
abbrev pub entry_of : Logged → Entry
entry_of l = l.entry

-- snapshot k has it
abbrev pub is_up_to : ℕ → Logged → Bool
is_up_to k l = nat_le l.number k

-- all updates, and those that snapshot k has
abbrev pub all_entries : List Logged → List Entry
all_entries logged = map entry_of logged

-- those that snapshot k has
abbrev pub entries_to : ℕ → List Logged → List Entry
entries_to k logged = map entry_of (filter (is_up_to k) logged)

-- The order is these updates, the newest snapshot's cut is those that it has, and none is of a later snapshot than the next one.
pub record IsLogged (st : Setting) (w : World) (kept : IsConsistent st w) (logged : List Logged) : Type 0 where
  pub order : kept.order ≡ all_entries logged
  pub cut : st.base < w.begun → cut_of kept.count kept.order ≡ entries_to w.begun logged
  pub low : AllByRecursion (λ l. l.number ≤ suc w.begun) logged
