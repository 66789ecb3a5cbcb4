-- The coordinator, and what each event makes of it.
use Rattle.std.specs.Prelude.{Bool, List, None, Option, Some, [], false, length, suc, sum_by, true, ℕ, ⊤, ◌*◌, ◌++◌, ◌+◌, ◌<◌, ◌==◌, ◌||◌, ◌∷◌, ◌≡◌, ◌≤◌, ◌⊎◌}
use Rattle.gl_base.specs.declared.entries.Entry.{Entry}
use Rattle.gl_base.specs.declared.scopes.Counted.{Counted}
use Rattle.cluster_laws.specs.cluster_core.Messages.{Section}
use Rattle.cluster_laws.specs.cluster_core.Ranges.{set_at}
use Rattle.cluster_laws.specs.cluster_core.Settings.{Chromatic, Engine, Locking, Setting}
use Rattle.cluster_laws.specs.cluster_model.Calls.{Begin, Call, Committed, Count, Report, Saved, Step, Want, Wave}
use Rattle.cluster_laws.specs.cluster_model.Rounds.{Rounds, first_rounds, with_counts, with_step, with_wave}
use Rattle.cluster_laws.specs.cluster_model.Totals.{total}
use Rattle.cluster_laws.specs.cluster_model.TwoWaves.{ShowTheEnd}
use Rattle.cluster_laws.specs.cluster_model.Working.{sections}
use Rattle.graph_core.specs.DataGraph.{size}

-- a section as it has come
pub record Come : Type 0 where
  pub section : Section
  pub entries : List Entry

-- a snapshot that is acknowledged: of each machine its section
pub record Snapshot : Type 0 where
  pub number : ℕ
  pub sections : ℕ → Come

-- What the coordinator knows and tells.
pub record Coordinator : Type 0 where
  -- what it knows of its waves and steps
  pub rounds : Rounds
  -- the newest snapshot that was begun, and the newest that was acknowledged
  pub begun : ℕ
  pub acknowledged : ℕ
  -- the sections of the snapshot under way that have come
  pub come : ℕ → Option Come
  -- a machine asked for a snapshot after the newest acknowledged one
  pub wanted : Bool
  -- the snapshots that were acknowledged in this attempt, the first first
  pub snapshots : List Snapshot
  -- where the store's file ends, with place for the restarts that it doesn't have yet
  pub store_end : ℕ
  -- what waits to be sent to each machine
  pub out : ℕ → List Call

-- an attempt begins, with this snapshot as the newest one
abbrev pub first_coordinator : Setting → ℕ → ℕ → Coordinator
first_coordinator st base long =
    record {
      rounds = first_rounds st.machines;
      begun = base;
      acknowledged = base;
      come = λ a. None;
      wanted = false;
      snapshots = [];
      store_end = long;
      out = λ a. [];
    }

-- ---- what it knows of its snapshots

-- the section, where it has come
abbrev pub come_or : Option Come → Come
come_or None = record { section = record { vertices = λ v. None; edges = λ e. None }; entries = [] }
come_or (Some come) = come

-- how many updates the snapshot has beside the one before
abbrev pub entries_held : Setting → Snapshot → ℕ
entries_held st snapshot = total st.machines (λ a. length (snapshot.sections a).entries)

-- how many updates the snapshots of this attempt have
abbrev pub entries_in : Setting → Coordinator → ℕ
entries_in st c = sum_by (entries_held st) c.snapshots

-- the updates of which these counts tell
abbrev pub updates_told : Option Counted → ℕ
updates_told None = 0
updates_told (Some counted) = counted.updates

-- as many as the machines told in the last wave
abbrev pub HoldsAll : Setting → Coordinator → Type 0
HoldsAll st c = sum_by updates_told c.rounds.counting.waves.wave ≡ entries_in st c

-- the last two waves showed the end
pub record HasSeenTheEnd (c : Coordinator) : Type 0 where
  pub whole : c.rounds.counting.waiting ≡ false
  pub shown : ShowTheEnd c.rounds.counting.waves

-- ---- when something is due

-- snapshots are taken, none is under way, and a machine wants one, or the cluster is quiet and the last one lacks something
pub record SnapshotIsDue (st : Setting) (c : Coordinator) : Type 0 where
  pub stored : st.stored ≡ true
  pub none : c.acknowledged ≡ c.begun
  pub wanted : (c.wanted ≡ true) ⊎ (HasSeenTheEnd c × ((HoldsAll st c → ⊥) ⊎ (c.snapshots ≡ [])))

-- with locks waves and snapshots take turns
abbrev pub IsWaveTime : Engine → Coordinator → Type 0
IsWaveTime Locking c = c.acknowledged ≡ c.begun
IsWaveTime (Chromatic colour colours) c = ⊤

-- it is time for a wave, and all counts of the last one have come
pub record WaveIsDue (st : Setting) (c : Coordinator) : Type 0 where
  pub time : IsWaveTime st.engine c
  pub whole : c.rounds.counting.waiting ≡ false

-- how many bytes a record of these sections has, with the gate behind it
abbrev pub record_length : Setting → (ℕ → Come) → ℕ
record_length st sections =
    let edges = length st.graph.edges in
    8 + 16 * total st.machines (λ a. length (sections a).entries) + 8 * st.machines + 12 * size st.graph + 12 * edges + 9

-- a snapshot is under way, all sections have come, and the store has room for the record
pub record RecordIsDue (st : Setting) (c : Coordinator) : Type 0 where
  pub under : c.acknowledged < c.begun
  pub sections : (a : ℕ) → a < st.machines → (come : Come) × (c.come a ≡ Some come)

-- the store takes one record more of this length
pub record HasStoreRoom (st : Setting) (c : Coordinator) : Type 0 where
  pub few : c.acknowledged < 4096
  pub short : c.store_end + record_length st (λ a. come_or (c.come a)) ≤ 1073741824

-- ---- what it does

-- each machine is told this
abbrev pub calls_all : Call → Coordinator → Coordinator
calls_all call c = record c { out = λ a. c.out a ++ call ∷ [] }

-- the next snapshot begins
abbrev pub begins_snapshot : Coordinator → Coordinator
begins_snapshot c = record c { begun = suc c.begun; out = λ a. c.out a ++ Begin (suc c.begun) ∷ [] }

-- the next step begins
abbrev pub puts_step : Setting → Coordinator → Coordinator
puts_step st c =
    record c { rounds = with_step st.engine c.rounds; out = λ a. c.out a ++ Step (with_step st.engine c.rounds).colour ∷ [] }

-- each machine is asked for its counts
abbrev pub puts_wave : Coordinator → Coordinator
puts_wave c = record c { rounds = with_wave c.rounds; out = λ a. c.out a ++ Wave c.rounds.counting.put_out ∷ [] }

-- the report of machine a comes
abbrev pub takes_report : ℕ → Report → Coordinator → Coordinator
takes_report a (Saved k section entries) c = record c { come = set_at c.come a (Some (record { section = section; entries = entries })) }
takes_report a (Count k counts) c = record c { rounds = with_counts c.rounds a counts }
takes_report a (Want k) c = record c { wanted = c.wanted || k == c.acknowledged }

-- the snapshot under way is acknowledged
abbrev pub acknowledges : Setting → Coordinator → Coordinator
acknowledges st c =
    record c {
      acknowledged = c.begun;
      come = λ a. None;
      wanted = false;
      snapshots = c.snapshots ++ record { number = c.begun; sections = λ a. come_or (c.come a) } ∷ [];
      store_end = c.store_end + record_length st (λ a. come_or (c.come a));
      out = λ a. c.out a ++ Committed c.begun ∷ [];
    }

-- the first call for machine a goes away
abbrev pub hands_call : ℕ → List Call → Coordinator → Coordinator
hands_call a behind c = record c { out = set_at c.out a behind }
