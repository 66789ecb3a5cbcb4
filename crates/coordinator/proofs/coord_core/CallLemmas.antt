-- Outboxes in which calls alone wait, and whose they are.
use Rattle.std.proofs.Common.{◌≡◌, ℕ, suc, zero, ◌≤◌, Bool, true, false, Option, None, Some, List, [], ◌∷◌, length, replicate, refl, sym, ap, arith, ◌∙◌}
use Rattle.std.specs.Prelude.{◌↔◌, map, option_map, sum_by}
use Rattle.std.proofs.lemmas.List.{length-replicate}
use Rattle.gl_base.specs.declared.entries.Entry.{Entry}
use Rattle.gl_base.specs.declared.entries.Entry.TheVariants.{Restart}
use Rattle.std.specs.List.{list_all}
use Rattle.std.proofs.lemmas.Bool.{and_parts}
use Rattle.update_api.specs.declared.woken.Woken.TheVariants.{Nobody}
use Rattle.cluster_laws.specs.cluster_core.Parts.{Part}
use Rattle.cluster_laws.specs.cluster_core.Settings as law
use Rattle.cluster_laws.specs.cluster_model.Calls.{Begin, Committed, Wave, Step}
use Rattle.cluster_laws.specs.cluster_model.Leading.{Come, Snapshot, entries_held}
use Rattle.cluster_laws.specs.cluster_model.Machines.{Machine}
use Rattle.cluster_laws.specs.cluster_model.Rounds.{Rounds}
use Rattle.cluster_laws.specs.cluster_model.Totals.{total, total_from}
use Rattle.graph_core.specs.DataGraph.{DataEdge}
use Rattle.coordinator.specs.snap_update.Holding.{last_of_edge, last_of_vertex}
use Rattle.wire.specs.wire_msgs.Views as wire
use Rattle.coordinator.specs.coord_core.Coordinators.{AreCalls, AreStepsOf, Call, Cluster, Coordinator, CoordinatorView, HasCluster, IsComeOf, IsEngineOf, MessageView, OutboxesView, Setting, StepsView, TellsCall, waiting_at}
use Rattle.coordinator.specs.coord_core.Inner.Kept.{AreStepsKept, IsSavingKept}
use Rattle.coordinator.specs.coord_core.Saving.{SavingView, SectionView, come_at}
use Rattle.coordinator.specs.coord_core.Inner.Asking.{AreOutboxesOf, is_call}
use Rattle.coordinator.specs.declared.coord_core.steps.Engine.{Engine}
use Rattle.coordinator.specs.declared.coord_core.steps.Engine.TheVariants.{Chromatic, Locking}

-- ---- as events change them

pub none_wait : (out : OutboxesView) (machines : ℕ) → length out.machines ≡ machines → ((a : ℕ) → waiting_at out a ≡ []) → AreOutboxesOf out machines
none_wait out machines many none = record { many = many; calls = λ a. ap (λ (messages : List MessageView). list_all is_call messages) (none a) }

-- ---- a cluster of which they are

-- the call that a message is
abbrev call_of : MessageView → Call
call_of (wire.Begin k) = Begin k
call_of (wire.Committed k) = Committed k
call_of (wire.Wave k) = Wave k
call_of (wire.Step k) = Step k
call_of _ = Wave 0

told : (m : MessageView) → is_call m ≡ true → TellsCall m (call_of m)
told (wire.Begin k) is = refl
told (wire.Committed k) is = refl
told (wire.Wave k) is = refl
told (wire.Step k) is = refl
told _ is = absurd (cc)

all_told : (messages : List MessageView) → list_all is_call messages ≡ true → AreCalls messages (map call_of messages)
all_told [] all = tt
all_told (m ∷ messages) all = let parts = and_parts (is_call m) (list_all is_call messages) all in (told m parts.0, all_told messages parts.1)

abbrev some_edge : DataEdge
some_edge = record { from = 0; to = 0; weight = 0 }

-- an engine with so many colours
abbrev some_engine : Engine → law.Engine
some_engine Locking = law.Locking
some_engine (Chromatic colours) = law.Chromatic (λ v. 0) colours

is_engine : (engine : Engine) → IsEngineOf engine (some_engine engine)
is_engine Locking = refl
is_engine (Chromatic colours) = ((λ v. 0), refl)

some_steps : (engine : Engine) (s : StepsView) (rounds : Rounds) → rounds.steps ≡ s.colour → rounds.colour ≡ s.colour → rounds.since ≡ s.since → s.since ≤ 2 → AreStepsOf engine s rounds
some_steps Locking s rounds steps colour since few = tt
some_steps (Chromatic colours) s rounds steps colour since few = record { first = ((λ none. sym steps ∙ none), (λ none. steps ∙ none)); colour = colour; since = omega arith }

-- a graph of this size on so many machines
abbrev some_setting : SavingView → law.Engine → ℕ → Setting
some_setting s engine machines =
    record {
      graph = record { ids = replicate s.vertices 0; edges = replicate s.edges (some_edge); directed = false };
      program = record { start = λ id. 0; number = λ own nears. own; mark = λ own near. 0; woken = λ old new. Nobody };
      owner = λ v. 0;
      machines = machines;
      pipeline = 1;
      engine = engine;
      stored = s.stored;
      window = 0;
      start = record { vertex = λ v. 0; edge = λ e. 0 };
      base = 0;
    }

-- a section as it comes
abbrev come_of : SectionView → Come
come_of section =
    record {
      section = record { vertices = λ v. last_of_vertex section.vertices v; edges = λ e. last_of_edge section.edges e };
      entries = section.entries;
    }

-- a snapshot with so many updates, all of the first machine
abbrev lone_entries : ℕ → ℕ → List Entry
lone_entries many zero = replicate many (Restart 0)
lone_entries many (suc a) = []

abbrev some_snapshot : ℕ → Snapshot
some_snapshot many = record { number = 0; sections = λ a. record { section = record { vertices = λ v. None; edges = λ e. None }; entries = lone_entries many a } }

abbrev some_snapshots : Bool → ℕ → List Snapshot
some_snapshots true many = some_snapshot many ∷ []
some_snapshots false many = []

abbrev some_coordinator : CoordinatorView → ℕ → Coordinator
some_coordinator view machines =
    record {
      rounds = record { counting = view.counting; steps = view.steps.colour; colour = view.steps.colour; since = view.steps.since };
      begun = view.saving.begun;
      acknowledged = view.saving.acknowledged;
      come = λ a. option_map come_of (come_at view.saving.come a);
      wanted = view.saving.wanted;
      snapshots = some_snapshots view.saving.saved view.saving.entries;
      store_end = view.saving.store_end;
      out = λ a. map call_of (waiting_at view.out a);
    }

-- a machine that has nothing
abbrev some_part : Part
some_part =
    record {
      datum = λ v. record { value = 0; version = 0; mark = 0 };
      edge = λ e. 0;
      task = λ v. false;
      log = [];
      serial = 0;
      flying = 0;
      flight = λ s. None;
      stand = λ s. None;
      ready = λ s. false;
      holder = λ x s. None;
      queue = λ x. [];
      pending = λ v. false;
      known = 0;
      saved = record { vertices = λ v. None; edges = λ e. None };
      sent = 0;
      colour = 0;
      closed = false;
      out = λ q. [];
    }

abbrev some_machine : Machine
some_machine =
    record {
      part = some_part;
      sent = 0;
      received = 0;
      held = None;
      planned = λ s. false;
      plans = 0;
      before = [];
      behind = [];
      unsure = [];
      acknowledged = 0;
      wanted = false;
      done = 0;
      failed = false;
      out = [];
    }

abbrev some_cluster : CoordinatorView → ℕ → Cluster
some_cluster view machines =
    record {
      machine = λ a. some_machine;
      link = λ p q. [];
      calls = λ a. [];
      reports = λ a. [];
      coordinator = some_coordinator view machines;
      next = 0;
      left = 0;
      base = record { number = 0; order = []; numbers = record { vertex = λ v. 0; edge = λ e. 0 } };
      stopped = false;
    }

-- ---- its snapshots

comes : (told : Option SectionView) → IsComeOf told (option_map come_of told)
comes None = refl
comes (Some section) = record { saved = record { vertices = λ v. refl; edges = λ e. refl }; entries = refl }

none_at : (many a : ℕ) → 1 ≤ a → length (lone_entries many a) ≡ 0
none_at many zero low = absurd (omega arith)
none_at many (suc a) low = refl

none_sum : (k many : ℕ) (f : ℕ → ℕ) → ((a : ℕ) → k ≤ a → f a ≡ 0) → total_from k many f ≡ 0
unfolding total_from
none_sum k zero f none = refl
none_sum k (suc many) f none =
    let rest : total_from (suc k) many f ≡ 0 = none_sum (suc k) many f (λ a low. none a (omega arith)) in
    let first : f k ≡ 0 = none k (omega arith) in
    omega arith

lone_sum : (machines many : ℕ) → (machines ≡ 0 → many ≡ 0) → total machines (λ a. length (lone_entries many a)) ≡ many
unfolding total_from
lone_sum zero many lone = sym (lone refl)
lone_sum (suc n) many lone =
    let rest : total_from 1 n (λ a. length (lone_entries many a)) ≡ 0 = none_sum 1 n (λ a. length (lone_entries many a)) (λ a low. none_at many a low) in
    let first : length (replicate many (Restart 0)) ≡ many = length-replicate many (Restart 0) in
    omega arith

held_once : (st : Setting) (machines : ℕ) (saved : Bool) (many : ℕ) → st.machines ≡ machines → (machines ≡ 0 → many ≡ 0) → (saved ≡ false → many ≡ 0) →
    sum_by (entries_held st) (some_snapshots saved many) ≡ many
held_once st machines true many same lone first =
    let all : total st.machines (λ a. length (lone_entries many a)) ≡ many = ap (λ (n : ℕ). total n (λ a. length (lone_entries many a))) same ∙ lone_sum machines many lone in
    omega arith
held_once st machines false many same lone first = sym (first refl)

none_saved : (saved : Bool) (many : ℕ) → (some_snapshots saved many ≡ []) ↔ (saved ≡ false)
none_saved true many = ((λ is. absurd (cc)), (λ is. absurd (cc)))
none_saved false many = ((λ is. refl), (λ is. refl))

pub has_cluster : (view : CoordinatorView) (machines : ℕ) → AreOutboxesOf view.out machines → length view.saving.come ≡ machines → IsSavingKept view.saving → AreStepsKept view.steps → HasCluster view
has_cluster view machines are come kept steps = (
  some_setting view.saving (some_engine view.steps.engine) machines,
  some_cluster view machines,
  record {
    machines = are.many;
    engine = is_engine view.steps.engine;
    stored = refl;
    none = kept.plain;
    saving = λ _. record {
      vertices = length-replicate view.saving.vertices 0;
      edges = length-replicate view.saving.edges (some_edge);
      begun = refl;
      acknowledged = refl;
      machines = come;
      come = λ a _. comes (come_at view.saving.come a);
      wanted = refl;
      entries = held_once (some_setting view.saving (some_engine view.steps.engine) machines) machines view.saving.saved view.saving.entries refl (λ is. kept.lone (come ∙ is)) kept.first;
      first = none_saved view.saving.saved view.saving.entries;
      store_end = refl;
    };
    counting = refl;
    steps = some_steps view.steps.engine view.steps (some_coordinator view machines).rounds refl refl refl steps.since;
    out = λ a _. all_told (waiting_at view.out a) (are.calls a);
  },
)
