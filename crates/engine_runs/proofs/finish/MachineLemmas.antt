-- What is read of a machine that takes part in snapshots.
use Rattle.std.proofs.Common.{List, ap, get_or, length, slice_index, subst, sym, true, ℕ, ◌&&◌, ◌<◌, ◌==◌, ◌∙◌, ◌≡◌}
use Rattle.std.specs.Prelude.{nat_lt}
use Rattle.std.proofs.lemmas.Bool.{and_parts, eqb-true, ltb-true}
use Rattle.std.proofs.lemmas.List.{get_or-map}
use Rattle.gl_base.specs.declared.numbers.AtomNo.{AtomNo}
use Rattle.gl_base.specs.declared.numbers.MachineNo.{MachineNo}
use Rattle.gl_base.specs.declared.scopes.Datum.{Datum}
use Rattle.cluster_step.proofs.trace.Going.{setting_now}
use Rattle.cluster_step.specs.trace.Traces.{CallOpening, Cluster, TraceView, IsTraceNow, Machine, Setting, first_setting, newest_setting}
use Rattle.engine_runs.specs.finish.Gathered.{IsAnyMachineOf, IsTaskIn, OfEach, placed_owner}
use Rattle.engine_runs.specs.finish.Inner.Cores.{Chromatic, Core, AnyMachine, Locking, core_held}
use Rattle.cluster_laws.proofs.cluster_core.Nearness.{owner_takes_part, scoped_itself}
use Rattle.cluster_laws.specs.cluster_core.Parts.{Part}
use Rattle.cluster_laws.specs.cluster_core.Scopes.{takes_part}
use Rattle.cluster_laws.specs.cluster_core.Settings.{IsSetting}
use Rattle.cluster_laws.specs.cluster_model.Events as law
use Rattle.graph_core.specs.DataGraph.{size}
use Rattle.local_graph.specs.Locals.{machine_numbers}
use Rattle.partition.specs.machine_numbers.Views.{datum_here}
use Rattle.machine_core.specs.machine_parts.Parts.{is_own, task_here}
use Rattle.update_api.specs.Updates.{Update}
use Rattle.call_laws.proofs.whole_calls.Leading.{behind_since}

-- The machine of the law has a part of the graph, and it looks like these parts.
record HoldsPart (st : Setting) (a : ℕ) (m : Machine) (core : Core) : Type 0 where
  own : (v : ℕ) → is_own core.numbers.local v ≡ (nat_lt v (size st.graph) && (st.owner v == core.numbers.local.me.0))
  number : core.numbers.local.me.0 ≡ a
  tasks : (u : ℕ) → m.part.task u ≡ task_here core.numbers u
  vertices : (v : ℕ) → v < size st.graph → takes_part st v a ≡ true → m.part.datum v ≡ datum_here core.numbers v

-- a machine of either engine has one
holds_part : {P : Type 0} (meaning : P → Update) (x : AnyMachine P) (st : Setting) (a : ℕ) (m : Machine) → IsAnyMachineOf meaning st a m x → HoldsPart st a m (core_held x)
holds_part meaning (Locking x) st a m is = record { own = is.here.local.own; number = is.number; tasks = λ u. ap (λ (p : Part). p.task u) is.part.rest; vertices = is.part.vertices }
holds_part meaning (Chromatic x) st a m is = record { own = is.here.part.part.local.own; number = is.number; tasks = λ u. ap (λ (p : Part). p.task u) is.part.rest; vertices = is.part.vertices }

module _ {P : Type 0} (meaning : P → Update) (x : AnyMachine P) (st : Setting) (a : ℕ) (m : Machine) (is : IsAnyMachineOf meaning st a m x) where
  abbrev core : Core
  core = core_held x

  held : HoldsPart st a m core
  held = holds_part meaning x st a m is

  -- its tasks
  pub tasks_are : (u : ℕ) → m.part.task u ≡ task_here core.numbers u
  tasks_are = held.tasks

  -- what it owns
  pub owner_is : (v : ℕ) → is_own core.numbers.local v ≡ true → (v < size st.graph) × (st.owner v ≡ a)
  owner_is v own =
      let both = and_parts (nat_lt v (size st.graph)) (st.owner v == a) (sym (held.own v ∙ ap (λ (k : ℕ). nat_lt v (size st.graph) && (st.owner v == k)) held.number) ∙ own) in
      (ltb-true v (size st.graph) both.0, eqb-true (st.owner v) a both.1)

  -- the number of a vertex that it owns
  pub number_is : IsSetting st → (v : ℕ) → v < size st.graph → st.owner v ≡ a → (datum_here core.numbers v).value ≡ (m.part.datum v).value
  number_is setting v low owned =
      sym (ap (λ (d : Datum). d.value) (held.vertices v low (subst (λ (k : ℕ). takes_part st v k ≡ true) owned (owner_takes_part st setting v v low (scoped_itself st setting v)))))

-- where a vertex is placed, as it is read
pub placed_at : (of : List AtomNo) (owner : List MachineNo) (v : ℕ) (atom : AtomNo) (m : MachineNo) → v < length of → atom.0 < length owner → atom ≡ get_or of v atom → m ≡ get_or owner atom.0 m → placed_owner of owner v ≡ m.0
placed_at of owner v atom m low below atom_is m_is =
    ap (slice_index (machine_numbers owner)) (get_or-map (λ (a : AtomNo). a.0) of v atom 0 low ∙ ap (λ (a : AtomNo). a.0) (sym atom_is))
    ∙ get_or-map (λ (k : MachineNo). k.0) owner atom.0 m 0 below ∙ ap (λ (k : MachineNo). k.0) (sym m_is)

-- ---- in a course

module _ {M : Type 0} (represents : Setting → ℕ → Machine → M → Type 0) (v : TraceView M) (st : Setting) (o : CallOpening) (events : List law.Event) (c : Cluster) (now : IsTraceNow represents v st o events c) where
  abbrev last : Setting
  last = newest_setting st o events

  -- the newest attempt has the same graph and owners
  pub graph_now : size last.graph ≡ size st.graph
  graph_now = ap (λ (s : Setting). size s.graph) (behind_since events (first_setting st o))

  pub owner_now : (u : ℕ) → last.owner u ≡ st.owner u
  owner_now u = ap (λ (s : Setting). s.owner u) (behind_since events (first_setting st o))

  -- a task of a machine is one of the vertex's owner
  pub task_in : (a u : ℕ) → (c.machine a).part.task u ≡ true → (u < size last.graph) × (last.owner u ≡ a) → IsTaskIn st c u
  task_in a u task own = (
    subst (λ (n : ℕ). u < n) graph_now own.0,
    subst (λ (k : ℕ). (c.machine k).part.task u ≡ true) (sym own.1 ∙ owner_now u) task,
  )

  -- what is so of the machine is so in the course
  pub of_machine : (holds : Setting → ℕ → Machine → Type 0) (a : ℕ) (x : M) → represents last a (c.machine a) x → OfEach represents x holds → holds last a (c.machine a)
  of_machine holds a x is all = all last a (c.machine a) (setting_now st o events now.setting) is

  pub number_in : {P : Type 0} (meaning : P → Update) (a : ℕ) (x : AnyMachine P) → IsAnyMachineOf meaning last a (c.machine a) x → (u : ℕ) → u < size st.graph → st.owner u ≡ a → (datum_here (core_held x).numbers u).value ≡ ((c.machine (st.owner u)).part.datum u).value
  number_in meaning a x is u low owned =
      number_is meaning x last a (c.machine a) is (setting_now st o events now.setting).is u (subst (λ (n : ℕ). u < n) (sym graph_now) low) (owner_now u ∙ owned)
      ∙ ap (λ (k : ℕ). ((c.machine k).part.datum u).value) (sym owned)
