-- What the first attempt of a call begins with, and the course that opens so.
use Rattle.std.specs.Prelude.{Bool, List, [], false, filter, if◌then◌else◌, length, min, true, ⊤, ℕ, ◌+◌, ◌++◌, ◌-◌, ◌<◌, ◌^◌, ◌∷◌, ◌≡◌, ◌≤◌, ◌⊎◌}
use Rattle.std.specs.declared.alloc.Global.{Global}
use Rattle.std.specs.declared.vec.Vec.{Vec}
use Rattle.call_laws.specs.attempts.Entries.{is_restart}
use Rattle.engine_runs.specs.start.Starting.{AreColoursFor, AreJobFailures, Base, TraceView, AnyMachine, IsTraceNow, IsEngineAsked, IsAnyMachineOf, OpensCall, Setting, first_cluster, opening_from, restart_room, shared_of}
use Rattle.engine_runs.specs.declared.start.openings.Opening.{Opening}
use Rattle.coordinator.specs.declared.coord_core.steps.Engine.{Engine}
use Rattle.coordinator.specs.declared.coord_core.stores.Store.{Store}
use Rattle.gl_base.specs.declared.entries.Entry.{Entry}
use Rattle.gl_base.specs.declared.entries.Entry.TheVariants.{Restart}
use Rattle.gl_base.specs.declared.jobs.FailureAt.{FailureAt}
use Rattle.graph_core.specs.DataGraph.{DataGraph, size}
use Rattle.recovery.specs.opened_store.Opening.{IsGoodBase, ticket_above}
use Rattle.store.specs.declared.snap_journal.faults.JournalFault.{JournalFault}
use Rattle.store.specs.declared.snap_journal.faults.JournalFault.TheVariants.{BadStore, DiskFault, Failed, Full, NoMemory}
use Rattle.engine_runs.specs.declared.answers.runs.MachinePlan.{MachinePlan}
use Rattle.update_api.specs.Updates.{Update}

-- The base with a restart of this ticket behind its order, where the call resumes, and so many bytes more in the store.
pub record IsBaseOpened (resumed : Bool) (next : ℕ) (base opened : Base) : Type 0 where
  pub number : opened.number ≡ base.number
  pub order : opened.order.items ≡ base.order.items ++ (if resumed then Restart next ∷ [] else [])
  pub values : opened.values ≡ base.values
  pub edges : opened.edges ≡ base.edges
  pub length : opened.length ≡ base.length + restart_room resumed

-- What a call begins with that goes on from this base: the ticket behind its order, the base opened so, and the restarts of both orders.
pub record IsOpeningOf (resumed : Bool) (base : Base) (opening : Opening) : Type 0 where
  pub next : opening.next ≡ min (ticket_above base.order.items) (2 ^ 64 - 1)
  pub opened : IsBaseOpened resumed opening.next base opening.base
  pub stored : opening.restarts.stored.items ≡ filter is_restart base.order.items
  pub front : opening.restarts.front.items ≡ filter is_restart opening.base.order.items

-- why a call begins with nothing: a store of so many snapshots and bytes has no place for so many bytes more, or there was want of memory
abbrev pub OpeningErrorCause : ℕ → ℕ → ℕ → JournalFault → Type 0
OpeningErrorCause stored length more DiskFault = ⊥
OpeningErrorCause stored length more (BadStore fault) = ⊥
OpeningErrorCause stored length more (Full count bytes) = (count ≡ stored) × (bytes ≡ length) × (4294967296 ≤ length + more)
OpeningErrorCause stored length more Failed = ⊥
OpeningErrorCause stored length more NoMemory = ⊤

-- the base with this order
abbrev pub base_with : Vec Entry Global → Base → Base
base_with order base = record base { order = order }

-- In this setting a call can open from this base, resumed or not, with this first ticket and so many of them.
pub record CanOpenWith (st : Setting) (failures : List FailureAt) (resumed : Bool) (base : Base) (next budget : ℕ) : Type 0 where
  pub good : IsGoodBase (shared_of st failures) base
  pub ordered : AreJobFailures st.machines failures
  pub begins : (resumed ≡ true) ⊎ ((resumed ≡ false) × (base.order.items ≡ []))
  pub next_is : next ≡ ticket_above base.order.items
  pub few : next + budget < 2 ^ 64

-- The course has opened so, and nothing has happened yet.
pub record OpensWith {P : Type 0} (meaning : P → Update) (v : TraceView (AnyMachine P)) (st : Setting) (resumed : Bool) (base : Base) (budget : ℕ) : Type 0 where
  pub opens : OpensCall (IsAnyMachineOf meaning) v.start v.failures st (opening_from st resumed base budget)
  pub now : IsTraceNow (IsAnyMachineOf meaning) v st (opening_from st resumed base budget) [] (first_cluster st (opening_from st resumed base budget))

-- the store that a coordinator knows is that of this base of a graph
pub record IsStoreOf (g : DataGraph) (base : Base) (store : Store) : Type 0 where
  pub vertices : store.vertices ≡ size g
  pub edges : store.edges ≡ length g.edges
  pub newest : store.newest ≡ base.number
  pub length_is : store.length ≡ base.length

-- The graph may run by this engine and these colours, and they are those that the plan asks for, with so many scopes in flight.
pub record KeepsApart (g : DataGraph) (plan : MachinePlan) (engine : Engine) (pipeline : ℕ) (colours : List ℕ) : Type 0 where
  pub colours_are : AreColoursFor g engine colours
  pub asked : IsEngineAsked plan.engine plan.run.pipeline engine pipeline colours
