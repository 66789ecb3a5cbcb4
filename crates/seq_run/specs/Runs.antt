-- What a run of updates, one after another, has done so far.
use Rattle.std.specs.Prelude.{◌≡◌, ℕ, suc, ◌<◌, Bool, true, List, [], ◌∷◌, ◌++◌, length}
use Rattle.gl_base.specs.Lists.{AreEach}
use Rattle.gl_base.specs.declared.entries.Entry.{Entry}
use Rattle.gl_base.specs.declared.entries.Entry.TheVariants.{Go}
use Rattle.graph_core.specs.DataGraph.{DataGraph, size}
use Rattle.update_api.specs.Updates.{Update}
use Rattle.seq_run.specs.States.{GraphState}
use Rattle.seq_run.specs.Orders.{replay, tasks_after, IsFinished}

-- The graph, the program that updates it, and the order of the updates so far.
pub record RunView (P : Type 0) : Type 0 where
  pub graph : DataGraph
  pub program : P
  pub order : List Entry

-- the numbers that the replay of the order gives, where programs mean this
abbrev pub replayed : {P : Type 0} → (P → Update) → RunView P → GraphState
replayed meaning run = replay run.graph (meaning run.program) run.order

-- the tasks after the order
abbrev pub tasks_left : {P : Type 0} → (P → Update) → RunView P → ℕ → Bool
tasks_left meaning run = tasks_after run.graph (meaning run.program) run.order

-- some vertex is a task after the order
abbrev pub HasTask : {P : Type 0} → (P → Update) → RunView P → Type 0
HasTask meaning run = (u : ℕ) × (u < size run.graph) × (tasks_left meaning run u ≡ true)

-- no vertex is a task after the order
abbrev pub HasNoTask : {P : Type 0} → (P → Update) → RunView P → Type 0
HasNoTask meaning run = IsFinished run.graph (meaning run.program) run.order

-- updates of these vertices by machine 0, with tickets from this one on
abbrev pub updates_in_turn : ℕ → List ℕ → List Entry
updates_in_turn ticket [] = []
updates_in_turn ticket (v ∷ vs) = Go (record { 0 = 0 }) (record { 0 = v }) ticket ∷ updates_in_turn (suc ticket) vs

-- the order has updates by machine 0 alone, with tickets 0, 1, 2 and so on
abbrev pub IsUpdates : List Entry → Type 0
IsUpdates order = (vertices : List ℕ) × (order ≡ updates_in_turn 0 vertices)

-- the run, where these vertices were updated besides, in this order
abbrev pub with_updates : {P : Type 0} → RunView P → List ℕ → RunView P
with_updates run vertices = record run { order = run.order ++ updates_in_turn (length run.order) vertices }

-- so many updates were made besides
abbrev pub WentOn : {P : Type 0} → RunView P → RunView P → ℕ → Type 0
WentOn old new steps = (vertices : List ℕ) × (length vertices ≡ steps) × (new ≡ with_updates old vertices)

-- the list has the first n of these numbers
abbrev pub AreNumbers : ℕ → (ℕ → ℕ) → List ℕ → Type 0
AreNumbers n number numbers = AreEach n (λ k x. x ≡ number k) numbers
