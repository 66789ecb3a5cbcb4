-- What a run of pairs leaves.
use Rattle.std.proofs.Common.{◌≡◌, ◌≤◌, ◌<◌, ◌+◌, ◌*◌, ◌==◌, ◌&&◌, not, ℕ, Bool, true, List, [], ◌∷◌, length, All, Option, None, Some, sym, ◌∙◌, subst, ⊎_elim, arith}
use Rattle.std.specs.List.{AllByRecursion}
use Rattle.std.proofs.lemmas.Bool.{and_parts, ltb-true, or_cases}
use Rattle.std.proofs.lemmas.List.Elements.{All-from_get_or}
use Rattle.gl_base.specs.declared.entries.Entry.{Entry}
use Rattle.gl_base.specs.declared.entries.Entry.TheVariants.{Go, Restart}
use Rattle.gl_base.specs.declared.jobs.Algorithm.{Algorithm}
use Rattle.gl_base.specs.declared.jobs.Algorithm.TheVariants.{Pairs}
use Rattle.gl_base.specs.declared.jobs.FailureAt.{FailureAt}
use Rattle.gl_base.specs.declared.numbers.MachineNo.{MachineNo}
use Rattle.gl_base.specs.declared.numbers.Vertex.{Vertex}
use Rattle.graph_atoms.specs.declared.atom_gather.cuts.Cut.{Cut}
use Rattle.graph_core.specs.DataGraph.{DataGraph, IsDataGraph, size}
use Rattle.graph_text.specs.order_text.Orders.{IsEntryOf}
use Rattle.job_io.specs.job_config.Jobs.{JobSayings}
use Rattle.placement.specs.declared.graphs.cutting.Placement.{Placement}
use Rattle.placement.specs.declared.plans.runs.RunPlan.{RunPlan}
use Rattle.placement.specs.graphs.Placed.{placed_owner}
use Rattle.placement.specs.plans.Plans.{IsPlaced}
use Rattle.placement.specs.plans.Plays.{CountsByMachine, IsPlacement}
use Rattle.placement.proofs.places.OwnerLemmas.{owner_low}
use Rattle.seq_run.specs.Orders.{MayCome, all_tasks}
use Rattle.seq_run.specs.States.{GraphState}
use Rattle.seq_run.specs.StepBound.{step_bound}
use Rattle.seq_run.proofs.EachOf.{each_is}
use Rattle.full_scope.specs.FullOrders.{IsFullyValid, IsFullyValidFrom, full_entry, full_tasks_entry}
use Rattle.full_scope.specs.FullStates.{full_start, full_wakes}
use Rattle.full_scope.specs.FullUpdates.{FullUpdate}
use Rattle.full_scope.proofs.WithEach.{full_wakes-within}
use Rattle.full_cluster.specs.Owners.{owner_in}
use Rattle.full_cluster.specs.Written.{state_in}
use Rattle.full_runs.specs.FullEnds.{IsByOwner, IsFullPlay, RunsFullyTo}
use Rattle.full_runs.proofs.PairLemmas.{matches, unspent}
use Rattle.prog_match.specs.Pairs.{update_of_pairs}
use Rattle.engine_runs.specs.declared.answers.runs.StoredEnd.{StoredEnd}
use Rattle.engine_runs.specs.declared.answers.runs.StoredEnd.TheVariants as end
use Rattle.engine_runs.specs.declared.answers.runs.StoredRun.{StoredRun}
use Rattle.engine_cli.specs.Ends.{IsEndAlone, left_at}
use Rattle.engine_cli.specs.Pairings.{HasEnough, RunsOfPairs}
use Rattle.engine_cli.specs.Plays.{AreResults}

-- ---- each update of a valid order is of a vertex of the graph

module _ (g : DataGraph) (p : FullUpdate) (is : IsDataGraph g) where
  abbrev Within : (ℕ → Bool) → Type 0
  Within tasks = (u : ℕ) → tasks u ≡ true → u < size g

  within-more : (s : GraphState) (tasks : ℕ → Bool) (entry : Entry) → Within tasks → Within (full_tasks_entry g p s tasks entry)
  within-more s tasks (Go machine vertex ticket) within u task = ⊎_elim
      (λ (woken : full_wakes g p s vertex.0 u ≡ true). full_wakes-within g p s vertex.0 is u woken)
      (λ (was : (tasks u && not (u == vertex.0)) ≡ true). within u (and_parts (tasks u) (not (u == vertex.0)) was).0)
      (or_cases (full_wakes g p s vertex.0 u) (tasks u && not (u == vertex.0)) task)
  within-more s tasks (Restart ticket) within u task = ltb-true u (size g) task

  comes-within : (tasks : ℕ → Bool) (entry : Entry) → Within tasks → MayCome tasks entry → IsEntryOf g entry
  comes-within tasks (Go machine vertex ticket) within may = within vertex.0 may
  comes-within tasks (Restart ticket) within may = tt

  each-within : (s : GraphState) (tasks : ℕ → Bool) (order : List Entry) → Within tasks → IsFullyValidFrom g p s tasks order → AllByRecursion (IsEntryOf g) order
  each-within s tasks [] within valid = tt
  each-within s tasks (entry ∷ order) within valid = (
    comes-within tasks entry within valid.0,
    each-within (full_entry g p s entry) (full_tasks_entry g p s tasks entry) order (within-more s tasks entry within) valid.1,
  )

  pub entries-within : (order : List Entry) → IsFullyValid g p order → AllByRecursion (IsEntryOf g) order
  entries-within order valid = each-within (full_start g p) (all_tasks g) order (λ u task. ltb-true u (size g) task) valid

-- ---- each owner is one of the machines

pub owners-low : (g : DataGraph) (cut : Cut) (plan : RunPlan) (placed : Placement) (owner : List MachineNo) → IsPlaced g cut plan placed → length owner ≡ length placed.of.items →
    ((v : ℕ) → v < length placed.of.items → owner_in owner v ≡ placed_owner placed.of.items placed.owner.items v) → All (λ (m : MachineNo). m.0 < plan.machines) owner
owners-low g cut plan placed owner at count each =
    All-from_get_or (λ (m : MachineNo). m.0 < plan.machines) owner (record { 0 = 0 }) (λ v inside.
    let low : v < length placed.of.items = omega (arith, count, inside) in
    subst (λ (n : ℕ). n < plan.machines) (sym (each v low)) (owner_low g plan.machines placed.of.items placed.owner.items at.each at.atoms at.machines v (omega (arith, at.each, low))))

-- ---- the owner of its vertex made each update, by whichever list of owners

module _ (g : DataGraph) (one other : ℕ → ℕ) (alike : (v : ℕ) → v < size g → one v ≡ other v) where
  owner-of-one : (entry : Entry) → IsEntryOf g entry → IsByOwner one entry → IsByOwner other entry
  owner-of-one (Go machine vertex ticket) inside by = by ∙ alike vertex.0 inside
  owner-of-one (Restart ticket) inside by = tt

  owners-alike : (order : List Entry) → AllByRecursion (IsEntryOf g) order → AllByRecursion (IsByOwner one) order → AllByRecursion (IsByOwner other) order
  owners-alike [] inside by = tt
  owners-alike (entry ∷ order) inside by = (owner-of-one entry inside.0 by.0, owners-alike order inside.1 by.1)

  pub runs-alike : IsDataGraph g → (p : FullUpdate) (budget : ℕ) (order : List Entry) (values edges : List ℕ) (left : Option Vertex)
      → RunsFullyTo g p one budget order values edges left → RunsFullyTo g p other budget order values edges left
  runs-alike is p budget order values edges left runs =
      let play : IsFullPlay g p other order values edges = record {
        valid = runs.play.valid;
        tickets = runs.play.tickets;
        owners = owners-alike order (entries-within g p is order runs.play.valid) runs.play.owners;
        values_are = runs.play.values_are;
        edges_are = runs.play.edges_are;
      } in
      record { play = play; few = runs.few; ended = runs.ended }

-- ---- what is found, and how many updates are enough

module _ (job : JobSayings) (g : DataGraph) (is : IsDataGraph g) (pairs : job.fields.algorithm ≡ Pairs) (owner : ℕ → ℕ) (order : List Entry) (numbers edges : List ℕ) where
  abbrev Runs : Option Vertex → Type 0
  Runs left = RunsFullyTo g update_of_pairs owner job.fields.budget order numbers edges left

  -- where it left no task, the numbers are a maximal matching
  pub pairs-results : (how : StoredEnd) → Runs (left_at how) → how ≡ end.Finished → AreResults job.fields.algorithm job.fields.source g numbers
  pairs-results how runs same =
      let ends : Runs None = subst (λ (e : StoredEnd). Runs (left_at e)) same runs in
      subst (λ (a : Algorithm). AreResults a job.fields.source g numbers) (sym pairs)
      (record { count = ends.play.values_are.count; marks = (state_in numbers edges).edge; matching = matches g is owner job.fields.budget order numbers edges ends })

  -- as many updates as there are vertices are enough
  pub pairs-enough : job.failures ≡ [] → (how : StoredEnd) → Runs (left_at how) → HasEnough job g → (left : Vertex) → how ≡ end.Spent left → ⊥
  pairs-enough none how runs enough left same =
      let ends : Runs (Some left) = subst (λ (e : StoredEnd). Runs (left_at e)) same runs in
      let alone : (1 + 0) * step_bound g job.fields.algorithm ≤ job.fields.budget = subst (λ (fs : List FailureAt). (1 + length fs) * step_bound g job.fields.algorithm ≤ job.fields.budget) none enough in
      let bound : (1 + 0) * size g ≤ job.fields.budget = subst (λ (a : Algorithm). (1 + 0) * step_bound g a ≤ job.fields.budget) pairs alone in
      unspent g owner job.fields.budget order numbers edges left (omega (arith, bound)) ends

-- ---- the whole run

-- a run on a division is one on its graph, by its list of owners
pub runs-here : (p : FullUpdate) (graph g : DataGraph) (owners owner : List MachineNo) (budget : ℕ) (order : List Entry) (values edges : List ℕ) (left : Option Vertex) (how : StoredEnd)
    → graph ≡ g → owners ≡ owner → left_at how ≡ left → RunsFullyTo graph p (owner_in owners) budget order values edges left → RunsFullyTo g p (owner_in owner) budget order values edges (left_at how)
runs-here p graph g owners owner budget order values edges left how same alike is runs =
    let on_graph : RunsFullyTo g p (owner_in owners) budget order values edges left = subst (λ (x : DataGraph). RunsFullyTo x p (owner_in owners) budget order values edges left) same runs in
    let by_owner : RunsFullyTo g p (owner_in owner) budget order values edges left = subst (λ (o : List MachineNo). RunsFullyTo g p (owner_in o) budget order values edges left) alike on_graph in
    subst (λ (l : Option Vertex). RunsFullyTo g p (owner_in owner) budget order values edges l) (sym is) by_owner

module _ (job : JobSayings) (g : DataGraph) (cut : Cut) (is : IsDataGraph g) (pairs : job.fields.algorithm ≡ Pairs) (none : job.failures ≡ []) (plan : RunPlan) (machines : plan.machines ≡ job.fields.machines)
    (placed : Placement) (at : IsPlaced g cut plan placed) (owner : List MachineNo)
    (each : (v : ℕ) → v < length placed.of.items → owner_in owner v ≡ placed_owner placed.of.items placed.owner.items v) where
  pub pairs-run : (run : StoredRun) (edges : List ℕ) → RunsFullyTo g update_of_pairs (owner_in owner) job.fields.budget run.order.items run.numbers.items edges (left_at run.end) → IsEndAlone run.end
      → CountsByMachine job.fields.machines run.order.items run.done.items → run.lost.items ≡ [] → run.fired.items ≡ [] → run.snapshots.items ≡ [] → RunsOfPairs job g cut run
  pairs-run run edges runs ended counts lost fired snapshots =
      let owned : ℕ → ℕ = placed_owner placed.of.items placed.owner.items in
      let alike : (v : ℕ) → v < size g → owner_in owner v ≡ owned v = λ v inside. each v (omega (arith, at.each, inside)) in
      let by_places = runs-alike g (owner_in owner) owned alike is update_of_pairs job.fields.budget run.order.items run.numbers.items edges (left_at run.end) runs in
      record {
        owner = owned;
        placement = subst (λ (m : ℕ). IsPlacement g cut m owned) machines at.placement;
        edges = edges;
        runs = by_places;
        ended = ended;
        counts = counts;
        lost = lost;
        fired = fired;
        snapshots = snapshots;
        results = pairs-results job g is pairs owned run.order.items run.numbers.items edges run.end by_places;
        enough = pairs-enough job g is pairs owned run.order.items run.numbers.items edges none run.end by_places;
      }

-- such a run has a number for each vertex, and each update is of one
pub pairs-entries : (g : DataGraph) → IsDataGraph g → (owner : ℕ → ℕ) (budget : ℕ) (order : List Entry) (values edges : List ℕ) (left : Option Vertex)
    → RunsFullyTo g update_of_pairs owner budget order values edges left → All (IsEntryOf g) order
pairs-entries g is owner budget order values edges left runs = each_is (IsEntryOf g) order (entries-within g update_of_pairs is order runs.play.valid)
