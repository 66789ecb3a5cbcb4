-- A run without a store as one of the job.
use Rattle.std.proofs.Common.{◌≡◌, ◌≤◌, ◌+◌, ◌*◌, ℕ, List, None, length, subst}
use Rattle.graph_atoms.specs.declared.atom_gather.cuts.Cut.{Cut}
use Rattle.gl_base.specs.declared.jobs.EngineKind.{EngineKind}
use Rattle.gl_base.specs.declared.jobs.FailureAt.{FailureAt}
use Rattle.gl_base.specs.declared.numbers.Vertex.{Vertex}
use Rattle.graph_core.specs.DataGraph.{DataGraph, IsDataGraph}
use Rattle.job_io.specs.job_config.Jobs.{JobSayings}
use Rattle.job_io.specs.job_files.JobTexts.{HasStart}
use Rattle.placement.specs.plans.Plays.{IsPlacement}
use Rattle.placement.specs.declared.plans.runs.RunPlan.{RunPlan}
use Rattle.seq_run.specs.Orders.{IsFinished}
use Rattle.seq_run.specs.StepBound.{step_bound}
use Rattle.engine_runs.specs.Runs.{owned_shared}
use Rattle.engine_runs.specs.answers.Unstored.{EndsUnstored, IsUnstoredRun, RunLists}
use Rattle.engine_runs.specs.declared.answers.runs.StoredEnd.{StoredEnd}
use Rattle.engine_runs.specs.declared.answers.runs.StoredEnd.TheVariants as end
use Rattle.engine_runs.specs.declared.answers.runs.StoredRun.{StoredRun}
use Rattle.update_api.specs.Updates.{Update}
use Rattle.engine_cli.specs.JobRuns.{BeginsAgain, BoundsSteps, HasNamedMachines, IsEndAlone, IsRunBy, RunsThroughFailures, Shared, lists_of, plan_for, shared_by}
use Rattle.engine_cli.specs.Plays.{RunsByScopes, update_of}
use Rattle.engine_cli.proofs.Bounds.{bound-of}
use Rattle.engine_cli.proofs.Results.{results-of}

-- what is said of a program's run by this plan with these failures
abbrev OwnedBy : DataGraph → Cut → StoredRun → Update → RunPlan → List FailureAt → Type 0
OwnedBy g cut run p plan failures = (owner : ℕ → ℕ) → IsPlacement g cut plan.machines owner → IsUnstoredRun (owned_shared g p owner failures) plan.machines plan.budget run

abbrev NeverSpent : DataGraph → StoredRun → Update → RunPlan → List FailureAt → Type 0
NeverSpent g run p plan failures = (bound : ℕ) → BoundsSteps g p bound → (1 + length failures) * bound ≤ plan.budget → (left : Vertex) → run.end ≡ end.Spent left → ⊥

abbrev PlacedSo : DataGraph → Cut → RunPlan → Type 0
PlacedSo g cut plan = (owner : ℕ → ℕ) × IsPlacement g cut plan.machines owner

abbrev NamedBy : DataGraph → Cut → StoredRun → EngineKind → Update → RunPlan → List FailureAt → Type 0
NamedBy g cut run kind p plan failures = IsRunBy g cut p (record { run = plan; engine = kind; window = None }) failures (lists_of run)

-- by the names of the job
by-job : (Q : Update → RunPlan → List FailureAt → Type 0) (job : JobSayings) (p : Update) (plan : RunPlan) (failures : List FailureAt) → p ≡ update_of job.fields.algorithm job.fields.source → plan ≡ plan_for job → failures ≡ job.failures
    → Q p plan failures → Q (update_of job.fields.algorithm job.fields.source) (plan_for job) job.failures
by-job Q job p plan failures program planned ordered is =
    subst (λ (u : Update). Q u (plan_for job) job.failures) program (subst (λ (k : RunPlan). Q p k job.failures) planned (subst (λ (fs : List FailureAt). Q p plan fs) ordered is))

-- it has no end but these
end-alone : (shared : Shared) (budget : ℕ) (lists : RunLists) (how : StoredEnd) → EndsUnstored shared budget lists how → IsEndAlone how
end-alone shared budget lists end.Finished ends = tt
end-alone shared budget lists (end.Spent left) ends = tt
end-alone shared budget lists (end.Full stored bytes) ends = ends
end-alone shared budget lists end.DiskFault ends = ends

module _ (job : JobSayings) (g : DataGraph) (cut : Cut) (run : StoredRun) (is : IsDataGraph g) (start : HasStart job.fields.algorithm job.fields.source g) (edges : RunsByScopes job.fields.algorithm g)
    (owned : OwnedBy g cut run (update_of job.fields.algorithm job.fields.source) (plan_for job) job.failures) (placed : PlacedSo g cut (plan_for job))
    (never : NeverSpent g run (update_of job.fields.algorithm job.fields.source) (plan_for job) job.failures) where
  abbrev ends-in : (ℕ → ℕ) → StoredEnd → Type 0
  ends-in owner = EndsUnstored (shared_by job g owner) job.fields.budget (lists_of run)

  begins-again : (owner : ℕ → ℕ) → IsPlacement g cut job.fields.machines owner → BeginsAgain job (shared_by job g owner) run
  begins-again owner placement =
      let u : IsUnstoredRun (shared_by job g owner) job.fields.machines job.fields.budget run = owned owner placement in
      let finished : run.end ≡ end.Finished → IsFinished g (update_of job.fields.algorithm job.fields.source) run.order.items = λ same. subst (ends-in owner) same u.ends in
      record {
        is = u.is;
        again = u.again;
        few = u.few;
        numbers_are = u.numbers_are;
        finished = finished;
        results = λ same. results-of job.fields.algorithm job.fields.source g run.order.items run.numbers.items is start edges u.is.in_turn.valid u.numbers_are (finished same);
        spent = λ left same. subst (ends-in owner) same u.ends;
        enough = λ has left same. never (step_bound g job.fields.algorithm) (λ order valid. bound-of job.fields.algorithm job.fields.source g order is start edges valid) has left same;
      }

  goes-through : RunsThroughFailures job g cut run
  goes-through = record {
    placed = placed;
    goes = begins-again;
    ended = end-alone (shared_by job g placed.0) job.fields.budget (lists_of run) run.end (owned placed.0 placed.1).ends;
    snapshots = (owned placed.0 placed.1).snapshots;
  }

-- a run of this program by this plan with these failures
pub through-failures : (job : JobSayings) (g : DataGraph) (cut : Cut) (run : StoredRun) (p : Update) (plan : RunPlan) (failures : List FailureAt) → IsDataGraph g → HasStart job.fields.algorithm job.fields.source g → RunsByScopes job.fields.algorithm g
    → p ≡ update_of job.fields.algorithm job.fields.source → plan ≡ plan_for job → failures ≡ job.failures → OwnedBy g cut run p plan failures → PlacedSo g cut plan → NeverSpent g run p plan failures
    → RunsThroughFailures job g cut run
through-failures job g cut run p plan failures is start edges program planned ordered owned placed never =
    goes-through job g cut run is start edges (by-job (OwnedBy g cut run) job p plan failures program planned ordered owned) (subst (PlacedSo g cut) planned placed)
    (by-job (NeverSpent g run) job p plan failures program planned ordered never)

-- its machines are those that the job names
pub machines-without : (job : JobSayings) (g : DataGraph) (cut : Cut) (run : StoredRun) (p : Update) (plan : RunPlan) (failures : List FailureAt) → p ≡ update_of job.fields.algorithm job.fields.source → plan ≡ plan_for job → failures ≡ job.failures
    → NamedBy g cut run job.fields.engine p plan failures → HasNamedMachines job g cut run
machines-without job g cut run p plan failures program planned ordered named = by-job (NamedBy g cut run job.fields.engine) job p plan failures program planned ordered named
