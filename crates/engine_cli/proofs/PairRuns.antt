-- Which jobs are run by scopes and which as pairs.
use Rattle.std.proofs.Common.{◌≡◌, ◌≢◌, ℕ, Bool, true, false, List, Option, refl, sym, ap, subst, ⊎_elim}
use Rattle.gl_base.specs.declared.jobs.Algorithm.{Algorithm}
use Rattle.gl_base.specs.declared.jobs.Algorithm.TheVariants.{Levels, Components, Paths, Colours, Cores, Pairs}
use Rattle.gl_outside.specs.FilesState.{FilesState}
use Rattle.graph_core.specs.DataGraph.{DataGraph}
use Rattle.job_io.specs.job_config.Jobs.{JobSayings}
use Rattle.job_io.specs.job_config.Views.{job_view}
use Rattle.job_io.specs.declared.job_files.inputs.Input.{Input}
use Rattle.job_io.specs.declared.job_files.jobs.JobVerb.{JobVerb}
use Rattle.job_io.specs.declared.job_stores.making.StoreError.TheVariants.{NoMemory}
use Rattle.engine_runs.specs.declared.answers.runs.StoredEnd.TheVariants as end
use Rattle.engine_runs.specs.declared.answers.runs.StoredRun.{StoredRun}
use Rattle.engine_cli.specs.Ends.{IsEndAlone}
use Rattle.engine_cli.specs.Inner.Prepares.{CanBeMatched, CanRun, IsMadeRun, IsRunnable, RunInputErrorCause, UsesNamed}
use Rattle.engine_cli.specs.JobRuns.{HasNamedMachines, RunsSo, RunsUnstored, RunsWithoutStore}
use Rattle.engine_cli.specs.Pairings.{RunsOfPairs}
use Rattle.engine_cli.specs.Plays.{HasEdgesFor, RunsByScopes, writes_neighbours}

-- ---- algorithms by what their updates write

pub not-pairs : (algorithm : Algorithm) (g : DataGraph) → RunsByScopes algorithm g → algorithm ≢ Pairs
not-pairs Levels g runs same = cc
not-pairs Components g runs same = cc
not-pairs Paths g runs same = cc
not-pairs Colours g runs same = cc
not-pairs Cores g runs same = cc
not-pairs Pairs g runs same = runs

pub by-scopes : (algorithm : Algorithm) (g : DataGraph) → writes_neighbours algorithm ≡ false → HasEdgesFor algorithm g → RunsByScopes algorithm g
by-scopes Levels g alone fits = tt
by-scopes Components g alone fits = tt
by-scopes Paths g alone fits = tt
by-scopes Colours g alone fits = tt
by-scopes Cores g alone fits = fits
by-scopes Pairs g alone fits = cc

pub alone-by-scopes : (algorithm : Algorithm) (g : DataGraph) → RunsByScopes algorithm g → writes_neighbours algorithm ≡ false
alone-by-scopes Levels g runs = refl
alone-by-scopes Components g runs = refl
alone-by-scopes Paths g runs = refl
alone-by-scopes Colours g runs = refl
alone-by-scopes Cores g runs = refl
alone-by-scopes Pairs g runs = absurd runs

pub are-pairs : (algorithm : Algorithm) → writes_neighbours algorithm ≡ true → algorithm ≡ Pairs
are-pairs Levels writes = absurd (no_truth writes)
  where
    no_truth : false ≡ true → ⊥
    no_truth e = cc
are-pairs Components writes = absurd (no_truth writes)
  where
    no_truth : false ≡ true → ⊥
    no_truth e = cc
are-pairs Paths writes = absurd (no_truth writes)
  where
    no_truth : false ≡ true → ⊥
    no_truth e = cc
are-pairs Colours writes = absurd (no_truth writes)
  where
    no_truth : false ≡ true → ⊥
    no_truth e = cc
are-pairs Cores writes = absurd (no_truth writes)
  where
    no_truth : false ≡ true → ⊥
    no_truth e = cc
are-pairs Pairs writes = refl

-- ---- jobs that can be run

pub matched : (input : Input) → CanRun input → input.job.algorithm ≡ Pairs → CanBeMatched input
matched input can pairs = ⊎_elim (λ (runs : IsRunnable input). absurd (not-pairs input.job.algorithm input.graph runs.edges_fit pairs)) (λ (matched : CanBeMatched input). matched) can

pub runnable : (input : Input) → CanRun input → input.job.algorithm ≢ Pairs → IsRunnable input
runnable input can other = ⊎_elim (λ (runs : IsRunnable input). runs) (λ (matched : CanBeMatched input). absurd (other matched.pairs)) can

-- a run by scopes without a store
pub by-scopes-made : (input : Input) (run : StoredRun) → IsRunnable input
    → RunsWithoutStore (job_view input.job) input.graph input.cut run input.job.failures.items → HasNamedMachines (job_view input.job) input.graph input.cut run
    → RunsUnstored (writes_neighbours input.job.algorithm) (job_view input.job) input.graph input.cut run
by-scopes-made input run can runs named =
    subst (λ (b : Bool). RunsUnstored b (job_view input.job) input.graph input.cut run) (sym (alone-by-scopes input.job.algorithm input.graph can.edges_fit)) (runs, named)

-- a run of pairs is one of the job
pub pairs-made : (told : Bool) (asked : JobVerb) (input : Input) (files : FilesState) (run : StoredRun) → CanBeMatched input → RunsOfPairs (job_view input.job) input.graph input.cut run → IsMadeRun told asked input files files run
pairs-made told asked input files run can is =
    let job : JobSayings = job_view input.job in
    let unstored : RunsUnstored (writes_neighbours input.job.algorithm) job input.graph input.cut run =
    subst (λ (b : Bool). RunsUnstored b job input.graph input.cut run) (sym (ap writes_neighbours can.pairs)) is in
    record {
      runs = subst (λ (s : Option (List ℕ)). RunsSo told asked files files.pasts job input.graph input.cut run s) (sym can.store) unstored;
      fault = λ (same : run.end ≡ end.DiskFault). absurd (subst IsEndAlone same is.ended);
    }

pub pairs-want : (told : Bool) (asked : JobVerb) (input : Input) (files : FilesState) → CanBeMatched input → RunInputErrorCause told asked input files files input.job.store NoMemory
pairs-want told asked input files can = subst (λ (s : Option (List ℕ)). RunInputErrorCause told asked input files files s NoMemory) (sym can.store) refl

pub pairs-use : (input : Input) (files : FilesState) → CanBeMatched input → UsesNamed input.job.store files files
pairs-use input files can = subst (λ (s : Option (List ℕ)). UsesNamed s files files) (sym can.store) refl
