-- A run without a store is one of the job.
use Rattle.job_io.specs.job_config.Views.{job_view}
use Rattle.engine_cli.proofs.Alone.{without_store}
use Rattle.engine_cli.proofs.StoredBy.{IfOk-both, IfOk-map, IfOk-two, printable-of}
use Rattle.engine_cli.proofs.ThroughFailures.{machines-without, through-failures}
use Rattle.engine_cli.specs.JobRuns.{RunsThroughFailures}
use Rattle.engine_cli.proofs.failing.run_without_store.Given as given
use Rattle.engine_cli.proofs.failing.run_without_store.Goals as goal
use Rattle.std.specs.Prelude.{IfOk}

through : (g : given.Over) (c : goal.After-run_unstored g) → IfOk c.run_unstored.result (RunsThroughFailures (job_view c.args.job.now) c.args.graph.now c.args.cut.now)
through g c =
    IfOk-two c.run_unstored.result _ _ _
    (λ run owned rest. through-failures (job_view c.args.job.now) c.args.graph.now c.args.cut.now run _ _ _ c.requires.graph c.requires.start c.requires.edges_fit c.program_of-program.ensures c.plan_of-plan.ensures c.deref.ensures.value owned rest.0 rest.1)
    c.run_unstored.ensures.run (IfOk-both c.run_unstored.result _ _ c.run_unstored.ensures.placed c.run_unstored.ensures.enough)

pub returns-clause-run : goal.returns-clause-run
returns-clause-run g c = IfOk-map c.run_unstored.result _ _ (λ run is. without_store (job_view c.args.job.now) c.args.graph.now c.args.cut.now run is) (through g c)

pub returns-clause-ended : goal.returns-clause-ended
returns-clause-ended g c = IfOk-map c.run_unstored.result _ _ (λ run is. is.ended) (through g c)

pub returns-clause-machines : goal.returns-clause-machines
returns-clause-machines g c =
    IfOk-map c.run_unstored.result _ _
    (λ run named. machines-without (job_view c.args.job.now) c.args.graph.now c.args.cut.now run _ _ _ c.program_of-program.ensures c.plan_of-plan.ensures c.deref.ensures.value named)
    c.run_unstored.ensures.engine

pub returns-clause-printable : goal.returns-clause-printable
returns-clause-printable g c = printable-of c.run_unstored.result c.args.graph.now c.run_unstored.ensures.numbers c.run_unstored.ensures.entries
