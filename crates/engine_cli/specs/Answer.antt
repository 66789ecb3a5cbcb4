-- What a run of a job prints.
use Rattle.std.specs.Prelude.{◌≡◌, ℕ, Bool, true, if◌then◌else◌, List, [], Some}
use Rattle.gl_outside.specs.Disk.{DiskPast}
use Rattle.gl_outside.specs.FilesState.{FilesState}
use Rattle.graph_core.specs.DataGraph.{DataGraph}
use Rattle.job_io.specs.job_config.Fields.{JobFields, needs_source}
use Rattle.job_io.specs.job_config.Jobs.{JobSayings}
use Rattle.job_io.specs.job_files.JobTexts.{DescribeJobGraph, IsVertexOf}
use Rattle.job_io.specs.declared.job_files.jobs.JobVerb.{JobVerb}
use Rattle.graph_text.specs.order_text.Answers.{answer_text}
use Rattle.graph_text.specs.order_text.Orders.{order_text}
use Rattle.graph_text.specs.order_text.Reports.{report_text}
use Rattle.engine_runs.specs.declared.answers.runs.StoredEnd.TheVariants.{Finished}
use Rattle.graph_text.specs.sync_folds.Folds.{fold_of}
use Rattle.engine_cli.specs.JobRuns.{CallLists, MakesRun}

-- the report of an answer, where it is asked for, and else nothing
abbrev pub report_of : Bool → DataGraph → List ℕ → List ℕ → List ℕ
report_of report g numbers answer = if report then report_text g (fold_of numbers) answer else []

-- What a run prints: the answer, what is reported of it, and the lines of the order.
pub record Printed : Type 0 where
  pub answer : List ℕ
  pub report : List ℕ
  pub lines : List ℕ

-- The answer to the job about the graph that the two texts tell, with what is reported of it and the lines of the order: a run was made that
-- finished, and these are the texts of its numbers and of its order.
pub record IsAnswer (told : Bool) (asked : JobVerb) (old : FilesState) (new : List ℕ → DiskPast) (job : JobSayings) (report : Bool) (lists : CallLists) (printed : Printed) (vertices edges : List ℕ) : Type 0 where
  pub made : MakesRun told asked old new job lists Finished vertices edges
  pub spelled : printed.answer ≡ answer_text job.fields.algorithm made.graph.ids made.run.numbers.items
  pub reported : printed.report ≡ report_of report made.graph made.run.numbers.items printed.answer
  pub listed : printed.lines ≡ order_text made.graph.ids made.run.order.items

-- The two texts tell a graph, and where the algorithm needs the job's source it is one of the vertices.
pub record IsValid (job : JobFields) (vertices edges : List ℕ) : Type 0 where
  pub graph : DataGraph
  pub described : DescribeJobGraph job vertices edges graph
  pub source_there : needs_source job.algorithm ≡ true → (source : ℕ) → job.source ≡ Some source → (v : ℕ) × IsVertexOf graph v source
