-- What is read before a verb does its work.
use Rattle.std.specs.Prelude.{◌≡◌, ℕ, List, [], ⊤, None, Result, Ok, Err}
use Rattle.gl_outside.specs.Faults.{Rose}
use Rattle.gl_outside.specs.FilesState.{FilesState}
use Rattle.graph_core.specs.DataGraph.{IsDataGraph}
use Rattle.job_io.specs.job_config.Failures.{first_faulty}
use Rattle.job_io.specs.job_config.Jobs.{JobSayings}
use Rattle.job_io.specs.job_config.Ranges.{HasNumbers}
use Rattle.job_io.specs.job_config.Views.{job_view}
use Rattle.job_io.specs.declared.job_files.inputs.Input.{Input}
use Rattle.job_io.specs.declared.job_files.inputs.NoInput.{NoInput}
use Rattle.job_io.specs.declared.job_files.inputs.NoInput.TheVariants as why
use Rattle.job_io.specs.declared.job_files.jobs.JobVerb.{JobVerb}
use Rattle.job_io.specs.whole_files.FilesUsed.{OpensInOrder}
use Rattle.job_io.specs.job_files.NamesRead.{names_of}
use Rattle.job_io.specs.job_files.Atoms.{HasAtoms, RefusesAtoms}
use Rattle.job_io.specs.job_files.DoableJobs.{doable}
use Rattle.job_io.specs.job_files.JobTexts.{DescribeJobGraph, HasStart, OfJob, OfTexts, RefusesJob, RefusesTexts, SaysJob}

-- a job that the verb can do, whose numbers are in their ranges, and of whose failures none is faulty
pub record IsReady (verb : JobVerb) (job : JobSayings) : Type 0 where
  pub doable : doable verb job ≡ Ok job
  pub numbers : HasNumbers job.fields
  pub failures : first_faulty job.fields.machines [] job.failures ≡ None

-- the job is that of the file, and the graph is that of its two texts and has the source that the algorithm needs; its edges have
-- a direction where the job says so
pub record IsInputFrom (verb : JobVerb) (files : FilesState) (file : List ℕ) (input : Input) : Type 0 where
  pub ready : IsReady verb (job_view input.job)
  pub job : SaysJob verb files file (job_view input.job)
  pub texts : OfTexts files (job_view input.job).fields (λ vertices edges. DescribeJobGraph (job_view input.job).fields vertices edges input.graph)
  pub graph : IsDataGraph input.graph
  pub directed : input.graph.directed ≡ input.job.directed
  pub start : HasStart input.job.algorithm input.job.source input.graph

-- the job with its graph; or why there is none
abbrev pub IsInput : JobVerb → FilesState → ℕ → List ℕ → Result Input NoInput → Type 0
IsInput verb files now file (Ok input) = IsInputFrom verb files file input
IsInput verb files now file (Err (why.BadJob fault)) = RefusesJob verb files file fault
IsInput verb files now file (Err (why.BadGraph fault)) = OfJob verb files file (RefusesTexts files fault)
IsInput verb files now file (Err (why.BadAtoms fault)) = ⊥
IsInput verb files now file (Err why.ReadFault) = Rose files.sources.faults now
IsInput verb files now file (Err why.NoMemory) = ⊤

-- What is read before a run: the job with its graph, and atoms that are those of the graph where the job names them; or why
-- there is none.
abbrev pub IsRunInput : JobVerb → FilesState → ℕ → List ℕ → Result Input NoInput → Type 0
IsRunInput verb files now file (Ok input) = IsInputFrom verb files file input × HasAtoms files (job_view input.job).fields
IsRunInput verb files now file (Err (why.BadJob fault)) = RefusesJob verb files file fault
IsRunInput verb files now file (Err (why.BadGraph fault)) = OfJob verb files file (RefusesTexts files fault)
IsRunInput verb files now file (Err (why.BadAtoms fault)) = OfJob verb files file (RefusesAtoms files fault)
IsRunInput verb files now file (Err why.ReadFault) = Rose files.sources.faults now
IsRunInput verb files now file (Err why.NoMemory) = ⊤

-- where the job or its graph is refused, the names of files that were read are those of the job's file and of its graph at
-- most, in turn
abbrev pub RefusesEarly : {T : Type 0} → JobVerb → List ℕ → FilesState → FilesState → Result T NoInput → Type 0
RefusesEarly verb file old new (Ok value) = ⊤
RefusesEarly verb file old new (Err (why.BadJob fault)) = OpensInOrder old.sources.names new.sources.names (names_of verb old file)
RefusesEarly verb file old new (Err (why.BadGraph fault)) = OpensInOrder old.sources.names new.sources.names (names_of verb old file)
RefusesEarly verb file old new (Err (why.BadAtoms fault)) = ⊤
RefusesEarly verb file old new (Err why.ReadFault) = ⊤
RefusesEarly verb file old new (Err why.NoMemory) = ⊤
