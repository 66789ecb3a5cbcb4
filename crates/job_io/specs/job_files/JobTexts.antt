-- What a job's file and the two texts of its graph tell.
use Rattle.std.specs.Prelude.{◌≡◌, ◌<◌, ◌⊎◌, ℕ, Bool, true, false, List, slice_index, Option, Some, Ok, Err}
use Rattle.gl_base.specs.declared.job_faults.JobFault.{JobFault}
use Rattle.gl_base.specs.declared.job_faults.JobFault.TheVariants.{OutOfRange}
use Rattle.gl_base.specs.declared.job_faults.Key.TheVariants.{Source}
use Rattle.gl_base.specs.declared.jobs.Algorithm.{Algorithm}
use Rattle.gl_base.specs.declared.jobs.Algorithm.TheVariants.{Levels, Components, Paths, Colours, Cores, Pairs}
use Rattle.gl_base.specs.declared.text_faults.TextFault.{TextFault}
use Rattle.gl_outside.specs.FilesState.{FilesState}
use Rattle.graph_core.specs.DataGraph.{DataGraph, size}
use Rattle.graph_text.specs.Edges.{edges_of}
use Rattle.graph_text.specs.GraphTexts.{DescribeGraph, ListsIds}
use Rattle.graph_text.specs.Vertices.{vertices_of}
use Rattle.job_io.specs.job_config.Fields.{JobFields, needs_source}
use Rattle.job_io.specs.job_config.Jobs.{JobSayings}
use Rattle.job_io.specs.whole_files.FilesUsed.{OfText}
use Rattle.job_io.specs.declared.job_files.jobs.JobVerb.{JobVerb}
use Rattle.job_io.specs.job_files.DoableJobs.{job_for}

-- edges have weights for paths alone
abbrev pub is_weighted : Algorithm → Bool
is_weighted Levels = false
is_weighted Components = false
is_weighted Paths = true
is_weighted Colours = false
is_weighted Cores = false
is_weighted Pairs = false

-- the two texts tell the graph that the job is about
abbrev pub DescribeJobGraph : JobFields → List ℕ → List ℕ → DataGraph → Type 0
DescribeJobGraph job vertices edges g = DescribeGraph job.directed (is_weighted job.algorithm) vertices edges g

-- v is the vertex with this identifier
pub record IsVertexOf (g : DataGraph) (v id : ℕ) : Type 0 where
  pub inside : v < size g
  pub is : slice_index g.ids v ≡ id

-- some vertex has the source's identifier
abbrev pub IsThere : DataGraph → Option ℕ → Type 0
IsThere g source = (start : ℕ) × (id : ℕ) × (source ≡ Some id) × IsVertexOf g start id

-- the algorithm needs no source, or it is there
abbrev pub HasStart : Algorithm → Option ℕ → DataGraph → Type 0
HasStart Levels source g = IsThere g source
HasStart Components source g = Unit {0}
HasStart Paths source g = IsThere g source
HasStart Colours source g = Unit {0}
HasStart Cores source g = Unit {0}
HasStart Pairs source g = Unit {0}

-- the file says this job, which the verb can do
abbrev pub SaysJob : JobVerb → FilesState → List ℕ → JobSayings → Type 0
SaysJob verb files file job = OfText files file (λ bytes. job_for verb bytes ≡ Ok job)

-- this holds of all that the job says, which the file says
abbrev pub OfSaid : JobVerb → FilesState → List ℕ → (JobSayings → Type 0) → Type 0
OfSaid verb files file P = (job : JobSayings) × SaysJob verb files file job × P job

-- this holds of the values of that job
abbrev pub OfJob : JobVerb → FilesState → List ℕ → (JobFields → Type 0) → Type 0
OfJob verb files file P = OfSaid verb files file (λ job. P job.fields)

-- this holds of the job's two texts, which were read
abbrev pub OfTexts : FilesState → JobFields → (List ℕ → List ℕ → Type 0) → Type 0
OfTexts files job P = OfText files job.vertices (λ vertices. OfText files job.edges (λ edges. P vertices edges))

-- the vertex text lists identifiers, and over them the edge text has this first fault
pub record RefusesEdges (job : JobFields) (fault : TextFault) (vertices edges : List ℕ) : Type 0 where
  pub ids : List ℕ
  pub lists : ListsIds vertices ids
  pub refused : edges_of ids job.directed (is_weighted job.algorithm) edges ≡ Err fault

-- the vertex text has this first fault, or it has none and the edge text has it
abbrev pub RefusesTexts : FilesState → TextFault → JobFields → Type 0
RefusesTexts files fault job = OfText files job.vertices (λ vertices. vertices_of vertices ≡ Err fault) ⊎ OfTexts files job (RefusesEdges job fault)

-- the algorithm needs a source, the job has this one, and no vertex has its identifier
pub record LacksStart (job : JobFields) (g : DataGraph) (source : ℕ) : Type 0 where
  pub needed : needs_source job.algorithm ≡ true
  pub asked : job.source ≡ Some source
  pub lacks : (v : ℕ) → IsVertexOf g v source → ⊥

-- the two texts tell a graph that lacks the source
abbrev pub LacksSource : JobFields → ℕ → List ℕ → List ℕ → Type 0
LacksSource job source vertices edges = (g : DataGraph) × DescribeJobGraph job vertices edges g × LacksStart job g source

-- the job is refused for its source, which is no vertex
abbrev pub RefusesSource : FilesState → JobFault → JobFields → Type 0
RefusesSource files fault job = (source : ℕ) × (fault ≡ OutOfRange Source source) × OfTexts files job (LacksSource job source)

-- the job is refused for what its file says, or for its source
abbrev pub RefusesJob : JobVerb → FilesState → List ℕ → JobFault → Type 0
RefusesJob verb files file fault = OfText files file (λ bytes. job_for verb bytes ≡ Err fault) ⊎ OfJob verb files file (RefusesSource files fault)
