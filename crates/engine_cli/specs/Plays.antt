-- Runs of a job's algorithm on a graph.
pub use Rattle.graph_programs.specs.selection.ProgramUpdates.{update_of_program}
pub use Rattle.placement.specs.plans.Plays.{CountsByMachine, IsPlay, IsSpent, RunsTo}
use Rattle.gl_base.specs.Lists.{AreEach}
use Rattle.std.specs.Prelude.{◌≡◌, ℕ, Bool, true, false, List, length, slice_index, ⊤, Option, None, Some}
use Rattle.gl_base.specs.declared.jobs.Algorithm.{Algorithm}
use Rattle.gl_base.specs.declared.jobs.Algorithm.TheVariants.{Levels, Components, Paths, Colours, Cores, Pairs}
use Rattle.gl_base.specs.declared.limits.TheConstants.{INF}
use Rattle.graph_core.specs.Colourings.{IsProperColouring}
use Rattle.graph_core.specs.Components.{IsComponentLabel}
use Rattle.graph_core.specs.DataGraph.{DataGraph, size}
use Rattle.graph_core.specs.Levels.{IsDistanceOrInf, IsLevelOrInf}
use Rattle.graph_programs.specs.selection.ProgramUpdates.{update_of_algorithm}
use Rattle.prog_match.specs.MaximalMatchings.{IsMaximalMatching}
use Rattle.seq_run.specs.CoreNumbers.{IsCoreNumber}
use Rattle.update_api.specs.Updates.{Update}
use Rattle.job_io.specs.job_files.JobTexts.{IsVertexOf}

-- the source's identifier; INF is none
abbrev pub source_id : Option ℕ → ℕ
source_id None = INF
source_id (Some id) = id

-- what an update of the algorithm does at a vertex
abbrev pub update_of : Algorithm → Option ℕ → Update
update_of algorithm source = update_of_algorithm algorithm (source_id source)

-- this holds of the vertex that the source names
abbrev pub FromSource : DataGraph → Option ℕ → (ℕ → Type 0) → Type 0
FromSource g source holds = (start : ℕ) × (id : ℕ) × (source ≡ Some id) × IsVertexOf g start id × holds start

-- edges have no direction, where the algorithm is one of such edges alone
abbrev pub HasEdgesFor : Algorithm → DataGraph → Type 0
HasEdgesFor Levels g = ⊤
HasEdgesFor Components g = ⊤
HasEdgesFor Paths g = ⊤
HasEdgesFor Colours g = ⊤
HasEdgesFor Cores g = g.directed ≡ false
HasEdgesFor Pairs g = g.directed ≡ false

-- updates of the algorithm write neighbours too
abbrev pub writes_neighbours : Algorithm → Bool
writes_neighbours Levels = false
writes_neighbours Components = false
writes_neighbours Paths = false
writes_neighbours Colours = false
writes_neighbours Cores = false
writes_neighbours Pairs = true

-- updates of the algorithm write their vertex and its edges alone, and the edges have no direction where it is one of such edges
abbrev pub RunsByScopes : Algorithm → DataGraph → Type 0
RunsByScopes Levels g = ⊤
RunsByScopes Components g = ⊤
RunsByScopes Paths g = ⊤
RunsByScopes Colours g = ⊤
RunsByScopes Cores g = g.directed ≡ false
RunsByScopes Pairs g = ⊥

-- with some numbers of the edges, the numbers of the vertices are a maximal matching
pub record AreMates (g : DataGraph) (numbers : List ℕ) : Type 0 where
  pub count : length numbers ≡ size g
  pub marks : ℕ → ℕ
  pub matching : IsMaximalMatching g (record { vertex = slice_index numbers; edge = marks })

-- the numbers are levels, component labels, distances or core numbers, a proper colouring, or a maximal matching
abbrev pub AreResults : Algorithm → Option ℕ → DataGraph → List ℕ → Type 0
AreResults Levels source g numbers = FromSource g source (λ start. AreEach (size g) (IsLevelOrInf g start) numbers)
AreResults Components source g numbers = AreEach (size g) (IsComponentLabel g) numbers
AreResults Paths source g numbers = FromSource g source (λ start. AreEach (size g) (IsDistanceOrInf g start) numbers)
AreResults Colours source g numbers = (length numbers ≡ size g) × IsProperColouring g (slice_index numbers)
AreResults Cores source g numbers = AreEach (size g) (IsCoreNumber g) numbers
AreResults Pairs source g numbers = AreMates g numbers
