-- What making the two texts of a graph leaves.
use Rattle.std.specs.Prelude.{◌≡◌, ℕ, ◌++◌, List, ⊤, IfSome, codes, take}
use Rattle.gl_base.specs.declared.jobs.MakePlan.{MakePlan}
use Rattle.gl_base.specs.declared.text_faults.TextFile.{TextFile}
use Rattle.gl_base.specs.declared.text_faults.TextFile.TheVariants.{Vertices, Edges}
use Rattle.gl_outside.specs.Faults.{Rose}
use Rattle.gl_outside.specs.FilesState.{FilesState}
use Rattle.graph_text.specs.generate.Making.{IsStride, offset_count, made_edges, made_vertices}
use Rattle.graph_text.specs.declared.generate.making.Writing.{Writing}
use Rattle.graph_text.specs.declared.generate.making.Writing.TheVariants as out
use Rattle.job_io.specs.whole_files.Leaves.{GivesText, KeepsOrGives}

-- what comes behind the prefix
abbrev pub ending_of : TextFile → List ℕ
ending_of Vertices = codes ".v"
ending_of Edges = codes ".e"

abbrev pub vertices_name : List ℕ → List ℕ
vertices_name prefix = prefix ++ ending_of Vertices

abbrev pub edges_name : List ℕ → List ℕ
edges_name prefix = prefix ++ ending_of Edges

-- the bytes are this text of the plan's graph
abbrev pub IsMade : MakePlan → TextFile → List ℕ → Type 0
IsMade plan Vertices bytes = bytes ≡ made_vertices plan
IsMade plan Edges bytes = (stride : ℕ) × IsStride (offset_count plan.vertices) stride × (bytes ≡ made_edges plan stride)

-- the bytes are a front of this text of the plan's graph
abbrev pub IsMadeFront : MakePlan → TextFile → List ℕ → Type 0
IsMadeFront plan text bytes = (whole : List ℕ) × IsMade plan text whole × (count : ℕ) × (bytes ≡ take count whole)

-- a name gives what it gave, or, where names are told, a front of this text of the plan's graph
abbrev pub LeavesFront : MakePlan → TextFile → FilesState → FilesState → List ℕ → Type 0
LeavesFront plan text old new name = KeepsOrGives old.sinks.names (old.contents name) (new.contents name) (IsMadeFront plan text)

-- where names are told this name gives this text of the plan's graph
abbrev pub LeavesText : MakePlan → TextFile → FilesState → FilesState → List ℕ → Type 0
LeavesText plan text old new name = IfSome old.sinks.names (λ told. GivesText (new.contents name) (IsMade plan text))

-- a fault of writing
abbrev pub IsFault : Writing → ℕ → ℕ → Type 0
IsFault out.WriteFault before now = Rose before now
IsFault out.NoMemory before now = ⊤
