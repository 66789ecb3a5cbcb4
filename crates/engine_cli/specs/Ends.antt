-- How runs end that have no store.
use Rattle.std.specs.Prelude.{⊤, Option, None, Some}
use Rattle.gl_base.specs.declared.numbers.Vertex.{Vertex}
use Rattle.engine_runs.specs.declared.answers.runs.StoredEnd.{StoredEnd}
use Rattle.engine_runs.specs.declared.answers.runs.StoredEnd.TheVariants.{DiskFault, Finished, Full, Spent}

-- the vertex that is left, if one is
abbrev pub left_at : StoredEnd → Option Vertex
left_at Finished = None
left_at (Spent left) = Some left
left_at (Full stored bytes) = None
left_at DiskFault = None

-- without a store a run ends as it leaves no task, or as its budget is spent
abbrev pub IsEndAlone : StoredEnd → Type 0
IsEndAlone Finished = ⊤
IsEndAlone (Spent left) = ⊤
IsEndAlone (Full stored bytes) = ⊥
IsEndAlone DiskFault = ⊥
