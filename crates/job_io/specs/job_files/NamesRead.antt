-- The names of the files that are read for a verb.
use Rattle.std.specs.Prelude.{◌≡◌, ◌⊎◌, ℕ, List, [], ◌∷◌, ◌++◌, ⊤, Option, None, Some, Result, Ok, Err}
use Rattle.gl_base.specs.declared.atoms.AtomsFault.{AtomsFault}
use Rattle.gl_base.specs.declared.job_faults.JobFault.{JobFault}
use Rattle.gl_base.specs.declared.text_faults.TextFault.{TextFault}
use Rattle.gl_outside.specs.FilesState.{FilesState}
use Rattle.graph_text.specs.Vertices.{vertices_of}
use Rattle.job_io.specs.job_config.Fields.{JobFields}
use Rattle.job_io.specs.job_config.Jobs.{JobSayings}
use Rattle.job_io.specs.declared.job_files.jobs.JobVerb.{JobVerb}
use Rattle.graph_atoms.specs.atom_gather.IndexForm.{atoms_in}
use Rattle.job_io.specs.whole_files.AtomNames.{atom_name, index_name}
use Rattle.job_io.specs.whole_files.FilesUsed.{OpensInOrder}
use Rattle.job_io.specs.whole_files.InTurn.{first_names}
use Rattle.job_io.specs.job_files.Atoms.{OfGraph, given_bytes, index_form}
use Rattle.job_io.specs.job_files.DoableJobs.{job_for}
use Rattle.job_io.specs.job_files.JobTexts.{OfJob, OfTexts}

-- the edge file, which is read where the vertex text has no fault
abbrev pub edges_behind : Result (List ℕ) TextFault → List ℕ → List (List ℕ)
edges_behind (Ok ids) edges = edges ∷ []
edges_behind (Err fault) edges = []

-- the same of what a name gives
abbrev pub edges_after : Option (List ℕ) → List ℕ → List (List ℕ)
edges_after None edges = []
edges_after (Some vertices) edges = edges_behind (vertices_of vertices) edges

-- the files that reading the job's graph reads
abbrev pub graph_names : FilesState → JobFields → List (List ℕ)
graph_names files job = job.vertices ∷ edges_after (files.contents job.vertices) job.edges

-- the files of the graph, where these bytes are a job
abbrev pub names_behind : FilesState → Result JobSayings JobFault → List (List ℕ)
names_behind files (Ok job) = graph_names files job.fields
names_behind files (Err fault) = []

-- the same of what a name gives
abbrev pub names_after : JobVerb → FilesState → Option (List ℕ) → List (List ℕ)
names_after verb files None = []
names_after verb files (Some bytes) = names_behind files (job_for verb bytes)

-- the files that are read for a verb: the job's file, and where that is a job those of its graph
abbrev pub names_of : JobVerb → FilesState → List ℕ → List (List ℕ)
names_of verb files file = file ∷ names_after verb files (files.contents file)

-- so many atoms, where there is no fault
abbrev pub unless_fault : Option AtomsFault → ℕ → ℕ
unless_fault None atoms = atoms
unless_fault (Some fault) atoms = 0

-- the number of atoms that an index has, where it has its length and form
abbrev pub atoms_of_index : List ℕ → ℕ
atoms_of_index index = unless_fault (index_form index) (atoms_in index)

-- the files at a prefix that are read: the index, and the atoms of its number
abbrev pub atoms_names : FilesState → List ℕ → List (List ℕ)
atoms_names files prefix = index_name prefix ∷ first_names (atom_name prefix) (atoms_of_index (given_bytes files (index_name prefix)))

-- The names of files that are read for a run are at most the job's file and those of its graph, in turn; and where the job
-- names a prefix, and the graph has no fault, those of the atoms there behind them.
abbrev pub RunOpens : JobVerb → FilesState → FilesState → List ℕ → Type 0
RunOpens verb old new file =
    OpensInOrder old.sources.names new.sources.names (names_of verb old file)
    ⊎ OfJob verb old file (λ job. (prefix : List ℕ) × (job.atoms_at ≡ Some prefix) × OfTexts old job (OfGraph job (λ g. ⊤))
    × OpensInOrder old.sources.names new.sources.names (names_of verb old file ++ atoms_names old prefix))
