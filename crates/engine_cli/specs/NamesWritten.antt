-- The names of the files that are written for a verb.
use Rattle.std.specs.Prelude.{ℕ, List, [], ◌∷◌, Contains, Option, None, Some, Result, Ok, Err, IfSome}
use Rattle.gl_base.specs.declared.job_faults.JobFault.{JobFault}
use Rattle.gl_outside.specs.FilesState.{FilesState}
use Rattle.job_io.specs.job_config.Fields.{JobFields}
use Rattle.job_io.specs.job_config.Jobs.{JobSayings}
use Rattle.job_io.specs.whole_files.AtomNames.{cut_names}
use Rattle.job_io.specs.whole_files.FilesUsed.{OpensInOrder}
use Rattle.job_io.specs.job_files.DoableJobs.{job_for}
use Rattle.job_io.specs.job_files.JobTexts.{OfJob}
use Rattle.job_io.specs.declared.job_files.jobs.JobVerb.{JobVerb}
use Rattle.job_io.specs.declared.job_files.jobs.JobVerb.TheVariants.{Run, Resume, Cut, Init}

-- a name, or none
abbrev pub order_names : Option (List ℕ) → List (List ℕ)
order_names None = []
order_names (Some name) = name ∷ []

-- the files of a cut at a prefix, if there is one
abbrev pub names_at : Option (List ℕ) → ℕ → List (List ℕ)
names_at None atoms = []
names_at (Some prefix) atoms = cut_names prefix atoms

-- the files that a verb writes besides a store: `run` and `resume` that of the order, `cut` the index and the atoms, and `init` none
abbrev pub names_for : JobVerb → JobFields → List (List ℕ)
names_for Run job = order_names job.order
names_for Resume job = order_names job.order
names_for Cut job = names_at job.atoms_at job.atoms
names_for Init job = []

-- the same of a job that was read
abbrev pub written_for : JobVerb → Result JobSayings JobFault → List (List ℕ)
written_for verb (Ok job) = names_for verb job.fields
written_for verb (Err fault) = []

-- the names that files were created under are at most those that the job gives for the verb, in turn
abbrev pub WriteOpens : JobVerb → FilesState → FilesState → List ℕ → Type 0
WriteOpens verb old new file = IfSome (old.contents file) (λ bytes. OpensInOrder old.sinks.names new.sinks.names (written_for verb (job_for verb bytes)))

-- the job gives this name to a file that the verb writes
abbrev pub IsWrittenName : JobVerb → FilesState → List ℕ → List ℕ → Type 0
IsWrittenName verb files file name = OfJob verb files file (λ job. Contains (names_for verb job) name)
