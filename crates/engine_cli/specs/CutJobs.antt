-- What `cut` leaves.
use Rattle.std.specs.Prelude.{◌≡◌, ◌⊎◌, ◌+◌, ℕ, List, ⊤, Some}
use Rattle.gl_outside.specs.Faults.{Rose}
use Rattle.gl_outside.specs.FilesState.{FilesState}
use Rattle.job_io.specs.whole_files.AtomNames.{cut_name}
use Rattle.job_io.specs.whole_files.InTurn.{LeavesFiles, LeavesFronts}
use Rattle.job_io.specs.graph_files.Cuts.{OfCut}
use Rattle.job_io.specs.job_files.Atoms.{OfGraph}
use Rattle.job_io.specs.job_files.JobTexts.{OfJob, OfTexts, RefusesJob, RefusesTexts}
use Rattle.engine_cli.specs.declared.status.Status.{Status}
use Rattle.engine_cli.specs.declared.status.Status.TheVariants.{Done, Usage, BadJob, BadGraph, BadAtoms, ReadFault, WriteFault, DiskFault, BadStore, BudgetSpent, SnapshotsFull, NoMemory}
use Rattle.job_io.specs.declared.job_files.jobs.JobVerb.TheVariants as verb

-- this holds of the job's prefix, of its number of atoms, and of the files of the cut of its graph
abbrev pub OfCutJob : FilesState → List ℕ → (List ℕ → ℕ → (ℕ → List ℕ) → Type 0) → Type 0
OfCutJob files file P =
    OfJob verb.Cut files file
    (λ job. (prefix : List ℕ) × (job.atoms_at ≡ Some prefix) × OfTexts files job (OfGraph job (λ g. OfCut g job.atoms (P prefix job.atoms))))

-- What `cut` says by its status: each file gives its bytes, where names are told; or why there is no cut.
abbrev pub Cuts : List ℕ → FilesState → FilesState → Status → Type 0
Cuts file old new Done = OfCutJob old file (λ prefix atoms text. LeavesFiles (cut_name prefix) text (atoms + 1) old new)
Cuts file old new (Usage fault) = ⊥
Cuts file old new (BadJob fault) = RefusesJob verb.Cut old file fault
Cuts file old new (BadGraph fault) = OfJob verb.Cut old file (RefusesTexts old fault)
Cuts file old new (BadAtoms fault) = ⊥
Cuts file old new ReadFault = Rose old.sources.faults new.sources.faults
Cuts file old new WriteFault = Rose old.sinks.faults new.sinks.faults
Cuts file old new DiskFault = ⊥
Cuts file old new (BadStore fault) = ⊥
Cuts file old new (BudgetSpent left) = ⊥
Cuts file old new (SnapshotsFull stored length) = ⊥
Cuts file old new NoMemory = ⊤

-- no name gives anything else, or each file of the cut gives what it gave, or a front of its bytes
abbrev pub LeavesCutFronts : List ℕ → FilesState → FilesState → Type 0
LeavesCutFronts file old new =
    (new.contents ≡ old.contents) ⊎ OfCutJob old file (λ prefix atoms text. LeavesFronts (cut_name prefix) text (atoms + 1) old new)
