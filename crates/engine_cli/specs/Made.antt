-- What `make` leaves.
use Rattle.std.specs.Prelude.{ℕ, List, ⊤}
use Rattle.gl_base.specs.declared.jobs.MakePlan.{MakePlan}
use Rattle.gl_base.specs.declared.text_faults.TextFile.TheVariants.{Vertices, Edges}
use Rattle.gl_outside.specs.Faults.{Rose}
use Rattle.gl_outside.specs.FilesState.{FilesState}
use Rattle.job_io.specs.job_words.CommandLine.{IsCommandLine}
use Rattle.gl_base.specs.Texts.{Text}
use Rattle.job_io.specs.declared.job_words.words.Words.{Words}
use Rattle.job_io.specs.declared.job_words.words.Words.TheVariants.{Run, Resume, Make, Cut, Init}
use Rattle.engine_cli.specs.declared.status.Status.{Status}
use Rattle.engine_cli.specs.declared.status.Status.TheVariants.{Done, Usage, BadJob, BadGraph, BadAtoms, ReadFault, WriteFault, DiskFault, BadStore, BudgetSpent, SnapshotsFull, NoMemory}
use Rattle.job_io.specs.graph_files.Made.{vertices_name, edges_name, LeavesText}

-- a command line that some words are
abbrev pub IsAsked : Words → Type 0
IsAsked asked = (words : List Text) × IsCommandLine words asked

-- a verb that does its work on files alone, as all but `run` and `resume` do
abbrev pub IsOfFiles : Words → Type 0
IsOfFiles (Run file report) = ⊥
IsOfFiles (Resume file report) = ⊥
IsOfFiles (Make prefix plan) = ⊤
IsOfFiles (Cut file) = ⊤
IsOfFiles (Init file) = ⊤

-- What making the two files says by its status: both names give the texts, where names are told; a write fault comes only
-- where the count rose.
abbrev pub Makes : MakePlan → List ℕ → FilesState → FilesState → Status → Type 0
Makes plan prefix old new Done = LeavesText plan Vertices old new (vertices_name prefix) × LeavesText plan Edges old new (edges_name prefix)
Makes plan prefix old new (Usage fault) = ⊥
Makes plan prefix old new (BadJob fault) = ⊥
Makes plan prefix old new (BadGraph fault) = ⊥
Makes plan prefix old new (BadAtoms fault) = ⊥
Makes plan prefix old new ReadFault = ⊥
Makes plan prefix old new WriteFault = Rose old.sinks.faults new.sinks.faults
Makes plan prefix old new DiskFault = ⊥
Makes plan prefix old new (BadStore fault) = ⊥
Makes plan prefix old new (BudgetSpent left) = ⊥
Makes plan prefix old new (SnapshotsFull stored length) = ⊥
Makes plan prefix old new NoMemory = ⊤
