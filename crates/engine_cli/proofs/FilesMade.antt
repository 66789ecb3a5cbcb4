-- What `make` and the order's file leave.
use Rattle.std.proofs.Common.{◌≡◌, ℕ, List, [], ◌∷◌, Option, Some, sym, ◌∙◌, subst}
use Rattle.gl_base.specs.declared.jobs.MakePlan.{MakePlan}
use Rattle.gl_base.specs.declared.text_faults.TextFile.TheVariants.{Vertices, Edges}
use Rattle.gl_outside.specs.Faults.{Rose}
use Rattle.graph_text.specs.declared.generate.making.Writing.{Writing}
use Rattle.gl_outside.specs.FilesState.{FilesState}
use Rattle.gl_base.specs.declared.names.Name.{Name}
use Rattle.job_io.specs.declared.job_words.words.Words.{Words}
use Rattle.job_io.specs.declared.job_words.words.Words.TheVariants.{Make}
use Rattle.job_io.specs.graph_files.Made.{IsFault, LeavesFront, edges_name, vertices_name}
use Rattle.engine_cli.specs.NamesWritten.{order_names}
use Rattle.job_io.specs.whole_files.FilesUsed.{WritesFiles}
use Rattle.engine_cli.specs.Made.{Makes}
use Rattle.engine_cli.specs.Status.{IsDoneOrNoMemory, status_of_writing}
use Rattle.engine_cli.specs.Verbs.{IsMaking}
use Rattle.engine_cli.specs.declared.status.Status.{Status}
use Rattle.engine_cli.specs.declared.status.Status.TheVariants.{Done, Usage, BadJob, BadGraph, BadAtoms, ReadFault, WriteFault, DiskFault, BadStore, BudgetSpent, SnapshotsFull, NoMemory}
use Rattle.graph_text.specs.declared.generate.making.Writing.TheVariants as out

-- making files comes to an end where no count rose
pub made-done : (plan : MakePlan) (prefix : List ℕ) (old new : FilesState) (status : Status)
    → Makes plan prefix old new status → (Rose old.sinks.faults new.sinks.faults → ⊥) → IsDoneOrNoMemory status
made-done plan prefix old new Done makes sound = tt
made-done plan prefix old new (Usage fault) makes sound = makes
made-done plan prefix old new (BadJob fault) makes sound = makes
made-done plan prefix old new (BadGraph fault) makes sound = makes
made-done plan prefix old new (BadAtoms fault) makes sound = makes
made-done plan prefix old new ReadFault makes sound = makes
made-done plan prefix old new WriteFault makes sound = sound makes
made-done plan prefix old new DiskFault makes sound = makes
made-done plan prefix old new (BadStore fault) makes sound = makes
made-done plan prefix old new (BudgetSpent left) makes sound = makes
made-done plan prefix old new (SnapshotsFull stored length) makes sound = makes
made-done plan prefix old new NoMemory makes sound = tt

-- what making both files says by its status
pub makes-of : (plan : MakePlan) (prefix : List ℕ) (old new : FilesState) (why : Writing) → IsFault why old.sinks.faults new.sinks.faults → Makes plan prefix old new (status_of_writing why)
makes-of plan prefix old new out.WriteFault fault = fault
makes-of plan prefix old new out.NoMemory fault = tt

-- what `make` leaves
pub is-making : (prefix : List ℕ) (plan : MakePlan) (old new : FilesState) (status : Status) → Makes plan prefix old new status
    → LeavesFront plan Vertices old new (vertices_name prefix) → LeavesFront plan Edges old new (edges_name prefix)
    → WritesFiles (vertices_name prefix ∷ edges_name prefix ∷ []) old new → IsMaking prefix plan old new status
is-making prefix plan old new status says vertices edges wrote =
    record { says = says; vertices = vertices; edges = edges; writes = wrote; complete = λ sound. made-done plan prefix old new status says sound }

-- the same of the words that were asked
pub making-asked : (words : Words) (p prefix : Name) (q plan : MakePlan) (spelled : List ℕ) (old new : FilesState) (status : Status) → words ≡ Make p q → words ≡ Make prefix plan
    → spelled ≡ p → IsMaking spelled q old new status → IsMaking prefix plan old new status
making-asked words p prefix q plan spelled old new status is asked spelled_is making =
    let same = sym is ∙ asked in
    let P : List ℕ → Type 0 = λ x. IsMaking x q old new status in
    let Q : MakePlan → Type 0 = λ y. IsMaking prefix y old new status in
    subst Q (same_plan same) (subst P (spelled_is ∙ same_prefix same) making)
  where
    same_prefix : {a b : Name} → {x y : MakePlan} → Make a x ≡ Make b y → a ≡ b
    same_prefix e = cc

    same_plan : {a b : Name} → {x y : MakePlan} → Make a x ≡ Make b y → x ≡ y
    same_plan e = cc

-- the file that a job names was written
pub writes-named : (order : Option (List ℕ)) (opened name : List ℕ) (old new : FilesState) → order ≡ Some name → opened ≡ name → WritesFiles (opened ∷ []) old new → WritesFiles (order_names order) old new
writes-named order opened name old new named is wrote =
    let O : Option (List ℕ) → Type 0 = λ o. WritesFiles (order_names o) old new in
    let N : List ℕ → Type 0 = λ n. WritesFiles (n ∷ []) old new in
    subst O (sym named) (subst N is wrote)
