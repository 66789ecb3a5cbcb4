-- A valid job over valid texts has no fault.
use Rattle.std.proofs.Common.{◌≡◌, ℕ, ◌<◌, ◌≤◌, ◌+◌, ◌*◌, Bool, true, false, IsTrue, is_some, List, [], ◌∷◌, ◌++◌, length, get_or, Option, None, Some, IfSome, Result, Ok, Err, refl, sym, ◌∙◌, subst, arith, ⊎_elim}
use Rattle.gl_base.specs.declared.entries.Entry.{Entry}
use Rattle.gl_base.specs.declared.entries.Entry.TheVariants.{Go}
use Rattle.gl_base.specs.declared.jobs.FailureAt.{FailureAt}
use Rattle.gl_base.specs.declared.numbers.Vertex.{Vertex}
use Rattle.graph_core.specs.DataGraph.{DataGraph}
use Rattle.seq_run.specs.Orders.{IsFinished, IsValidOrder}
use Rattle.std.specs.List.Sorted.{IsPermutation}
use Rattle.gl_base.specs.declared.job_faults.JobFault.{JobFault}
use Rattle.gl_base.specs.declared.text_faults.TextFault.{TextFault}
use Rattle.graph_text.specs.Vertices.{vertices_of}
use Rattle.graph_text.specs.Edges.{edges_of}
use Rattle.graph_text.specs.GraphTexts.{ListsIds}
use Rattle.job_io.specs.job_config.Fields.{JobFields}
use Rattle.job_io.specs.job_config.Jobs.{JobSayings}
use Rattle.engine_cli.specs.declared.status.Status.{Status}
use Rattle.gl_base.specs.declared.atoms.AtomsFault.{AtomsFault}
use Rattle.gl_outside.specs.FilesState.{FilesState}
use Rattle.seq_run.specs.StepBound.{step_bound}
use Rattle.job_io.specs.whole_files.AtomNames.{index_name}
use Rattle.job_io.specs.declared.job_files.jobs.JobVerb.{JobVerb}
use Rattle.job_io.specs.job_files.Atoms.{FindsInAtoms, HasAtoms, OfJobCut, OfGraph, RefusesAtoms, atom_files, atoms_fault, given_bytes}
use Rattle.engine_cli.specs.StatusMeanings.{IsReadable}
use Rattle.engine_cli.specs.declared.status.Status.TheVariants.{Done, Usage, BadJob, BadGraph, BadAtoms, ReadFault, WriteFault, DiskFault, BadStore, BudgetSpent, SnapshotsFull, NoMemory}
use Rattle.engine_cli.specs.Status.{IsDoneOrNoMemory}
use Rattle.job_io.specs.job_files.JobTexts.{LacksSource, RefusesEdges, is_weighted, OfJob, OfSaid, OfTexts, RefusesSource, RefusesTexts, DescribeJobGraph, RefusesJob}
use Rattle.engine_cli.specs.Answer.{IsValid}
use Rattle.engine_cli.specs.JobRuns.{CallLists, HasEnough, IsEndAlone, MakesRun, RunsSo, RunsUnstored, RunsWithoutStore, is_resumed, left_at}
use Rattle.engine_cli.specs.JobStores.{IsNotRunFrom, RefusesStore}
use Rattle.engine_cli.specs.Plays.{IsSpent, update_of, writes_neighbours}
use Rattle.engine_cli.proofs.PairRuns.{by-scopes}
use Rattle.gl_outside.specs.Disk.{DiskPast}
use Rattle.job_io.specs.job_stores.JobHeaders.{header_for}
use Rattle.job_io.specs.job_stores.NewStores.{IfDisksTold}
use Rattle.std.specs.Prelude.{MatchOption}
use Rattle.engine_runs.specs.declared.answers.runs.StoredEnd.{StoredEnd}
use Rattle.engine_runs.specs.declared.answers.runs.StoredEnd.TheVariants as end
use Rattle.engine_runs.specs.declared.answers.runs.StoredEnd.TheVariants.{Spent}
use Rattle.update_api.specs.Updates.{Update}
use Rattle.engine_cli.specs.StatusMeanings.{HasSoundAtoms, IsSound, Moment, Refuses, StatusMeaning, RunOutcome}
use Rattle.job_io.specs.whole_files.FilesUsed.{OfRead}
use Rattle.job_io.proofs.whole_files.TextsRead.{OfRead-bytes}
use Rattle.engine_cli.proofs.Bounds.{bound-of, one-more, since-one-more}
use Rattle.job_io.proofs.job_files.SortedOnce.{sorted_once}
use Rattle.job_io.specs.job_files.DoableJobs.{job_for}

-- a text that lists identifiers has no fault
lists_no_fault : (bytes : List ℕ) (ids : List ℕ) (fault : TextFault) → ListsIds bytes ids → vertices_of bytes ≡ Err fault → ⊥
lists_no_fault bytes ids fault lists refused = ok_is_no_err (sym lists.lines ∙ refused)
  where
    ok_is_no_err : {X E : Type 0} → {x : X} → {e : E} → Ok x ≡ Err e → ⊥
    ok_is_no_err e = cc

-- a text lists identifiers in one order that ascends
pub one_list : (bytes a b : List ℕ) → ListsIds bytes a → ListsIds bytes b → a ≡ b
one_list bytes a b p q =
    let given : p.listed ≡ q.listed = same_ok (sym p.lines ∙ q.lines) in
    let P : List ℕ → Type 0 = λ xs. IsPermutation xs a in
    sorted_once q.listed a b p.are.ascending q.are.ascending (subst P given p.same) q.same
  where
    same_ok : {x y : List ℕ} → Ok x ≡ (let r : Result (List ℕ) TextFault = Ok y in r) → x ≡ y
    same_ok e = cc

-- what is said of the job that the file says is said of this one
pub of_said : (asked : JobVerb) (files : FilesState) (file : List ℕ) (P : JobSayings → Type 0) → (input : IsReadable asked files file) → OfSaid asked files file P → P input.job
of_said asked files file P input h =
    let told : job_for asked input.bytes ≡ Ok h.0 = OfRead-bytes files.sources.names (files.contents file) input.bytes (λ bytes. job_for asked bytes ≡ Ok h.0) input.bytes_told h.1 in
    subst P (same_ok h.0 input.job (sym told ∙ input.job_is)) h.2
  where
    same_ok : (x y : JobSayings) → Ok x ≡ (let r : Result JobSayings JobFault = Ok y in r) → x ≡ y
    same_ok x y e = cc

pub of_job : (asked : JobVerb) (files : FilesState) (file : List ℕ) (P : JobFields → Type 0) → (input : IsReadable asked files file) → OfJob asked files file P → P input.job.fields
of_job asked files file P input h = of_said asked files file (λ job. P job.fields) input h

-- a fact of the job's texts is a fact of their bytes
pub of_texts : (asked : JobVerb) (files : FilesState) (file : List ℕ) (P : List ℕ → List ℕ → Type 0) → (input : IsReadable asked files file)
    → OfTexts files input.job.fields P → P input.vertices input.edges
of_texts asked files file P input h =
    let names = files.sources.names in
    OfRead-bytes names (files.contents input.job.fields.edges) input.edges (P input.vertices) input.edges_told
    (OfRead-bytes names (files.contents input.job.fields.vertices) input.vertices (λ v. OfRead names (files.contents input.job.fields.edges) (P v)) input.vertices_told h)

-- an edge text that is valid over a graph's identifiers has no fault over those that the vertex text lists
edges_sound : (job : JobFields) (fault : TextFault) (vertices edges : List ℕ) → IsValid job vertices edges → RefusesEdges job fault vertices edges → ⊥
edges_sound job fault vertices edges valid bad =
    let same : bad.ids ≡ valid.graph.ids = one_list vertices bad.ids valid.graph.ids bad.lists valid.described.vertex_lines in
    let P : List ℕ → Type 0 = λ ids. edges_of ids job.directed (is_weighted job.algorithm) edges ≡ Err fault in
    contradicts (sym valid.described.edge_lines ∙ subst P same bad.refused)
  where
    contradicts : {X E : Type 0} → {x : X} → {e : E} → Ok x ≡ Err e → ⊥
    contradicts e = cc

-- the source of a valid job is not lacked
source_sound : (job : JobFields) (source : ℕ) (vertices edges : List ℕ) → IsValid job vertices edges → LacksSource job source vertices edges → ⊥
source_sound job source vertices edges valid bad =
    let g : DataGraph = bad.0 in
    let start = valid.source_there bad.2.needed source bad.2.asked in
    let same : valid.graph.ids ≡ g.ids = one_list vertices valid.graph.ids g.ids valid.described.vertex_lines bad.1.vertex_lines in
    let P : List ℕ → Type 0 = λ ids. (start.0 < length ids) × (get_or ids start.0 0 ≡ source) in
    let there = subst P same (start.1.inside, start.1.is) in
    bad.2.lacks start.0 (record { inside = there.0; is = there.1 })

-- a job that can be done is not refused
job_sound : (asked : JobVerb) (bytes : List ℕ) (job : JobSayings) (fault : JobFault) → job_for asked bytes ≡ Ok job → job_for asked bytes ≡ Err fault → ⊥
job_sound asked bytes job fault p q = contradicts (sym p ∙ q)
  where
    contradicts : {X E : Type 0} → {x : X} → {e : E} → Ok x ≡ Err e → ⊥
    contradicts e = cc

-- so a valid job is not refused
pub no_bad_job : (asked : JobVerb) (files : FilesState) (file : List ℕ) (fault : JobFault) → IsReadable asked files file → RefusesJob asked files file fault → ⊥
no_bad_job asked files file fault input says =
    ⊎_elim
    (λ refused. job_sound asked input.bytes input.job fault input.job_is
    (OfRead-bytes files.sources.names (files.contents file) input.bytes (λ bytes. job_for asked bytes ≡ Err fault) input.bytes_told refused))
    (λ lacks.
    let at = of_job asked files file (RefusesSource files fault) input lacks in
    source_sound input.job.fields at.0 input.vertices input.edges input.valid
    (of_texts asked files file (LacksSource input.job.fields at.0) input at.2))
    says

-- and its graph is not
pub no_bad_graph : (asked : JobVerb) (files : FilesState) (file : List ℕ) (fault : TextFault) → IsReadable asked files file → OfJob asked files file (RefusesTexts files fault) → ⊥
no_bad_graph asked files file fault input says =
    ⊎_elim
    (λ first. lists_no_fault input.vertices input.valid.graph.ids fault input.valid.described.vertex_lines
    (OfRead-bytes files.sources.names (files.contents input.job.fields.vertices) input.vertices (λ v. vertices_of v ≡ Err fault) input.vertices_told first))
    (λ second. edges_sound input.job.fields fault input.vertices input.edges input.valid
    (of_texts asked files file (RefusesEdges input.job.fields fault) input second))
    (of_job asked files file (RefusesTexts files fault) input says)

-- nor its atoms, where they have no fault
pub no_bad_atoms : (asked : JobVerb) (files : FilesState) (file : List ℕ) (fault : AtomsFault) → (input : IsReadable asked files file) → HasSoundAtoms files input.job.fields input.vertices input.edges
    → OfJob asked files file (RefusesAtoms files fault) → ⊥
no_bad_atoms asked files file fault input atoms says =
    let at = of_job asked files file (RefusesAtoms files fault) input says in
    let found = of_texts asked files file (OfGraph input.job.fields (λ g. FindsInAtoms files at.0 g (Some fault))) input at.2 in
    let none = atoms at.0 found.0 at.1 found.1 in
    let finds : atoms_fault found.0 (given_bytes files (index_name at.0)) (atom_files files at.0) ≡ Some fault = told files.sources.names none.0 _ found.3 in
    none_is_no_fault (sym none.1 ∙ finds)
  where
    is_no_truth : IsTrue false → ⊥
    is_no_truth e = cc

    told : (names : Option (List (List ℕ))) → IsTrue (is_some names) → (P : Type 0) → IfSome names (λ n. P) → P
    told None named P p = absurd (is_no_truth named)
    told (Some n) named P p = p

    none_is_no_fault : {f : AtomsFault} → None ≡ Some f → ⊥
    none_is_no_fault e = cc

-- the run of a job that names no store is one without a store
without : (told : Bool) (asked : JobVerb) (old : FilesState) (new : List ℕ → DiskPast) (job : JobSayings) (lists : CallLists) (ending : StoredEnd) (vertices edges : List ℕ)
    → (made : MakesRun told asked old new job lists ending vertices edges) → job.fields.store ≡ None → RunsUnstored (writes_neighbours job.fields.algorithm) job made.graph made.cut made.run
without told asked old new job lists ending vertices edges made none =
    subst (λ (s : Option (List ℕ)). RunsSo told asked old new job made.graph made.cut made.run s) none made.runs

-- so it ends as such a run does
ends_alone : (told : Bool) (asked : JobVerb) (old : FilesState) (new : List ℕ → DiskPast) (job : JobSayings) (lists : CallLists) (ending : StoredEnd) (vertices edges : List ℕ)
    → MakesRun told asked old new job lists ending vertices edges → job.fields.store ≡ None → IsEndAlone ending
ends_alone told asked old new job lists ending vertices edges made none =
    subst IsEndAlone made.ended (go (writes_neighbours job.fields.algorithm) (without told asked old new job lists ending vertices edges made none))
  where
    by_failures : (failures : List FailureAt) → RunsWithoutStore job made.graph made.cut made.run failures → IsEndAlone made.run.end
    by_failures [] runs = runs.ended
    by_failures (failure ∷ failures) runs = runs.ended

    go : (b : Bool) → RunsUnstored b job made.graph made.cut made.run → IsEndAlone made.run.end
    go false runs = by_failures job.failures runs.0
    go true runs = runs.ended

-- a budget of at least the step bound for each attempt is not spent
unspent : (told : Bool) (asked : JobVerb) (old : FilesState) (new : List ℕ → DiskPast) (job : JobSayings) (lists : CallLists) (left : Vertex) (vertices edges : List ℕ)
    → job.fields.store ≡ None → ((g : DataGraph) → DescribeJobGraph job.fields vertices edges g → HasEnough job g) → MakesRun told asked old new job lists (Spent left) vertices edges → ⊥
unspent told asked old new job lists left vertices edges none enough made =
    go (writes_neighbours job.fields.algorithm) refl (without told asked old new job lists (Spent left) vertices edges made none)
  where
    g : DataGraph
    g = made.graph

    p : Update
    p = update_of job.fields.algorithm job.fields.source

    order : List Entry
    order = made.run.order.items

    next : Entry
    next = Go (record { 0 = 0 }) left 0

    by_failures : writes_neighbours job.fields.algorithm ≡ false → (failures : List FailureAt) → job.failures ≡ failures → RunsWithoutStore job g made.cut made.run failures → ⊥
    by_failures scopes [] none was =
        let ends : StoredEnd → Type 0 = λ e. MatchOption (left_at e) (IsFinished g p order) (IsSpent g p job.fields.budget order) in
        let spent : IsSpent g p job.fields.budget order left = subst ends made.ended was.runs.ended in
        let longer : IsValidOrder g p (order ++ next ∷ []) = one-more g p order left was.runs.play.valid spent.task in
        let fits = by-scopes job.fields.algorithm g scopes made.edges_fit in
        let few = bound-of job.fields.algorithm job.fields.source g (order ++ next ∷ []) made.graph_is.graph.graph made.start fits longer in
        let alone : (1 + 0) * step_bound g job.fields.algorithm ≤ job.fields.budget =
        subst (λ (fs : List FailureAt). (1 + length fs) * step_bound g job.fields.algorithm ≤ job.fields.budget) none (enough g made.graph_is) in
        omega (arith, few, spent.spent, alone, since-one-more order left was.runs.play.tickets)
    by_failures scopes (failure ∷ failures) some was = (was.goes was.placed.0 was.placed.1).enough (enough g made.graph_is) left made.ended

    go : (b : Bool) → writes_neighbours job.fields.algorithm ≡ b → RunsUnstored b job g made.cut made.run → ⊥
    go false scopes was = by_failures scopes job.failures refl was.0
    go true writes was = was.enough (enough g made.graph_is) left made.ended

-- a job that names no store names none
no_store : (name : List ℕ) (store : Option (List ℕ)) → store ≡ None → store ≡ Some name → ⊥
no_store name store none some = none_is_some (sym none ∙ some)
  where
    none_is_some : {n : List ℕ} → None ≡ Some n → ⊥
    none_is_some e = cc

unnamed : (store : Option (List ℕ)) → store ≡ None → IsTrue (is_some store) → ⊥
unnamed store none some = absurd (is_no_truth (subst (λ (s : Option (List ℕ)). IsTrue (is_some s)) none some))
  where
    is_no_truth : IsTrue false → ⊥
    is_no_truth e = cc

-- what a valid job without a store and valid texts come to, where a run was made
run_is_done : (told : Bool) (asked : JobVerb) (file : List ℕ) (report : Bool) (before now : Moment) (tells : List ℕ → Type 0) (lists : CallLists) (status : Status)
    → RunOutcome told asked file report before now tells lists status → IsSound asked file before now → IsDoneOrNoMemory status
run_is_done told asked file report before now tells lists Done says sound = tt
run_is_done told asked file report before now tells lists (Usage fault) says sound = says
run_is_done told asked file report before now tells lists (BadJob fault) says sound = says
run_is_done told asked file report before now tells lists (BadGraph fault) says sound = says
run_is_done told asked file report before now tells lists (BadAtoms fault) says sound = says
run_is_done told asked file report before now tells lists ReadFault says sound = says
run_is_done told asked file report before now tells lists WriteFault says sound =
    ⊎_elim (λ first. sound.no_write_fault first.rose) (λ second. sound.no_fault_of_out second.rose) says.1.2.0
run_is_done told asked file report before now tells lists DiskFault says sound =
    let input = sound.input in
    let old : FilesState = before.files in
    let new : List ℕ → DiskPast = now.files.pasts in
    let made = of_said asked old file (λ job. HasAtoms old job.fields × OfTexts old job.fields (MakesRun told asked old new job lists end.DiskFault)) input says.1 in
    ends_alone told asked old new input.job lists end.DiskFault input.vertices input.edges (of_texts asked old file (MakesRun told asked old new input.job lists end.DiskFault) input made.1) sound.alone
run_is_done told asked file report before now tells lists (BadStore fault) says sound = says
run_is_done told asked file report before now tells lists (BudgetSpent left) says sound =
    let input = sound.input in
    let old : FilesState = before.files in
    let new : List ℕ → DiskPast = now.files.pasts in
    let made = of_said asked old file (λ job. HasAtoms old job.fields × OfTexts old job.fields (MakesRun told asked old new job lists (Spent left))) input says in
    unspent told asked old new input.job lists left input.vertices input.edges sound.alone sound.enough (of_texts asked old file (MakesRun told asked old new input.job lists (Spent left)) input made.1)
run_is_done told asked file report before now tells lists (SnapshotsFull stored length) says sound =
    let input = sound.input in
    let old : FilesState = before.files in
    let new : List ℕ → DiskPast = now.files.pasts in
    let made = of_said asked old file (λ job. HasAtoms old job.fields × OfTexts old job.fields (MakesRun told asked old new job lists (end.Full stored length))) input says in
    ends_alone told asked old new input.job lists (end.Full stored length) input.vertices input.edges
    (of_texts asked old file (MakesRun told asked old new input.job lists (end.Full stored length)) input made.1) sound.alone
run_is_done told asked file report before now tells lists NoMemory says sound = tt

-- it is not refused
not_refused : (told : Bool) (asked : JobVerb) (file : List ℕ) (before now : Moment) (status : Status)
    → Refuses told asked file before.files now.files status → IsSound asked file before now → IsDoneOrNoMemory status
not_refused told asked file before now Done says sound = tt
not_refused told asked file before now (Usage fault) says sound = says
not_refused told asked file before now (BadJob fault) says sound = no_bad_job asked before.files file fault sound.input says
not_refused told asked file before now (BadGraph fault) says sound = no_bad_graph asked before.files file fault sound.input says
not_refused told asked file before now (BadAtoms fault) says sound = no_bad_atoms asked before.files file fault sound.input sound.atoms says
not_refused told asked file before now ReadFault says sound = sound.no_read_fault says
not_refused told asked file before now WriteFault says sound = says
not_refused told asked file before now DiskFault says sound =
    unnamed sound.input.job.fields.store sound.alone (of_job asked before.files file (λ job. IsTrue (is_some job.store)) sound.input says.1)
not_refused told asked file before now (BadStore fault) says sound =
    let old : FilesState = before.files in
    let named = of_said asked old file
    (λ job. (name : List ℕ) × (job.fields.store ≡ Some name) × OfTexts old job.fields (OfGraph job.fields (λ g. IfDisksTold told old (RefusesStore (is_resumed asked) (header_for job.fields g) (old.pasts name).now.seen fault))))
    sound.input in
    let other = of_said asked old file
    (λ job. (name : List ℕ) × (job.fields.store ≡ Some name) × OfTexts old job.fields (OfGraph job.fields (λ g. OfJobCut old job.fields g (λ cut. IfDisksTold told old (IsNotRunFrom (is_resumed asked) job g cut (old.pasts name) (now.files.pasts name) fault)))))
    sound.input in
    ⊎_elim
    (λ refused. let at = named refused.0 in no_store at.0 sound.input.job.fields.store sound.alone at.1)
    (λ is. let at = other is in no_store at.0 sound.input.job.fields.store sound.alone at.1)
    says
not_refused told asked file before now (BudgetSpent left) says sound = says
not_refused told asked file before now (SnapshotsFull stored length) says sound = says
not_refused told asked file before now NoMemory says sound = tt

-- so it is done, or there was not enough memory
pub sound_is_done : (told : Bool) (asked : JobVerb) (file : List ℕ) (report : Bool) (before now : Moment) (tells : List ℕ → Type 0) (lists : CallLists) (status : Status)
    → StatusMeaning told asked file report before now tells lists status → IsSound asked file before now → IsDoneOrNoMemory status
sound_is_done told asked file report before now tells lists status says sound =
    ⊎_elim
    (λ made. run_is_done told asked file report before now tells lists status made sound)
    (λ refused. not_refused told asked file before now status refused.1 sound)
    says
