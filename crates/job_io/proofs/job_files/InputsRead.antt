-- What reading a job, its graph and its atoms says at each place where it ends.
use Rattle.std.proofs.Common.{◌≡◌, ◌≤◌, ◌+◌, ◌++◌, inl, inr, ℕ, List, [], ◌∷◌, length, take, Option, None, Some, Result, Ok, Err, refl, sym, ap, subst, ⊎_elim, append-nil}
use Rattle.std.specs.Prelude.{⊤}
use Rattle.std.proofs.Math.Seq.{take-append-add}
use Rattle.graph_atoms.specs.declared.atom_gather.cuts.Cut.{Cut}
use Rattle.gl_base.specs.declared.job_faults.JobFault.TheVariants.{OutOfRange}
use Rattle.gl_base.specs.declared.job_faults.Key.TheVariants.{Source}
use Rattle.gl_outside.specs.FilesState.{FilesState}
use Rattle.gl_outside.specs.Frames.{ChangesSources}
use Rattle.gl_outside.specs.Names.{AppendsNames}
use Rattle.gl_outside.proofs.Fronts.{Rose-later}
use Rattle.graph_core.specs.DataGraph.{DataGraph}
use Rattle.graph_text.specs.Vertices.{vertices_of}
use Rattle.graph_text.specs.declared.lists.Reading.{Reading}
use Rattle.graph_text.specs.declared.lists.Reading.TheVariants as reading
use Rattle.job_io.specs.job_config.Fields.{JobFields}
use Rattle.job_io.specs.job_config.Jobs.{JobSayings}
use Rattle.job_io.specs.job_config.Views.{job_view}
use Rattle.job_io.specs.whole_files.FilesUsed.{OpensInOrder}
use Rattle.job_io.proofs.whole_files.NamesHanded.{AppendsNames-trans}
use Rattle.job_io.proofs.whole_files.TextsRead.{OfRead-two, text-before}
use Rattle.job_io.specs.declared.job_files.inputs.Input.{Input}
use Rattle.job_io.specs.declared.job_files.inputs.NoInput.{NoInput}
use Rattle.job_io.specs.declared.job_files.inputs.NoInput.TheVariants as why
use Rattle.job_io.specs.declared.job_files.jobs.JobVerb.{JobVerb}
use Rattle.job_io.specs.declared.job_files.jobs.NoJob.{NoJob}
use Rattle.job_io.specs.declared.job_files.jobs.NoJob.TheVariants as no_job
use Rattle.job_io.specs.job_files.Atoms.{FindsInAtoms, IsCutAt, OfGraph}
use Rattle.job_io.specs.job_files.Inner.AtomsRead.{LooksAtAtoms, TakesNamedAtoms, named_atoms}
use Rattle.job_io.specs.job_files.Inner.Causes.{no_input_of_graph, no_input_of_job}
use Rattle.job_io.specs.job_files.Inner.Graphs.{TakesGraph}
use Rattle.job_io.specs.job_files.Inner.Jobs.{TakesJob}
use Rattle.job_io.specs.job_files.Inputs.{IsInput, IsInputFrom, IsRunInput, RefusesEarly}
use Rattle.job_io.specs.job_files.JobTexts.{DescribeJobGraph, HasStart, LacksSource, LacksStart, OfTexts, RefusesEdges, SaysJob}
use Rattle.job_io.specs.job_files.NamesRead.{RunOpens, atoms_names, edges_after, graph_names, names_of}
use Rattle.job_io.proofs.job_files.GraphTexts.{texts-before}

-- the job's file was not read, or says no job that the verb can do
pub no-input-job : (asked : JobVerb) (files : FilesState) (now : ℕ) (file : List ℕ) (job : NoJob) → TakesJob asked files now file (Err job) → IsInput asked files now file (Err (no_input_of_job job))
no-input-job asked files now file (no_job.Refused fault) takes = inl takes
no-input-job asked files now file no_job.ReadFault takes = takes
no-input-job asked files now file no_job.NoMemory takes = tt

-- the graph's files were not read, or a text is refused
pub no-input-graph : (asked : JobVerb) (files mid : FilesState) (now : ℕ) (file : List ℕ) (names : List (List ℕ)) (job : JobSayings) (cause : Reading)
    → ChangesSources files mid → AppendsNames files.sources.names mid.sources.names names → files.sources.faults ≤ mid.sources.faults → SaysJob asked files file job
    → TakesGraph mid now job.fields (Err cause) → IsInput asked files now file (Err (no_input_of_graph cause))
no-input-graph asked files mid now file names job (reading.Text fault) frame noted later says takes = (
  job,
  says,
  ⊎_elim (λ first. inl (text-before files mid names job.fields.vertices (λ vertices. vertices_of vertices ≡ Err fault) frame noted first))
      (λ second. inr (texts-before files mid names job.fields (RefusesEdges job.fields fault) frame noted second)) takes,
)
no-input-graph asked files mid now file names job reading.ReadFault frame noted later says takes = Rose-later files.sources.faults mid.sources.faults now later takes
no-input-graph asked files mid now file names job reading.NoMemory frame noted later says takes = tt

-- the names of the graph's files, as they were before the job's file was read
names-before : (files mid : FilesState) (job : JobFields) → ChangesSources files mid → graph_names mid job ≡ graph_names files job
names-before files mid job frame =
    ap (λ (c : List ℕ → Option (List ℕ)). job.vertices ∷ edges_after (c job.vertices) job.edges) (ap (λ (s : FilesState). s.contents) frame)

pub graph-names-before : (files mid : FilesState) (now : Option (List (List ℕ))) (job : JobFields) → ChangesSources files mid
    → OpensInOrder mid.sources.names now (graph_names mid job) → OpensInOrder mid.sources.names now (graph_names files job)
graph-names-before files mid now job frame hands = subst (OpensInOrder mid.sources.names now) (names-before files mid job frame) hands

pub graph-handed-before : (files mid : FilesState) (now : Option (List (List ℕ))) (job : JobFields) → ChangesSources files mid
    → AppendsNames mid.sources.names now (graph_names mid job) → AppendsNames mid.sources.names now (graph_names files job)
graph-handed-before files mid now job frame handed = subst (AppendsNames mid.sources.names now) (names-before files mid job frame) handed

-- the source is no vertex of the graph
pub no-input-source : (asked : JobVerb) (files : FilesState) (now : ℕ) (file : List ℕ) (job : JobSayings) (g : DataGraph) (source : ℕ)
    → SaysJob asked files file job → OfTexts files job.fields (λ vertices edges. DescribeJobGraph job.fields vertices edges g)
    → LacksStart job.fields g source → IsInput asked files now file (Err (why.BadJob (OutOfRange Source source)))
no-input-source asked files now file job g source says texts lacks = inr (
  job,
  says,
  (
    source,
    refl,
    OfRead-two files.sources.names (files.contents job.fields.vertices) (files.contents job.fields.edges) (λ vertices edges. DescribeJobGraph job.fields vertices edges g)
        (LacksSource job.fields source) (λ v e t. (g, t, lacks)) texts,
  ),
)

-- What is read of a run that has no atoms, or none that are looked at.
pub run-unread : (asked : JobVerb) (files : FilesState) (now : ℕ) (file : List ℕ) (cause : NoInput) → IsInput asked files now file (Err cause) → IsRunInput asked files now file (Err cause)
run-unread asked files now file (why.BadJob fault) is = is
run-unread asked files now file (why.BadGraph fault) is = is
run-unread asked files now file (why.BadAtoms fault) is = absurd is
run-unread asked files now file why.ReadFault is = is
run-unread asked files now file why.NoMemory is = tt

-- what holds of the atoms holds beside the texts of the graph
pub of-graph : (files : FilesState) (job : JobFields) (g : DataGraph) (P : DataGraph → Type 0) → OfTexts files job (λ vertices edges. DescribeJobGraph job vertices edges g)
    → HasStart job.algorithm job.source g → P g → OfTexts files job (OfGraph job P)
of-graph files job g P texts start p =
    OfRead-two files.sources.names (files.contents job.vertices) (files.contents job.edges) (λ vertices edges. DescribeJobGraph job vertices edges g) (OfGraph job P)
    (λ v e t. (g, t, start, p)) texts

-- the atoms are those of the graph, where there is a prefix
named-atoms : (files : FilesState) (now : ℕ) (g : DataGraph) (named : Option (List ℕ)) (atoms : ℕ) (cut : Cut) (prefix : List ℕ) → named ≡ Some prefix → TakesNamedAtoms named atoms files now g (Ok cut)
    → FindsInAtoms files prefix g None
named-atoms files now g named atoms cut prefix is takes =
    let looks : LooksAtAtoms files now prefix g (Ok cut) = subst (λ (o : Option (List ℕ)). TakesNamedAtoms o atoms files now g (Ok cut)) is takes in
    looks.0

pub run-read : (asked : JobVerb) (files : FilesState) (now : ℕ) (file : List ℕ) (input : Input) (cut : Cut) → IsInputFrom asked files file input
    → TakesNamedAtoms input.job.atoms_at input.job.atoms files now input.graph (Ok cut) → IsRunInput asked files now file (Ok (record { job = input.job; graph = input.graph; cut = cut }))
run-read asked files now file input cut is takes = (
  record { ready = is.ready; job = is.job; texts = is.texts; graph = is.graph; directed = is.directed; start = is.start },
  λ prefix named. of-graph files (job_view input.job).fields input.graph (λ g. FindsInAtoms files prefix g None) is.texts is.start
      (named-atoms files now input.graph input.job.atoms_at input.job.atoms cut prefix named takes),
)

-- how the graph is cut
pub run-cut : (files : FilesState) (now : ℕ) (g : DataGraph) (named : Option (List ℕ)) (atoms : ℕ) (cut : Cut) → TakesNamedAtoms named atoms files now g (Ok cut) → IsCutAt files named atoms g cut
run-cut files now g None atoms cut takes = same takes
  where
    same : {E : Type 0} → {grown : Cut} → (let r : Result Cut E = Ok cut in r) ≡ Ok grown → cut ≡ grown
    same e = cc
run-cut files now g (Some prefix) atoms cut takes = takes.1

-- they are refused, or were not read
pub run-refused : (asked : JobVerb) (files : FilesState) (now : ℕ) (file : List ℕ) (input : Input) (cause : NoInput) → IsInputFrom asked files file input → TakesNamedAtoms input.job.atoms_at input.job.atoms files now input.graph (Err cause)
    → IsRunInput asked files now file (Err cause)
run-refused asked files now file input cause is takes = go input.job.atoms_at refl takes
  where
    job : JobSayings
    job = job_view input.job

    refused : (prefix : List ℕ) (cause : NoInput) → input.job.atoms_at ≡ Some prefix → LooksAtAtoms files now prefix input.graph (Err cause) → IsRunInput asked files now file (Err cause)
    refused prefix (why.BadJob fault) named looks = absurd looks
    refused prefix (why.BadGraph fault) named looks = absurd looks
    refused prefix (why.BadAtoms fault) named looks =
        (job, is.job, (prefix, named, of-graph files job.fields input.graph (λ g. FindsInAtoms files prefix g (Some fault)) is.texts is.start looks))
    refused prefix why.ReadFault named looks = looks
    refused prefix why.NoMemory named looks = tt

    no_error : {A : Type 0} → {x : A} → {why : NoInput} → Err why ≡ Ok x → ⊥
    no_error e = cc

    go : (named : Option (List ℕ)) → input.job.atoms_at ≡ named → TakesNamedAtoms named input.job.atoms files now input.graph (Err cause) → IsRunInput asked files now file (Err cause)
    go None named takes = absurd (no_error takes)
    go (Some prefix) named takes = refused prefix cause named takes

-- names that are handed on behind others
hands-behind : (a b c : Option (List (List ℕ))) (xs ys : List (List ℕ)) → AppendsNames a b xs → OpensInOrder b c ys → OpensInOrder a c (xs ++ ys)
hands-behind a b c xs ys first (k, then) =
    (length xs + k, subst (AppendsNames a c) (sym (take-append-add xs ys k)) (AppendsNames-trans a b c xs (take k ys) first then))

hands-nothing : (a b c : Option (List (List ℕ))) (xs : List (List ℕ)) → AppendsNames a b xs → OpensInOrder b c [] → OpensInOrder a c xs
hands-nothing a b c xs first then = subst (OpensInOrder a c) (append-nil xs) (hands-behind a b c xs [] first then)

-- the names of a run's files, where its atoms were looked at, if it has a prefix
pub hands-for-run : (asked : JobVerb) (old mid new : FilesState) (file : List ℕ) (input : Input) → IsInputFrom asked old file input
    → AppendsNames old.sources.names mid.sources.names (names_of asked old file) → OpensInOrder mid.sources.names new.sources.names (named_atoms old input.job.atoms_at) → RunOpens asked old new file
hands-for-run asked old mid new file input is first then = go input.job.atoms_at refl then
  where
    job : JobSayings
    job = job_view input.job

    go : (named : Option (List ℕ)) → input.job.atoms_at ≡ named → OpensInOrder mid.sources.names new.sources.names (named_atoms old named) → RunOpens asked old new file
    go None named then = inl (hands-nothing old.sources.names mid.sources.names new.sources.names (names_of asked old file) first then)
    go (Some prefix) named then = inr (
      job,
      is.job,
      (
        prefix,
        named,
        of-graph old job.fields input.graph (λ g. ⊤) is.texts is.start tt,
        hands-behind old.sources.names mid.sources.names new.sources.names (names_of asked old file) (atoms_names old prefix) first then,
      ),
    )

-- the job or its graph was refused
pub refuses-early : (asked : JobVerb) (old new : FilesState) (now : ℕ) (file : List ℕ) (cause : NoInput) → OpensInOrder old.sources.names new.sources.names (names_of asked old file)
    → RefusesEarly asked file old new (let r : Result Input NoInput = Err cause in r)
refuses-early asked old new now file (why.BadJob fault) hands = hands
refuses-early asked old new now file (why.BadGraph fault) hands = hands
refuses-early asked old new now file (why.BadAtoms fault) hands = tt
refuses-early asked old new now file why.ReadFault hands = tt
refuses-early asked old new now file why.NoMemory hands = tt

-- the atoms were refused, which is told of nothing else
pub refuses-late : (asked : JobVerb) (files old new : FilesState) (now : ℕ) (file : List ℕ) (g : DataGraph) (named : Option (List ℕ)) (atoms : ℕ) (cause : NoInput) → TakesNamedAtoms named atoms files now g (Err cause)
    → RefusesEarly asked file old new (let r : Result Input NoInput = Err cause in r)
refuses-late asked files old new now file g named atoms (why.BadJob fault) takes = absurd (none named takes)
  where
    no_error : {x : Cut} → {cause : NoInput} → Err cause ≡ Ok x → ⊥
    no_error e = cc

    none : (named : Option (List ℕ)) → TakesNamedAtoms named atoms files now g (Err (why.BadJob fault)) → ⊥
    none None takes = no_error takes
    none (Some prefix) takes = takes
refuses-late asked files old new now file g named atoms (why.BadGraph fault) takes = absurd (none named takes)
  where
    no_error : {x : Cut} → {cause : NoInput} → Err cause ≡ Ok x → ⊥
    no_error e = cc

    none : (named : Option (List ℕ)) → TakesNamedAtoms named atoms files now g (Err (why.BadGraph fault)) → ⊥
    none None takes = no_error takes
    none (Some prefix) takes = takes
refuses-late asked files old new now file g named atoms (why.BadAtoms fault) takes = tt
refuses-late asked files old new now file g named atoms why.ReadFault takes = tt
refuses-late asked files old new now file g named atoms why.NoMemory takes = tt
