-- What running a job says over what was read before.
use Rattle.std.proofs.Common.{◌≡◌, ◌≢◌, inl, inr, ℕ, ◌≤◌, Bool, true, false, IsTrue, is_some, List, [], ◌∷◌, Option, None, Some, IfSome, Result, Ok, Err, refl, sym, ap, ◌∙◌, subst, ⊎_elim, lt-ltb, arith}
use Rattle.std.specs.Prelude.{bytes_eq, length, nat_lt, ◌⊎◌, if◌then◌else◌}
use Rattle.std.proofs.lemmas.Slice.Eq.{bytes_eq-Decides}
use Rattle.graph_atoms.specs.atom_gather.Cuts.{CanBeCut}
use Rattle.graph_atoms.specs.declared.atom_gather.cuts.Cut.{Cut}
use Rattle.graph_atoms.specs.declared.atom_gather.cuts.Cut.TheVariants.{Grown, Told}
use Rattle.gl_base.specs.declared.job_faults.JobFault.{JobFault}
use Rattle.gl_base.specs.declared.job_faults.JobFault.TheVariants.{Missing}
use Rattle.gl_base.specs.declared.job_faults.Key.TheVariants as key
use Rattle.gl_base.specs.declared.jobs.Algorithm.{Algorithm}
use Rattle.gl_base.specs.declared.jobs.Algorithm.TheVariants.{Levels, Components, Paths, Colours, Cores, Pairs}
use Rattle.gl_outside.specs.Disk.{DiskPast}
use Rattle.gl_outside.specs.Faults.{Rose}
use Rattle.gl_outside.specs.FilesState.{FilesState, Opened}
use Rattle.gl_outside.specs.Frames.{ChangesSources}
use Rattle.gl_outside.specs.Inner.Laws.{decide, differs}
use Rattle.gl_base.specs.declared.jobs.FailureAt.{FailureAt}
use Rattle.graph_core.specs.DataGraph.{DataGraph, IsDataGraph}
use Rattle.call_laws.specs.whole_calls.Following.{AreJobFailures}
use Rattle.job_io.specs.job_config.Ranges.{HasNumbers}
use Rattle.job_io.specs.job_config.Jobs.{JobSayings}
use Rattle.job_io.specs.job_config.Views.{job_view}
use Rattle.job_io.specs.job_files.Atoms.{IsCutAt, IsCutOf, OfJobCut}
use Rattle.job_io.specs.job_files.Inputs.{IsInputFrom, IsRunInput, RefusesEarly}
use Rattle.job_io.specs.job_files.DoableJobs.{agreeing, clash_of, clash_of_pairs, doable, is_chromatic, unless_key}
use Rattle.job_io.specs.job_files.JobTexts.{HasStart, SaysJob}
use Rattle.job_io.specs.job_files.NamesRead.{RunOpens, names_of}
use Rattle.job_io.specs.declared.job_files.inputs.Input.{Input}
use Rattle.job_io.specs.declared.job_files.inputs.NoInput.{NoInput}
use Rattle.job_io.specs.declared.job_files.inputs.NoInput.TheVariants as why
use Rattle.job_io.specs.declared.job_files.jobs.JobVerb.{JobVerb}
use Rattle.job_io.specs.declared.job_files.jobs.JobVerb.TheVariants as verb
use Rattle.job_io.proofs.job_files.InputsRead.{of-graph}
use Rattle.job_io.specs.job_stores.JobHeaders.{header_for}
use Rattle.job_io.specs.job_stores.NewStores.{IfDisksTold, UsesDisk}
use Rattle.job_io.specs.declared.job_stores.making.StoreError.{StoreError}
use Rattle.job_io.specs.declared.job_stores.making.StoreError.TheVariants as no_store
use Rattle.job_io.proofs.job_stores.DisksUsed.{always-told}
use Rattle.engine_runs.specs.declared.answers.runs.StoredRun.{StoredRun}
use Rattle.job_io.specs.whole_files.FilesUsed.{OpensInOrder}
use Rattle.engine_cli.specs.Inner.Prepares.{CanRun, ChangesInput, IsOfRun, RunInputErrorCause, UsesNamed}
use Rattle.engine_cli.specs.Inner.Storing.{RunOnStoreErrorCause}
use Rattle.engine_cli.specs.JobRuns.{RunsOnStore, RunsSo, is_resumed}
use Rattle.engine_cli.specs.JobStores.{IsNotRunFrom, KeepsAllImages, KeepsGoing, KeepsImages, NamesStore, OfStoredJob, RefusesStore, UsesStore}
use Rattle.engine_cli.specs.NamesWritten.{order_names}
use Rattle.engine_cli.specs.Plays.{HasEdgesFor, writes_neighbours}
use Rattle.engine_cli.specs.StatusMeanings.{Refuses}
use Rattle.engine_cli.specs.Status.{IsInputRefusal, IsRefusedInput, status_of_no_input, status_of_no_store}
use Rattle.engine_cli.proofs.DisksLeft.{leaves-same}
use Rattle.engine_cli.proofs.PairRuns.{are-pairs, by-scopes}
use Rattle.engine_cli.proofs.NamesHanded.{hands-no-store, hands-store}

-- ---- what is read tells a cut of the graph

pub can-cut : (input : Input) (files : FilesState) → 1 ≤ input.job.atoms → IsCutOf files (job_view input.job).fields input.graph input.cut → CanBeCut input.graph input.cut
can-cut input files some is = go input.job.atoms_at input.job.atoms input.cut some is
  where
    go : (named : Option (List ℕ)) (atoms : ℕ) (cut : Cut) → 1 ≤ atoms → IsCutAt files named atoms input.graph cut → CanBeCut input.graph cut
    go None atoms cut some is = subst (CanBeCut input.graph) (sym is) some
    go (Some prefix) atoms (Grown n) some is = absurd is
    go (Some prefix) atoms (Told n of) some is = is.0

-- ---- a job that is run names an algorithm for its edges

-- no key was told that does not go with pairs
pub pairs-agree : (job : JobSayings) → unless_key job (clash_of_pairs job) ≡ Ok job → (job.fields.directed ≡ false) × (job.fields.store ≡ None) × (job.failures ≡ [])
pairs-agree job agrees = go job.fields.directed (is_chromatic job.fields.engine) job.fields.store job.failures agrees
  where
    no_error : {x : JobSayings} → {fault : JobFault} → Err fault ≡ Ok x → ⊥
    no_error e = cc

    go : (directed chromatic : Bool) (store : Option (List ℕ)) (failures : List FailureAt)
        → unless_key job (if directed then Some key.Directed else (if chromatic then Some key.Engine else (if is_some store then Some key.Store else (if nat_lt 0 (length failures) then Some key.Failures else None)))) ≡ Ok job
        → (directed ≡ false) × (store ≡ None) × (failures ≡ [])
    go true chromatic store failures agrees = absurd (no_error agrees)
    go false true store failures agrees = absurd (no_error agrees)
    go false false (Some name) failures agrees = absurd (no_error agrees)
    go false false None (failure ∷ failures) agrees =
        let some : nat_lt 0 (length (failure ∷ failures)) ≡ true = lt-ltb 0 (length (failure ∷ failures)) (omega arith) in
        absurd (no_error (subst (λ (b : Bool). unless_key job (if b then Some key.Failures else None) ≡ Ok job) some agrees))
    go false false None [] agrees = (refl, refl, refl)

-- no key was told that does not go with the algorithm
edges-agree : (algorithm : Algorithm) (job : JobSayings) (g : DataGraph) → unless_key job (clash_of algorithm job) ≡ Ok job → g.directed ≡ job.fields.directed → HasEdgesFor algorithm g
edges-agree Levels job g agrees same = tt
edges-agree Components job g agrees same = tt
edges-agree Paths job g agrees same = tt
edges-agree Colours job g agrees same = tt
edges-agree Cores job g agrees same = same ∙ none job.fields.directed agrees
  where
    no_error : {x : JobSayings} → {fault : JobFault} → Err fault ≡ Ok x → ⊥
    no_error e = cc

    none : (directed : Bool) → unless_key job (if directed then Some key.Directed else None) ≡ Ok job → directed ≡ false
    none false agrees = refl
    none true agrees = absurd (no_error agrees)
edges-agree Pairs job g agrees same = same ∙ (pairs-agree job agrees).0

-- a job of a verb that runs it names no key that does not go with its algorithm
agrees-of : (asked : JobVerb) (job : JobSayings) → IsOfRun asked → doable asked job ≡ Ok job → agreeing job ≡ Ok job
agrees-of verb.Run job run does = does
agrees-of verb.Resume job run does = named (is_some job.fields.store) does
  where
    no_error : {x : JobSayings} → {fault : JobFault} → Err fault ≡ Ok x → ⊥
    no_error e = cc

    named : (is : Bool) → (if is then agreeing job else Err (Missing key.Store)) ≡ Ok job → agreeing job ≡ Ok job
    named true does = does
    named false does = absurd (no_error does)
agrees-of verb.Cut job run does = absurd run
agrees-of verb.Init job run does = absurd run

-- a job whose store is made is not one of pairs
pub stored-not-pairs : (job : JobSayings) (name : List ℕ) → job.fields.store ≡ Some name → doable verb.Init job ≡ Ok job → job.fields.algorithm ≢ Pairs
stored-not-pairs job name named does pairs =
    let some : is_some job.fields.store ≡ true = ap is_some named in
    let agrees : agreeing job ≡ Ok job = subst (λ (b : Bool). (if b then agreeing job else Err (Missing key.Store)) ≡ Ok job) some does in
    let none : job.fields.store ≡ None = (pairs-agree job (subst (λ (a : Algorithm). unless_key job (clash_of a job) ≡ Ok job) pairs agrees)).1 in
    none_is_some (sym none ∙ named)
  where
    none_is_some : {n : List ℕ} → None ≡ Some n → ⊥
    none_is_some e = cc

pub edges-fit : (asked : JobVerb) (job : JobSayings) (g : DataGraph) → IsOfRun asked → doable asked job ≡ Ok job → g.directed ≡ job.fields.directed → HasEdgesFor job.fields.algorithm g
edges-fit asked job g run does same = edges-agree job.fields.algorithm job g (agrees-of asked job run does) same

-- a job that was read can be run, by one way or the other
pub can-run : (asked : JobVerb) (input : Input) → IsOfRun asked → doable asked (job_view input.job) ≡ Ok (job_view input.job) → input.graph.directed ≡ input.job.directed
    → HasNumbers (job_view input.job).fields → AreJobFailures input.job.machines input.job.failures.items → length input.job.failures.items ≤ 64
    → IsDataGraph input.graph → HasStart input.job.algorithm input.job.source input.graph → CanBeCut input.graph input.cut → CanRun input
can-run asked input run does same numbers failures few graph start cut = go (writes_neighbours input.job.algorithm) refl
  where
    job : JobSayings
    job = job_view input.job

    fits : HasEdgesFor input.job.algorithm input.graph
    fits = edges-fit asked job input.graph run does same

    go : (b : Bool) → writes_neighbours input.job.algorithm ≡ b → CanRun input
    go false alone = inl (record { numbers = numbers; failures = failures; few = few; graph = graph; start = start; edges_fit = by-scopes input.job.algorithm input.graph alone fits; cut = cut })
    go true writes =
        let pairs : input.job.algorithm ≡ Pairs = are-pairs input.job.algorithm writes in
        let agreed = pairs-agree job (subst (λ (a : Algorithm). unless_key job (clash_of a job) ≡ Ok job) pairs (agrees-of asked job run does)) in
        inr (record { pairs = pairs; numbers = numbers; store = agreed.1; failures = agreed.2; graph = graph; undirected = same ∙ agreed.0; cut = cut })

-- ---- what is read changes no disk

pub sources-input : (old new : FilesState) → ChangesSources old new → ChangesInput old new
sources-input old new frame = frame ∙ ap (λ (s : FilesState). record old { sources = new.sources; pasts = s.pasts; disks = s.disks }) (sym frame)

pub store-unused : (asked : JobVerb) (file : List ℕ) (old new : FilesState) → ChangesSources old new → UsesStore asked file old new
store-unused asked file old new frame =
    let pasts = ap (λ (s : FilesState). s.pasts) frame in
    record {
      handed = hands-no-store asked old new file (ap (λ (s : FilesState). s.disks.names) frame);
      others = λ name apart. ap (λ (p : List ℕ → DiskPast). p name) pasts;
      unless = inl (record { pasts = pasts; disks = ap (λ (s : FilesState). s.disks) frame });
      later = omega (arith, ap (λ (s : FilesState). s.disks.faults) frame);
    }

-- every disk is left as it was
pub same-images : (told : Bool) (old : FilesState) (new : List ℕ → DiskPast) → new ≡ old.pasts → KeepsAllImages told old new
same-images told old new same name =
    always-told told old (KeepsImages (old.pasts name) (new name)) (leaves-same (old.pasts name) (new name) (ap (λ (p : List ℕ → DiskPast). p name) same))

-- why nothing was read
pub input-refuses : (told : Bool) (asked : JobVerb) (file : List ℕ) (old new : FilesState) (cause : NoInput) → IsRunInput asked old new.sources.faults file (Err cause) → ChangesSources old new
    → Refuses told asked file old new (status_of_no_input cause)
input-refuses told asked file old new (why.BadJob fault) is frame = is
input-refuses told asked file old new (why.BadGraph fault) is frame = is
input-refuses told asked file old new (why.BadAtoms fault) is frame = is
input-refuses told asked file old new why.ReadFault is frame = is
input-refuses told asked file old new why.NoMemory is frame = inl (same-images told old new.pasts (ap (λ (s : FilesState). s.pasts) frame))

-- the names of files that were read, where it is the job or its graph that is refused
pub input-names : (asked : JobVerb) (file : List ℕ) (old new : FilesState) (cause : NoInput) → RefusesEarly asked file old new (let r : Result Input NoInput = Err cause in r)
    → IsRefusedInput (status_of_no_input cause) → OpensInOrder old.sources.names new.sources.names (names_of asked old file)
input-names asked file old new (why.BadJob fault) hands refused = hands
input-names asked file old new (why.BadGraph fault) hands refused = hands
input-names asked file old new (why.BadAtoms fault) hands refused = absurd refused
input-names asked file old new why.ReadFault hands refused = absurd refused
input-names asked file old new why.NoMemory hands refused = absurd refused

-- what is refused for its store was not refused before it was opened
pub store-late : (cause : StoreError) → (IsInputRefusal (status_of_no_store cause) → ⊥) × (IsRefusedInput (status_of_no_store cause) → ⊥)
store-late (no_store.BadStore fault) = (λ early. early, λ refused. refused)
store-late no_store.DiskFault = (λ early. early, λ refused. refused)
store-late no_store.NoMemory = (λ early. early, λ refused. refused)

-- ---- the job was read, and its store used, if it names one

module _ (told : Bool) (asked : JobVerb) (file : List ℕ) (old mid new : FilesState) (frame : ChangesSources old mid) where
  disks : mid.disks ≡ old.disks
  disks = ap (λ (s : FilesState). s.disks) frame

  pasts : mid.pasts ≡ old.pasts
  pasts = ap (λ (s : FilesState). s.pasts) frame

  -- what is said of disks before the run is said of them as the call began
  since : (Q : (List ℕ → DiskPast) → Type 0) → IfDisksTold told mid (Q mid.pasts) → IfDisksTold told old (Q old.pasts)
  since Q holds =
      let D : Opened (Option (List ℕ)) → Type 0 = λ d. IfSome d.names (λ n. IsTrue told → Q mid.pasts) in
      let P : (List ℕ → DiskPast) → Type 0 = λ p. IfSome old.disks.names (λ n. IsTrue told → Q p) in
      subst P pasts (subst D disks holds)

  pub runs-since : (job : JobSayings) (g : DataGraph) (cut : Cut) (run : StoredRun) (store : Option (List ℕ)) → RunsSo told asked mid new.pasts job g cut run store → RunsSo told asked old new.pasts job g cut run store
  runs-since job g cut run None runs = runs
  runs-since job g cut run (Some name) runs = since (λ p. RunsOnStore (is_resumed asked) job g cut (p name) (new.pasts name) run) runs

  pub rose-since : Rose mid.disks.faults new.disks.faults → Rose old.disks.faults new.disks.faults
  rose-since rose = subst (λ (d : Opened (Option (List ℕ))). Rose d.faults new.disks.faults) disks rose

  -- what the use of the store changes
  pub input-used : (store : Option (List ℕ)) → UsesNamed store mid new → ChangesInput old new
  input-used None used = sources-input old new (subst (λ (s : FilesState). ChangesSources old s) (sym used) frame)
  input-used (Some name) used =
      used.frame ∙ ap (λ (s : FilesState). record s { pasts = new.pasts; disks = new.disks }) frame
      ∙ ap (λ (s : Opened (Option (List ℕ))). record old { sources = s; pasts = new.pasts; disks = new.disks }) (sym (ap (λ (s : FilesState). s.sources) used.frame))

  pub alone-used : (store : Option (List ℕ)) → UsesNamed store mid new → store ≡ None → new.pasts ≡ old.pasts
  alone-used None used none = ap (λ (s : FilesState). s.pasts) used ∙ pasts
  alone-used (Some name) used none = absurd (some_is_none none)
    where
      some_is_none : {n : List ℕ} → Some n ≡ None → ⊥
      some_is_none e = cc

  sources : (store : Option (List ℕ)) → UsesNamed store mid new → new.sources ≡ mid.sources
  sources None used = ap (λ (s : FilesState). s.sources) used
  sources (Some name) used = ap (λ (s : FilesState). s.sources) used.frame

  pub handed-used : (store : Option (List ℕ)) → UsesNamed store mid new → RunOpens asked old mid file → RunOpens asked old new file
  handed-used store used handed = subst (λ (s : Opened (Option (List ℕ))). RunOpens asked old (record mid { sources = s }) file) (sym (sources store used)) handed

  pub reads-used : (store : Option (List ℕ)) → UsesNamed store mid new → old.sources.faults ≤ mid.sources.faults → old.sources.faults ≤ new.sources.faults
  reads-used store used later = subst (λ (s : Opened (Option (List ℕ))). old.sources.faults ≤ s.faults) (sym (sources store used)) later

  pub store-used : (job : JobSayings) → SaysJob asked old file job → UsesNamed job.fields.store mid new → UsesStore asked file old new
  store-used job says used = go job.fields.store refl used
    where
      go : (store : Option (List ℕ)) → job.fields.store ≡ store → UsesNamed store mid new → UsesStore asked file old new
      go None is used = store-unused asked file old new (subst (λ (s : FilesState). ChangesSources old s) (sym used) frame)
      go (Some name) is used =
          let names : order_names job.fields.store ≡ name ∷ [] = ap order_names is in
          let handed : OpensInOrder old.disks.names new.disks.names (name ∷ []) = subst (λ (d : Opened (Option (List ℕ))). OpensInOrder d.names new.disks.names (name ∷ [])) disks used.handed in
          let some : IsTrue (is_some job.fields.store) = subst (λ (s : Option (List ℕ)). IsTrue (is_some s)) (sym is) refl in
          record {
            handed = hands-store asked old new file job says (subst (λ (l : List (List ℕ)). OpensInOrder old.disks.names new.disks.names l) (sym names) handed);
            others = λ other apart. used.others other (λ e. apart (job, says, is ∙ ap (λ (n : List ℕ). Some n) (sym e))) ∙ ap (λ (p : List ℕ → DiskPast). p other) pasts;
            unless = inr (job, says, some);
            later = omega (arith, ap (λ (s : FilesState). s.disks.faults) frame, used.later);
          }

  -- where the disk of one name is left as it was, all are
  all-images : (name : List ℕ) → UsesDisk name mid new → IfDisksTold told old (KeepsImages (old.pasts name) (new.pasts name)) → KeepsAllImages told old new.pasts
  all-images name used kept other = ⊎_elim same apart (decide (bytes_eq other name))
    where
      same : bytes_eq other name ≡ true → IfDisksTold told old (KeepsImages (old.pasts other) (new.pasts other))
      same is =
          let K : List ℕ → Type 0 = λ n. IfDisksTold told old (KeepsImages (old.pasts n) (new.pasts n)) in
          subst K (sym ((bytes_eq-Decides other name).0 is)) kept

      apart : bytes_eq other name ≡ false → IfDisksTold told old (KeepsImages (old.pasts other) (new.pasts other))
      apart isnt =
          let stays : new.pasts other ≡ old.pasts other = used.others other (λ e. differs isnt ((bytes_eq-Decides other name).1 e)) ∙ ap (λ (p : List ℕ → DiskPast). p other) pasts in
          always-told told old (KeepsImages (old.pasts other) (new.pasts other)) (leaves-same (old.pasts other) (new.pasts other) stays)

  -- one of two facts is said of disks, or the other is
  either : (A B : Type 0) → IfDisksTold told old (A ⊎ B) → IfDisksTold told old A ⊎ IfDisksTold told old B
  either A B holds = go old.disks.names told holds
    where
      no_truth : IsTrue false → ⊥
      no_truth e = cc

      go : (names : Option (List (List ℕ))) (told : Bool) → IfSome names (λ n. IsTrue told → A ⊎ B) → IfSome names (λ n. IsTrue told → A) ⊎ IfSome names (λ n. IsTrue told → B)
      go None told holds = inl tt
      go (Some n) false holds = inl (λ is. absurd (no_truth is))
      go (Some n) true holds = ⊎_elim (λ a. inl (λ is. a)) (λ b. inr (λ is. b)) (holds refl)

  -- and-ed facts, one by one
  both-first : (A B : Type 0) → IfDisksTold told old (A × B) → IfDisksTold told old A
  both-first A B holds = go old.disks.names holds
    where
      go : (names : Option (List (List ℕ))) → IfSome names (λ n. IsTrue told → A × B) → IfSome names (λ n. IsTrue told → A)
      go None holds = tt
      go (Some n) holds = λ is. (holds is).0

  both-second : (A B : Type 0) → IfDisksTold told old (A × B) → IfDisksTold told old B
  both-second A B holds = go old.disks.names holds
    where
      go : (names : Option (List (List ℕ))) → IfSome names (λ n. IsTrue told → A × B) → IfSome names (λ n. IsTrue told → B)
      go None holds = tt
      go (Some n) holds = λ is. (holds is).1

  module _ (input : Input) (is : IsInputFrom asked old file input) (cut : IsCutOf old (job_view input.job).fields input.graph input.cut) where
    abbrev pub job : JobSayings
    job = job_view input.job

    -- what holds of the job's store holds of the one that the file names
    of-store : (name : List ℕ) → job.fields.store ≡ Some name → (P : List ℕ → JobSayings → DataGraph → Type 0) → P name job input.graph → OfStoredJob asked old file P
    of-store name named P p = (job, is.job, (name, named, of-graph old job.fields input.graph (λ g. P name job g) is.texts is.start p))

    names-store : (name : List ℕ) → job.fields.store ≡ Some name → NamesStore asked old file
    names-store name named = (job, is.job, subst (λ (s : Option (List ℕ)). IsTrue (is_some s)) (sym named) refl)

    -- no run was made on it
    stored-refuses : (name : List ℕ) (cause : StoreError) → job.fields.store ≡ Some name → UsesDisk name mid new → RunOnStoreErrorCause told (is_resumed asked) name input mid new cause
        → Refuses told asked file old new (status_of_no_store cause)
    stored-refuses name (no_store.BadStore fault) named used refused =
        let R : DiskPast → Type 0 = λ p. RefusesStore (is_resumed asked) (header_for job.fields input.graph) p.now.seen fault in
        let K = KeepsImages (old.pasts name) (new.pasts name) in
        let said = since (λ p. (R (p name) × KeepsImages (p name) (new.pasts name)) ⊎ IsNotRunFrom (is_resumed asked) job input.graph input.cut (p name) (new.pasts name) fault) refused in
        ⊎_elim
        (λ refuses.
        inl (
          of-store name named (λ n j g. IfDisksTold told old (RefusesStore (is_resumed asked) (header_for j.fields g) (old.pasts n).now.seen fault)) (both-first (R (old.pasts name)) K refuses),
          all-images name used (both-second (R (old.pasts name)) K refuses),
        ))
        (λ other. inr (of-store name named (λ n j g. OfJobCut old j.fields g (λ c. IfDisksTold told old (IsNotRunFrom (is_resumed asked) j g c (old.pasts n) (new.pasts n) fault))) (input.cut, cut, other)))
        (either (R (old.pasts name) × K) (IsNotRunFrom (is_resumed asked) job input.graph input.cut (old.pasts name) (new.pasts name) fault) said)
    stored-refuses name no_store.DiskFault named used refused =
        (rose-since refused.0, names-store name named, all-images name used (since (λ p. KeepsImages (p name) (new.pasts name)) refused.1))
    stored-refuses name no_store.NoMemory named used refused =
        let said = since (λ p. KeepsImages (p name) (new.pasts name) ⊎ KeepsGoing job input.graph input.cut (p name) (new.pasts name)) refused in
        ⊎_elim
        (λ kept. inl (all-images name used kept))
        (λ going. inr (of-store name named (λ n j g. OfJobCut old j.fields g (λ c. IfDisksTold told old (KeepsGoing j g c (old.pasts n) (new.pasts n)))) (input.cut, cut, going)))
        (either (KeepsImages (old.pasts name) (new.pasts name)) (KeepsGoing job input.graph input.cut (old.pasts name) (new.pasts name)) said)

    pub none-made : (cause : StoreError) → UsesNamed job.fields.store mid new → RunInputErrorCause told asked input mid new job.fields.store cause → Refuses told asked file old new (status_of_no_store cause)
    none-made cause used refused = go job.fields.store refl used refused
      where
        go : (store : Option (List ℕ)) → job.fields.store ≡ store → UsesNamed store mid new → RunInputErrorCause told asked input mid new store cause → Refuses told asked file old new (status_of_no_store cause)
        go None named used refused =
            let N : StoreError → Type 0 = λ w. Refuses told asked file old new (status_of_no_store w) in
            subst N (sym refused) (inl (same-images told old new.pasts (ap (λ (s : FilesState). s.pasts) used ∙ pasts)))
        go (Some name) named used refused = stored-refuses name cause named used refused

-- why there is no run on the store that the job names
pub none-on-store : (told : Bool) (asked : JobVerb) (resumed : Bool) (input : Input) (old new : FilesState) (store : Option (List ℕ)) (name opened : List ℕ) (cause : StoreError)
    → store ≡ Some name → opened ≡ name → resumed ≡ is_resumed asked → RunOnStoreErrorCause told resumed opened input old new cause → RunInputErrorCause told asked input old new store cause
none-on-store told asked resumed input old new store name opened cause named spelled is why =
    let S : Option (List ℕ) → Type 0 = λ s. RunInputErrorCause told asked input old new s cause in
    let N : List ℕ → Type 0 = λ n. RunOnStoreErrorCause told (is_resumed asked) n input old new cause in
    let R : Bool → Type 0 = λ r. RunOnStoreErrorCause told r opened input old new cause in
    subst S (sym named) (subst N spelled (subst R is why))
