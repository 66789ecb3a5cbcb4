-- What `init` leaves at each place where it ends.
use Rattle.std.proofs.Common.{◌≡◌, ◌<◌, ℕ, Bool, false, IsTrue, is_some, List, [], ◌∷◌, length, Option, None, Some, IfSome, Err, sym, ap, ◌∙◌, subst, arith}
use Rattle.gl_outside.specs.Disk.{DiskPast}
use Rattle.gl_outside.specs.Faults.{Rose}
use Rattle.gl_outside.specs.FilesState.{FilesState, Opened}
use Rattle.job_io.specs.job_config.Jobs.{JobSayings}
use Rattle.job_io.specs.job_config.Views.{job_view}
use Rattle.store.specs.declared.store_format.faults.StoreFault.{StoreFault}
use Rattle.store.specs.declared.store_format.header.Header.{Header}
use Rattle.job_io.specs.whole_files.FilesUsed.{OpensInOrder, ReadsFiles}
use Rattle.job_io.specs.declared.job_files.inputs.Input.{Input}
use Rattle.job_io.specs.declared.job_files.inputs.NoInput.{NoInput}
use Rattle.job_io.specs.declared.job_files.inputs.NoInput.TheVariants as why
use Rattle.job_io.specs.declared.job_files.jobs.JobVerb.TheVariants as verb
use Rattle.job_io.specs.job_files.Atoms.{OfGraph}
use Rattle.job_io.specs.job_files.Inputs.{IsInput, IsInputFrom}
use Rattle.job_io.specs.job_files.JobTexts.{OfTexts}
use Rattle.job_io.specs.job_files.NamesRead.{names_of}
use Rattle.job_io.proofs.job_files.InputsRead.{of-graph}
use Rattle.job_io.specs.declared.job_stores.making.StoreError.{StoreError}
use Rattle.job_io.specs.declared.job_stores.making.StoreError.TheVariants as no_store
use Rattle.job_io.specs.job_stores.JobHeaders.{header_for}
use Rattle.job_io.specs.job_stores.NewStores.{HasBytes, IfDisksTold, IsNewStore, MakeStoreErrorCause, KeepsFilledDisks, UsesDisk}
use Rattle.job_io.proofs.job_stores.DisksUsed.{always-told}
use Rattle.engine_cli.specs.NamesWritten.{order_names}
use Rattle.engine_cli.specs.StatusMeanings.{IsReadable}
use Rattle.engine_cli.specs.Status.{IsInputRefusal, IsDoneOrNoMemory, status_of_no_input, status_of_no_store}
use Rattle.engine_cli.specs.StoreJobs.{HasEmptyStore, MakesStore, OfStoreJob}
use Rattle.engine_cli.specs.Verbs.{IsInit}
use Rattle.engine_cli.specs.declared.status.Status.{Status}
use Rattle.engine_cli.specs.declared.status.Status.TheVariants.{Done}
use Rattle.engine_cli.proofs.NamesHanded.{hands-no-store, hands-store}
use Rattle.engine_cli.proofs.OneGraph.{no_bad_graph, no_bad_job, of_job, of_texts}

-- no job or graph was read
unread-says : (told : Bool) (old new : FilesState) (file : List ℕ) (cause : NoInput) → IsInput verb.Init old new.sources.faults file (Err cause) → new.pasts ≡ old.pasts
    → MakesStore told file old new (status_of_no_input cause)
unread-says told old new file (why.BadJob fault) is same = is
unread-says told old new file (why.BadGraph fault) is same = is
unread-says told old new file (why.BadAtoms fault) is same = absurd is
unread-says told old new file why.ReadFault is same = is
unread-says told old new file why.NoMemory is same = same

unread-complete : (old new : FilesState) (file : List ℕ) (cause : NoInput) → IsInput verb.Init old new.sources.faults file (Err cause)
    → IsReadable verb.Init old file → (Rose old.sources.faults new.sources.faults → ⊥) → IsDoneOrNoMemory (status_of_no_input cause)
unread-complete old new file (why.BadJob fault) is input none = no_bad_job verb.Init old file fault input is
unread-complete old new file (why.BadGraph fault) is input none = no_bad_graph verb.Init old file fault input is
unread-complete old new file (why.BadAtoms fault) is input none = is
unread-complete old new file why.ReadFault is input none = none is
unread-complete old new file why.NoMemory is input none = tt

pub init-unread : (told : Bool) (old new : FilesState) (file : List ℕ) (cause : NoInput) → IsInput verb.Init old new.sources.faults file (Err cause) → ReadsFiles (names_of verb.Init old file) old new
    → IsInit told file old new (status_of_no_input cause)
init-unread told old new file cause is read =
    let pasts = ap (λ (s : FilesState). s.pasts) read.frame in
    record {
      says = unread-says told old new file cause is pasts;
      kept = λ name. always-told told old (0 < length (old.pasts name).now.seen → new.pasts name ≡ old.pasts name) (λ filled. ap (λ (p : List ℕ → DiskPast). p name) pasts);
      sources = read.handed;
      disks = hands-no-store verb.Init old new file (ap (λ (s : FilesState). s.disks.names) read.frame);
      frame = read.frame ∙ ap (λ (s : FilesState). record old { sources = new.sources; pasts = s.pasts; disks = s.disks }) (sym read.frame);
      early = λ early. read.frame;
      others = λ name apart. ap (λ (p : List ℕ → DiskPast). p name) pasts;
      later = omega (arith, ap (λ (s : FilesState). s.disks.faults) read.frame);
      complete = λ input empty no_read no_disk. unread-complete old new file cause is input no_read;
    }

-- a store without bytes is not refused
no-bad-store : (told : Bool) (old : FilesState) (file : List ℕ) (fault : StoreFault) (input : IsReadable verb.Init old file) → HasEmptyStore told old input.job.fields
    → OfStoreJob old file (λ name header. IfDisksTold told old (HasBytes (old.pasts name) fault)) → ⊥
no-bad-store told old file fault input empty says =
    let at = of_job verb.Init old file (λ job. (name : List ℕ) × (job.store ≡ Some name) × OfTexts old job (OfGraph job (λ g. IfDisksTold told old (HasBytes (old.pasts name) fault)))) input says in
    let found = of_texts verb.Init old file (OfGraph input.job.fields (λ g. IfDisksTold told old (HasBytes (old.pasts at.0) fault))) input at.2 in
    let has : HasBytes (old.pasts at.0) fault = said old.disks.names empty.named (HasBytes (old.pasts at.0) fault) found.3 empty.held in
    omega (arith, has.0, empty.empty at.0 at.1)
  where
    is_no_truth : IsTrue false → ⊥
    is_no_truth e = cc

    said : (names : Option (List (List ℕ))) → IsTrue (is_some names) → (P : Type 0) → IfSome names (λ n. IsTrue told → P) → IsTrue told → P
    said None named P p held = absurd (is_no_truth named)
    said (Some n) named P p held = p held

-- The job and its graph were read, and the store was opened, or was not.
module _ (told : Bool) (old mid new : FilesState) (file : List ℕ) (input : Input) (name : List ℕ) (is : IsInputFrom verb.Init old file input)
    (read : ReadsFiles (names_of verb.Init old file) old mid) (named : input.job.store ≡ Some name) (used : UsesDisk name mid new) (kept : KeepsFilledDisks told mid new) where
  disks : mid.disks ≡ old.disks
  disks = ap (λ (s : FilesState). s.disks) read.frame

  pasts : mid.pasts ≡ old.pasts
  pasts = ap (λ (s : FilesState). s.pasts) read.frame

  sources : new.sources ≡ mid.sources
  sources = ap (λ (s : FilesState). s.sources) used.frame

  -- what is said of disks before the store was opened is said of them as the call began
  since : (Q : (List ℕ → DiskPast) → Type 0) → IfDisksTold told mid (Q mid.pasts) → IfDisksTold told old (Q old.pasts)
  since Q holds =
      let D : Opened (Option (List ℕ)) → Type 0 = λ d. IfSome d.names (λ n. IsTrue told → Q mid.pasts) in
      let P : (List ℕ → DiskPast) → Type 0 = λ p. IfSome old.disks.names (λ n. IsTrue told → Q p) in
      subst P pasts (subst D disks holds)

  -- what holds of the store's name and header holds of the job's
  of-store : (P : List ℕ → Header → Type 0) → P name (header_for (job_view input.job).fields input.graph) → OfStoreJob old file P
  of-store P p =
      let job : JobSayings = job_view input.job in
      (job, is.job, (name, named, of-graph old job.fields input.graph (λ g. P name (header_for job.fields g)) is.texts is.start p))

  init-ends : (status : Status) → MakesStore told file old new status → (IsInputRefusal status → ⊥)
      → ((given : IsReadable verb.Init old file) → HasEmptyStore told old given.job.fields → (Rose old.disks.faults new.disks.faults → ⊥) → IsDoneOrNoMemory status) → IsInit told file old new status
  init-ends status says late complete =
      let job : JobSayings = job_view input.job in
      let names : order_names input.job.store ≡ name ∷ [] = ap order_names named in
      let handed : OpensInOrder old.disks.names new.disks.names (name ∷ []) = subst (λ (d : Opened (Option (List ℕ))). OpensInOrder d.names new.disks.names (name ∷ [])) disks used.handed in
      let faults : mid.disks.faults ≡ old.disks.faults = ap (λ (s : FilesState). s.disks.faults) read.frame in
      record {
        says = says;
        kept = λ other. since (λ p. 0 < length (p other).now.seen → new.pasts other ≡ p other) (kept other);
        sources = subst (λ (s : Opened (Option (List ℕ))). OpensInOrder old.sources.names s.names (names_of verb.Init old file)) (sym sources) read.handed;
        disks = hands-store verb.Init old new file job is.job (subst (λ (l : List (List ℕ)). OpensInOrder old.disks.names new.disks.names l) (sym names) handed);
        frame = used.frame ∙ ap (λ (s : FilesState). record s { pasts = new.pasts; disks = new.disks }) read.frame
            ∙ ap (λ (s : Opened (Option (List ℕ))). record old { sources = s; pasts = new.pasts; disks = new.disks }) (sym sources);
        early = λ early. absurd (late early);
        others = λ other apart. used.others other (λ e. apart (job, is.job, named ∙ ap (λ (n : List ℕ). Some n) (sym e))) ∙ ap (λ (p : List ℕ → DiskPast). p other) pasts;
        later = omega (arith, faults, used.later);
        complete = λ given empty no_read no_disk. complete given empty no_disk;
      }

  -- the store was made
  pub init-done : (header : Header) → header ≡ header_for (job_view input.job).fields input.graph → IfDisksTold told mid (IsNewStore header (mid.pasts name) (new.pasts name)) → IsInit told file old new Done
  init-done header is_header made =
      let H : Header → Type 0 = λ h. IfDisksTold told old (IsNewStore h (old.pasts name) (new.pasts name)) in
      init-ends Done (of-store (λ n h. IfDisksTold told old (IsNewStore h (old.pasts n) (new.pasts n))) (subst H is_header (since (λ p. IsNewStore header (p name) (new.pasts name)) made)))
      (λ early. early) (λ given empty no_disk. tt)

  -- it was not
  pub init-failed : (cause : StoreError) → MakeStoreErrorCause told name mid new cause → IsInit told file old new (status_of_no_store cause)
  init-failed (no_store.BadStore fault) refused =
      let says = of-store (λ n h. IfDisksTold told old (HasBytes (old.pasts n) fault)) (since (λ p. HasBytes (p name) fault) refused) in
      init-ends (status_of_no_store (no_store.BadStore fault)) says (λ early. early) (λ given empty no_disk. no-bad-store told old file fault given empty says)
  init-failed no_store.DiskFault rose =
      let since_start : Rose old.disks.faults new.disks.faults = subst (λ (d : Opened (Option (List ℕ))). Rose d.faults new.disks.faults) disks rose in
      init-ends (status_of_no_store no_store.DiskFault) since_start (λ early. early) (λ given empty no_disk. no_disk since_start)
  init-failed no_store.NoMemory same = init-ends (status_of_no_store no_store.NoMemory) (same ∙ pasts) (λ early. early) (λ given empty no_disk. tt)
