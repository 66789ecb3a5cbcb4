-- A valid job on a store that is sound, over valid texts, has no fault.
use Rattle.std.proofs.Common.{◌≡◌, ℕ, ◌+◌, ◌≤◌, ◌^◌, Bool, false, IsTrue, is_some, List, length, Option, None, Some, IfSome, Ok, Err, refl, sym, ap, ◌∙◌, subst, arith, ⊎_elim}
use Rattle.graph_atoms.specs.declared.atom_gather.cuts.Cut.{Cut}
use Rattle.gl_base.specs.declared.numbers.Vertex.{Vertex}
use Rattle.gl_outside.specs.Disk.{DiskPast}
use Rattle.gl_outside.specs.FilesState.{FilesState}
use Rattle.graph_core.specs.DataGraph.{DataGraph}
use Rattle.job_io.specs.job_config.Jobs.{JobSayings}
use Rattle.job_io.specs.job_files.Atoms.{HasAtoms, IsCutOf, OfJobCut, OfGraph}
use Rattle.job_io.specs.job_files.JobTexts.{DescribeJobGraph, OfTexts}
use Rattle.job_io.specs.declared.job_files.jobs.JobVerb.{JobVerb}
use Rattle.job_io.specs.job_stores.JobHeaders.{header_for}
use Rattle.job_io.specs.job_stores.NewStores.{IfDisksTold}
use Rattle.store.specs.declared.store_format.faults.StoreFault.{StoreFault}
use Rattle.engine_runs.specs.declared.answers.runs.StoredEnd.{StoredEnd}
use Rattle.engine_runs.specs.declared.answers.runs.StoredEnd.TheVariants as end
use Rattle.engine_cli.specs.declared.status.Status.{Status}
use Rattle.engine_cli.specs.declared.status.Status.TheVariants.{Done, Usage, BadJob, BadGraph, BadAtoms, ReadFault, WriteFault, DiskFault, BadStore, BudgetSpent, SnapshotsFull, NoMemory}
use Rattle.engine_cli.specs.JobRuns.{CallLists, GoesOnFrom, MakesRun, RunsOnStore, RunsSo, is_resumed, records_size, shared_by, snapshots_on}
use Rattle.engine_cli.specs.JobStores.{IsNotRunFrom, IsOtherStore, OfStoredJob, RefusesStore}
use Rattle.engine_cli.specs.StatusMeanings.{EndsRun, HasSoundStore, HasStoreOfJob, IsReadable, IsSoundOnStore, Moment, Refuses, StatusMeaning, RunOutcome}
use Rattle.engine_cli.specs.Status.{IsDoneOrNoMemory}
use Rattle.engine_cli.proofs.OneGraph.{no_bad_atoms, no_bad_graph, no_bad_job, of_said, of_texts}
use Rattle.engine_cli.proofs.StoreRuns.{one_store}

-- what is said of disks that are told is so
told-so : (told : Bool) (files : FilesState) (P : Type 0) → IsTrue told → IsTrue (is_some files.disks.names) → IfDisksTold told files P → P
told-so told files P held named said = go files.disks.names named said
  where
    is_no_truth : IsTrue false → ⊥
    is_no_truth e = cc

    go : (names : Option (List (List ℕ))) → IsTrue (is_some names) → IfSome names (λ n. IsTrue told → P) → P
    go None none said = absurd (is_no_truth none)
    go (Some n) some said = said held

-- a sum that is small has a small first part
first-part : (a b c most : ℕ) → a + b + c ≤ most → a ≤ most
first-part a b c most small = omega (arith, small)

-- a sound store is not refused
no_bad_store : (resumed : Bool) (files : FilesState) (job : JobSayings) (g : DataGraph) (past : DiskPast) (fault : StoreFault) → HasSoundStore resumed files job g past
    → RefusesStore resumed (header_for job.fields g) past.now.seen fault → ⊥
no_bad_store resumed files job g past fault sound refused =
    ⊎_elim
    (λ bad. ok_is_no_err (sym sound.stands ∙ bad))
    (λ used.
    let same : snapshots_on job g past ≡ used.1.snapshots = one_store (header_for job.fields g) past.now.seen (snapshots_on job g past) used.1.snapshots sound.stands used.1.stands in
    omega (arith, sound.fresh used.0, used.1.some, ap (λ (l : List (List ℕ)). length l) same))
    refused
  where
    ok_is_no_err : {X E : Type 0} → {x : X} → {e : E} → Ok x ≡ Err e → ⊥
    ok_is_no_err e = cc

-- nor is it one that calls don't leave
no_other_store : (resumed : Bool) (files : FilesState) (job : JobSayings) (g : DataGraph) (cut : Cut) (past : DiskPast) → HasSoundStore resumed files job g past → IsCutOf files job.fields g cut → IsOtherStore job g cut past → ⊥
no_other_store resumed files job g cut past sound cut_is other =
    let good = sound.good cut cut_is in
    other.other good.owner good.front good.good (first-part (65 + records_size (snapshots_on job g past)) _ _ (2 ^ 30) sound.room.short)

module _ (told : Bool) (asked : JobVerb) (file : List ℕ) (before now : Moment) (sound : IsSoundOnStore told asked file before now) where
  abbrev pub old : FilesState
  old = before.files

  abbrev pub input : IsReadable asked before.files file
  input = sound.input

  abbrev pub job : JobSayings
  job = input.job

  -- what is told of the disk of the job's store is so
  of-disk : (P : Type 0) → IfDisksTold told old P → P
  of-disk P said = told-so told old P sound.held sound.named said

  -- what is said of the job's store and its graph is said of this one
  of-store : (P : List ℕ → JobSayings → DataGraph → Type 0) → OfStoredJob asked old file P → (g : DataGraph) × DescribeJobGraph job.fields input.vertices input.edges g × P sound.name job g
  of-store P said =
      let at = of_said asked old file (λ j. (name : List ℕ) × (j.fields.store ≡ Some name) × OfTexts old j.fields (OfGraph j.fields (λ g. P name j g))) input said in
      let found = of_texts asked old file (OfGraph job.fields (λ g. P at.0 job g)) input at.2 in
      (found.0, found.1, subst (λ (name : List ℕ). P name job found.0) (same_some (sym at.1 ∙ sound.name_is)) found.3)
    where
      same_some : {a b : List ℕ} → Some a ≡ Some b → a ≡ b
      same_some e = cc

  -- a run that was made and ended so
  makes : (lists : CallLists) (ending : StoredEnd) → EndsRun told asked old now.files.pasts file lists ending → MakesRun told asked old now.files.pasts job lists ending input.vertices input.edges
  makes lists ending says =
      let new : List ℕ → DiskPast = now.files.pasts in
      let made = of_said asked old file (λ j. HasAtoms old j.fields × OfTexts old j.fields (MakesRun told asked old new j lists ending)) input says in
      of_texts asked old file (MakesRun told asked old new job lists ending) input made.1

  module _ (lists : CallLists) (ending : StoredEnd) (made : MakesRun told asked old now.files.pasts job lists ending input.vertices input.edges) where
    abbrev pub store : HasSoundStore (is_resumed asked) old job made.graph (old.pasts sound.name)
    store = sound.store made.graph made.graph_is

    abbrev pub of_job : HasStoreOfJob job made.graph made.cut (old.pasts sound.name)
    of_job = store.good made.cut made.cut_is

    -- it went on from the store
    goes : GoesOnFrom job (shared_by job made.graph of_job.owner) (is_resumed asked) (header_for job.fields made.graph) of_job.front (snapshots_on job made.graph (old.pasts sound.name)) (old.pasts sound.name)
        (now.files.pasts sound.name) made.run
    goes =
        let new : List ℕ → DiskPast = now.files.pasts in
        let runs : RunsSo told asked old new job made.graph made.cut made.run (Some sound.name) = subst (λ (s : Option (List ℕ)). RunsSo told asked old new job made.graph made.cut made.run s) sound.name_is made.runs in
        (of-disk (RunsOnStore (is_resumed asked) job made.graph made.cut (old.pasts sound.name) (new sound.name) made.run) runs).goes_on of_job.owner of_job.front of_job.good

    -- neither its budget nor the room of the store was too little
    unspent : (left : Vertex) → ending ≡ end.Spent left → ⊥
    unspent left same = goes.enough store.enough left (made.ended ∙ same)

    unfilled : (stored length : ℕ) → ending ≡ end.Full stored length → ⊥
    unfilled stored length same = goes.roomy store.room stored length (made.ended ∙ same)

  -- what it comes to where a run was made
  run_is_done : (report : Bool) (tells : List ℕ → Type 0) (lists : CallLists) (status : Status) → RunOutcome told asked file report before now tells lists status → IsDoneOrNoMemory status
  run_is_done report tells lists Done says = tt
  run_is_done report tells lists (Usage fault) says = says
  run_is_done report tells lists (BadJob fault) says = says
  run_is_done report tells lists (BadGraph fault) says = says
  run_is_done report tells lists (BadAtoms fault) says = says
  run_is_done report tells lists ReadFault says = says
  run_is_done report tells lists WriteFault says = ⊎_elim (λ first. sound.no_write_fault first.rose) (λ second. sound.no_fault_of_out second.rose) says.1.2.0
  run_is_done report tells lists DiskFault says = sound.no_disk_fault says.0
  run_is_done report tells lists (BadStore fault) says = says
  run_is_done report tells lists (BudgetSpent left) says = unspent lists (end.Spent left) (makes lists (end.Spent left) says) left refl
  run_is_done report tells lists (SnapshotsFull stored length) says = unfilled lists (end.Full stored length) (makes lists (end.Full stored length) says) stored length refl
  run_is_done report tells lists NoMemory says = tt

  -- it is not refused
  not_refused : (status : Status) → Refuses told asked file before.files now.files status → IsDoneOrNoMemory status
  not_refused Done says = tt
  not_refused (Usage fault) says = says
  not_refused (BadJob fault) says = no_bad_job asked before.files file fault input says
  not_refused (BadGraph fault) says = no_bad_graph asked before.files file fault input says
  not_refused (BadAtoms fault) says = no_bad_atoms asked before.files file fault input sound.atoms says
  not_refused ReadFault says = sound.no_read_fault says
  not_refused WriteFault says = says
  not_refused DiskFault says = sound.no_disk_fault says.0
  not_refused (BadStore fault) says =
      ⊎_elim
      (λ refused.
      let at = of-store (λ name j g. IfDisksTold told old (RefusesStore (is_resumed asked) (header_for j.fields g) (old.pasts name).now.seen fault)) refused.0 in
      no_bad_store (is_resumed asked) old job at.0 (old.pasts sound.name) fault (sound.store at.0 at.1)
      (of-disk (RefusesStore (is_resumed asked) (header_for job.fields at.0) (old.pasts sound.name).now.seen fault) at.2))
      (λ other.
      let at = of-store (λ name j g. OfJobCut old j.fields g (λ cut. IfDisksTold told old (IsNotRunFrom (is_resumed asked) j g cut (old.pasts name) (now.files.pasts name) fault))) other in
      let other_is = at.2.2 in
      let found = of-disk (IsNotRunFrom (is_resumed asked) job at.0 at.2.0 (old.pasts sound.name) (now.files.pasts sound.name) fault) other_is in
      no_other_store (is_resumed asked) old job at.0 at.2.0 (old.pasts sound.name) (sound.store at.0 at.1) at.2.1 found.other)
      says
  not_refused (BudgetSpent left) says = says
  not_refused (SnapshotsFull stored length) says = says
  not_refused NoMemory says = tt

  -- so it is done, or there was not enough memory
  pub sound_on_store_is_done : (report : Bool) (tells : List ℕ → Type 0) (lists : CallLists) (status : Status) → StatusMeaning told asked file report before now tells lists status → IsDoneOrNoMemory status
  sound_on_store_is_done report tells lists status says = ⊎_elim (λ made. run_is_done report tells lists status made) (λ refused. not_refused status refused.1) says
