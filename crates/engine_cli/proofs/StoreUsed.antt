-- What a run on the disk of a name is, over the files.
use Rattle.std.proofs.Common.{◌≡◌, inl, ℕ, ◌≤◌, Bool, IsTrue, List, Result, Ok, Err, refl, ap, subst, sym, arith}
use Rattle.std.specs.Prelude.{IfErr, IfOk}
use Rattle.gl_outside.specs.Disk.{DiskPast}
use Rattle.gl_outside.specs.Faults.{Rose}
use Rattle.gl_outside.specs.FilesState.{FilesState, disk_past}
use Rattle.gl_outside.specs.Frames.{ChangesDisk, OpensDisk}
use Rattle.gl_outside.specs.declared.files.FileNo.{FileNo}
use Rattle.gl_outside.specs.declared.files.OpenFault.{OpenFault}
use Rattle.gl_outside.specs.declared.files.OpenFault.TheVariants as open_fault
use Rattle.gl_outside.proofs.Fronts.{Rose-later}
use Rattle.job_io.specs.job_config.Views.{job_view}
use Rattle.job_io.specs.declared.job_files.inputs.Input.{Input}
use Rattle.job_io.specs.job_stores.JobHeaders.{header_for}
use Rattle.job_io.specs.job_stores.NewStores.{IfDisksTold, UsesDisk}
use Rattle.job_io.specs.declared.job_stores.making.StoreError.{StoreError}
use Rattle.job_io.specs.declared.job_stores.making.StoreError.TheVariants as no_store
use Rattle.job_io.proofs.job_stores.DisksUsed.{always-told, told-at-end}
use Rattle.engine_runs.specs.declared.answers.runs.StoredEnd.TheVariants as end
use Rattle.engine_runs.specs.declared.answers.runs.StoredRun.{StoredRun}
use Rattle.engine_cli.specs.Inner.Storing.{IsRunIntoStore, RunOnStoreErrorCause, RunOnDiskErrorCause, no_store_of_open}
use Rattle.engine_cli.specs.JobRuns.{RunsOnStore}
use Rattle.engine_cli.specs.JobStores.{IsNotRunFrom, KeepsGoing, KeepsImages, RefusesStore}
use Rattle.engine_cli.proofs.DisksLeft.{leaves-same}
use Rattle.std.specs.Prelude.{◌⊎◌}

-- The file was opened, and used as a disk of its own until the end.
module _ (old mid was last new : FilesState) (name : List ℕ) (file : FileNo) (own again : ℕ) (opens : OpensDisk old mid name (Ok file)) (own_is : own ≡ file.0) (was_is : was ≡ mid)
    (uses : ChangesDisk own was last) (again_is : again ≡ own) (used : UsesDisk name old new) (new_is : new ≡ last) (told resumed : Bool) (input : Input) (first : old.disks.faults ≤ mid.disks.faults) where
  at-end : (P : DiskPast → DiskPast → Type 0) → (IsTrue told → P (disk_past was own) (disk_past last again)) → IfDisksTold told old (P (old.pasts name) (new.pasts name))
  at-end P holds = told-at-end old mid was last new name file own again opens own_is was_is uses again_is used new_is told P holds

  rises : Rose was.disks.faults last.disks.faults → Rose old.disks.faults new.disks.faults
  rises rose =
      let before : old.disks.faults ≤ was.disks.faults = omega (arith, first, ap (λ (s : FilesState). s.disks.faults) was_is) in
      let R : FilesState → Type 0 = λ s. Rose old.disks.faults s.disks.faults in
      subst R (sym new_is) (Rose-later old.disks.faults was.disks.faults last.disks.faults before rose)

  pub run-at-end : (r : Result StoredRun StoreError) → (IsTrue told → IfOk r (RunsOnStore resumed (job_view input.job) input.graph input.cut (disk_past was own) (disk_past last again)))
      → IfOk r (λ run. run.end ≡ end.DiskFault → Rose was.disks.faults last.disks.faults) → IfOk r (IsRunIntoStore told resumed name input old new)
  run-at-end (Ok run) runs fault = record {
    runs = at-end (λ p q. RunsOnStore resumed (job_view input.job) input.graph input.cut p q run) runs;
    fault = λ is. rises (fault is);
  }
  run-at-end (Err why) runs fault = tt

  why-at-end : (why : StoreError) → RunOnDiskErrorCause (IsTrue told) resumed (job_view input.job) input.graph input.cut (disk_past was own) (disk_past last again) was.disks.faults last.disks.faults why
      → RunOnStoreErrorCause told resumed name input old new why
  why-at-end (no_store.BadStore fault) refused =
      at-end (λ p q. (RefusesStore resumed (header_for (job_view input.job).fields input.graph) p.now.seen fault × KeepsImages p q) ⊎ IsNotRunFrom resumed (job_view input.job) input.graph input.cut p q fault) refused
  why-at-end no_store.DiskFault refused = (rises refused.0, at-end (λ p q. KeepsImages p q) refused.1)
  why-at-end no_store.NoMemory refused = at-end (λ p q. KeepsImages p q ⊎ KeepsGoing (job_view input.job) input.graph input.cut p q) refused

  pub refused-at-end : (r : Result StoredRun StoreError)
      → IfErr r (RunOnDiskErrorCause (IsTrue told) resumed (job_view input.job) input.graph input.cut (disk_past was own) (disk_past last again) was.disks.faults last.disks.faults)
      → IfErr r (RunOnStoreErrorCause told resumed name input old new)
  refused-at-end (Ok run) refused = tt
  refused-at-end (Err why) refused = why-at-end why refused

-- the file was not opened
pub why-unopened : (told resumed : Bool) (old new : FilesState) (name : List ℕ) (input : Input) (fault : OpenFault) → OpensDisk old new name (Err fault)
    → ((let r : Result FileNo OpenFault = Err fault in r) ≡ Err open_fault.Failed → Rose old.disks.faults new.disks.faults) → RunOnStoreErrorCause told resumed name input old new (no_store_of_open fault)
why-unopened told resumed old new name input fault opens failed = go fault failed
  where
    same : new.pasts name ≡ old.pasts name
    same = ap (λ (s : FilesState). s.pasts name) opens

    go : (fault : OpenFault) → ((let r : Result FileNo OpenFault = Err fault in r) ≡ Err open_fault.Failed → Rose old.disks.faults new.disks.faults) → RunOnStoreErrorCause told resumed name input old new (no_store_of_open fault)
    go open_fault.Failed failed = (failed refl, always-told told old (KeepsImages (old.pasts name) (new.pasts name)) (leaves-same (old.pasts name) (new.pasts name) same))
    go open_fault.NoMemory failed =
        always-told told old (KeepsImages (old.pasts name) (new.pasts name) ⊎ KeepsGoing (job_view input.job) input.graph input.cut (old.pasts name) (new.pasts name)) (inl (leaves-same (old.pasts name) (new.pasts name) same))
