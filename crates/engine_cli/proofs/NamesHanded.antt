-- The names of the files that are written for a verb, handed on at most.
use Rattle.std.proofs.Common.{◌≡◌, ℕ, List, [], Option, None, Some, Result, Ok, IfSome, sym, subst}
use Rattle.gl_base.specs.declared.job_faults.JobFault.{JobFault}
use Rattle.gl_outside.specs.FilesState.{FilesState}
use Rattle.gl_outside.specs.Names.{AppendsNames}
use Rattle.job_io.specs.job_config.Jobs.{JobSayings}
use Rattle.job_io.specs.whole_files.FilesUsed.{OpensInOrder, OfRead}
use Rattle.job_io.proofs.whole_files.NamesHanded.{AppendsNames-nil}
use Rattle.job_io.specs.job_files.DoableJobs.{job_for}
use Rattle.job_io.specs.job_files.JobTexts.{SaysJob}
use Rattle.job_io.specs.declared.job_files.jobs.JobVerb.{JobVerb}
use Rattle.engine_cli.specs.NamesWritten.{WriteOpens, names_for, order_names, written_for}
use Rattle.engine_cli.specs.StoreJobs.{HandsStore, store_names}

-- the names that the job gives were handed on at most
pub hands-written-names : (verb : JobVerb) (old new : FilesState) (file : List ℕ) (job : JobSayings) → SaysJob verb old file job
    → OpensInOrder old.sinks.names new.sinks.names (names_for verb job.fields) → WriteOpens verb old new file
hands-written-names verb old new file job says hands = go old.sources.names (old.contents file) says
  where
    go : (a : Option (List (List ℕ))) (text : Option (List ℕ)) → OfRead a text (λ bytes. job_for verb bytes ≡ Ok job)
        → IfSome text (λ bytes. OpensInOrder old.sinks.names new.sinks.names (written_for verb (job_for verb bytes)))
    go a None is = tt
    go a (Some bytes) is = subst (λ (r : Result JobSayings JobFault). OpensInOrder old.sinks.names new.sinks.names (written_for verb r)) (sym is) hands

-- no name was handed on
pub hands-no-name : (verb : JobVerb) (old new : FilesState) (file : List ℕ) → new.sinks.names ≡ old.sinks.names → WriteOpens verb old new file
hands-no-name verb old new file same = go (old.contents file)
  where
    go : (text : Option (List ℕ)) → IfSome text (λ bytes. OpensInOrder old.sinks.names new.sinks.names (written_for verb (job_for verb bytes)))
    go None = tt
    go (Some bytes) = (0, subst (λ (n : Option (List (List ℕ))). AppendsNames old.sinks.names n []) (sym same) (AppendsNames-nil old.sinks.names))

-- the name of the store was handed on at most
pub hands-store : (asked : JobVerb) (old new : FilesState) (file : List ℕ) (job : JobSayings) → SaysJob asked old file job
    → OpensInOrder old.disks.names new.disks.names (order_names job.fields.store) → HandsStore asked old new file
hands-store asked old new file job says hands = go old.sources.names (old.contents file) says
  where
    go : (a : Option (List (List ℕ))) (text : Option (List ℕ)) → OfRead a text (λ bytes. job_for asked bytes ≡ Ok job)
        → IfSome text (λ bytes. OpensInOrder old.disks.names new.disks.names (store_names (job_for asked bytes)))
    go a None is = tt
    go a (Some bytes) is = subst (λ (r : Result JobSayings JobFault). OpensInOrder old.disks.names new.disks.names (store_names r)) (sym is) hands

-- no name was
pub hands-no-store : (asked : JobVerb) (old new : FilesState) (file : List ℕ) → new.disks.names ≡ old.disks.names → HandsStore asked old new file
hands-no-store asked old new file same = go (old.contents file)
  where
    go : (text : Option (List ℕ)) → IfSome text (λ bytes. OpensInOrder old.disks.names new.disks.names (store_names (job_for asked bytes)))
    go None = tt
    go (Some bytes) = (0, subst (λ (n : Option (List (List ℕ))). AppendsNames old.disks.names n []) (sym same) (AppendsNames-nil old.disks.names))
