-- A call for which memory ran out before it did anything.
use Rattle.std.proofs.Common.{◌≡◌, inl, inr, ◌<◌, ℕ, Bool, List, length, refl, arith}
use Rattle.job_io.specs.declared.job_words.words.Words.{Words}
use Rattle.job_io.specs.declared.job_words.words.Words.TheVariants.{Run, Resume, Make, Cut, Init}
use Rattle.job_io.specs.declared.job_files.jobs.JobVerb.{JobVerb}
use Rattle.job_io.specs.declared.job_files.jobs.JobVerb.TheVariants as verb
use Rattle.job_io.proofs.job_stores.DisksUsed.{always-told}
use Rattle.job_io.proofs.whole_files.FilesCreated.{writes-nothing}
use Rattle.job_io.proofs.whole_files.NamesHanded.{AppendsNames-nil}
use Rattle.engine_cli.specs.declared.ended.Ended.{Ended}
use Rattle.engine_cli.specs.declared.status.Status.{Status}
use Rattle.engine_cli.specs.declared.status.Status.TheVariants.{NoMemory}
use Rattle.engine_cli.specs.JobRuns.{CallLists, lists_of_call, no_lists}
use Rattle.engine_cli.specs.StatusMeanings.{Moment}
use Rattle.engine_cli.specs.Verbs.{IsCall, IsCutting, IsInit, IsMaking, IsRun}
use Rattle.engine_cli.proofs.NamesHanded.{hands-no-name, hands-no-store}
use Rattle.engine_cli.proofs.Preparing.{same-images, store-unused}
use Rattle.engine_cli.proofs.RunsSay.{ends-early}
use Rattle.std.proofs.Common.{subst, sym}

run-none : (told : Bool) (asked : JobVerb) (file : List ℕ) (report : Bool) (at : Moment) (tells : List ℕ → Type 0) → IsRun told asked file report at at tells no_lists NoMemory
run-none told asked file report at tells =
    ends-early told asked file report at at tells no_lists NoMemory (inr (refl, inl (same-images told at.files at.files.pasts refl)))
    (record { frame = refl; handed = inl (0, AppendsNames-nil at.files.sources.names); used = store-unused asked file at.files at.files refl })
    (λ early. absurd early) (λ refused. absurd refused)

pub none-done : (told : Bool) (asked : Words) (at : Moment) (tells : List ℕ → Type 0) (ended : Ended) → ended.status ≡ NoMemory → lists_of_call ended ≡ no_lists → IsCall told asked at at tells ended
none-done told (Run file report) at tells ended status lists =
    let L : CallLists → Type 0 = λ l. IsRun told verb.Run file report at at tells l ended.status in
    let S : Status → Type 0 = λ s. IsRun told verb.Run file report at at tells no_lists s in
    subst L (sym lists) (subst S (sym status) (run-none told verb.Run file report at tells))
none-done told (Resume file report) at tells ended status lists =
    let L : CallLists → Type 0 = λ l. IsRun told verb.Resume file report at at tells l ended.status in
    let S : Status → Type 0 = λ s. IsRun told verb.Resume file report at at tells no_lists s in
    subst L (sym lists) (subst S (sym status) (run-none told verb.Resume file report at tells))
none-done told (Make prefix plan) at tells ended status lists =
    let S : Status → Type 0 = λ s. IsMaking prefix plan at.files at.files s in
    (subst S (sym status) (record { says = tt; vertices = inl refl; edges = inl refl; writes = writes-nothing _ at.files; complete = λ sound. tt }), lists)
none-done told (Cut file) at tells ended status lists =
    let S : Status → Type 0 = λ s. IsCutting file at.files at.files s in (
      subst S (sym status) (record {
        says = tt;
        fronts = inl refl;
        sources = (0, AppendsNames-nil at.files.sources.names);
        sinks = hands-no-name verb.Cut at.files at.files file refl;
        early = λ early. absurd early;
        others = λ name apart. refl;
        complete = λ input no_read no_write. tt;
      }),
      lists,
    )
none-done told (Init file) at tells ended status lists =
    let S : Status → Type 0 = λ s. IsInit told file at.files at.files s in (
      subst S (sym status) (record {
        says = refl;
        kept = λ name. always-told told at.files (0 < length (at.files.pasts name).now.seen → at.files.pasts name ≡ at.files.pasts name) (λ filled. refl);
        sources = (0, AppendsNames-nil at.files.sources.names);
        disks = hands-no-store verb.Init at.files at.files file refl;
        frame = refl;
        early = λ early. absurd early;
        others = λ name apart. refl;
        later = omega arith;
        complete = λ input empty no_read no_disk. tt;
      }),
      lists,
    )
