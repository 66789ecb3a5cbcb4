use Rattle.std.proofs.Common.{◌≡◌, inr, ℕ, List, Err, refl, sym, ap}
use Rattle.gl_outside.specs.FilesState.{FilesState}
use Rattle.job_io.specs.job_config.Views.{job_view}
use Rattle.engine_cli.specs.JobRuns.{lists_of_run, no_lists}
use Rattle.engine_cli.specs.StatusMeanings.{moment}
use Rattle.engine_cli.proofs.RunsSay.{HasRun, IsSince, ends-early, ends-late, finished-of, print-fails, print-says, runs-out, unfinished-late, unfinished-says}
use Rattle.engine_cli.specs.declared.status.Status.TheVariants.{Done, NoMemory, WriteFault}
use Rattle.engine_cli.proofs.running.run_job.Goals as goal

pub returns-in-Err-clause-run : goal.returns-in-Err-clause-run
returns-in-Err-clause-run g c =
    let before = moment (g.F.Files.state c.args.files.now) (g.K.Sink.faults c.args.out.now) (g.K.Sink.held c.args.out.now) in
    let now = moment (g.F.Files.state c.prepare.new.files) (g.K.Sink.faults c.args.out.now) (g.K.Sink.held c.args.out.now) in
    let ran : HasRun c.args.asked.now.verb c.args.asked.now.file.now before.files now.files = record { frame = c.in-Err.ensures.frame; handed = c.in-Err.ensures.handed; used = c.in-Err.ensures.used } in
    rw (c.refused.ensures.status, c.refused.ensures.lists)
    (ends-early g.F.Files.disks_observable c.args.asked.now.verb c.args.asked.now.file.now c.args.asked.now.is_reported before now _ no_lists c.in-Err.status (inr (refl, c.in-Err.ensures.answer)) ran c.in-Err.ensures.early c.in-Err.ensures.refused)

pub returns-in-Some-clause-run : goal.returns-in-Some-clause-run
returns-in-Some-clause-run g c =
    let before = moment (g.F.Files.state c.args.files.now) (g.K.Sink.faults c.args.out.now) (g.K.Sink.held c.args.out.now) in
    let now = moment (g.F.Files.state c.prepare.new.files) (g.K.Sink.faults c.args.out.now) (g.K.Sink.held c.args.out.now) in
    let prepared = c.in-Ok.prepared in
    let ran : HasRun c.args.asked.now.verb c.args.asked.now.file.now before.files now.files = record { frame = c.in-Ok.ensures.frame; handed = c.in-Ok.ensures.handed; used = c.in-Ok.ensures.used } in
    let tells : List ℕ → Type 0 = λ told. c.ended.result.report.items ≡ told in
    let late = unfinished-late prepared.run.end c.in-Some.status (sym c.in-Some.ensures) in
    rw (c.ended.ensures.status, c.ended.ensures.lists)
    (ends-early g.F.Files.disks_observable c.args.asked.now.verb c.args.asked.now.file.now c.args.asked.now.is_reported before now tells (lists_of_run prepared.run) c.in-Some.status
    (unfinished-says g.F.Files.disks_observable c.args.asked.now.verb c.args.asked.now.file.now c.args.asked.now.is_reported before now tells prepared c.in-Some.status c.in-Ok.ensures.answer (sym c.in-Some.ensures)) ran
    (λ early. absurd (late.0 early)) (λ refused. absurd (late.1 refused)))

pub print_run-requires-clause-numbers : goal.print_run-requires-clause-numbers
print_run-requires-clause-numbers g c = c.in-Ok.ensures.answer.printable.numbers

pub print_run-requires-clause-entries : goal.print_run-requires-clause-entries
print_run-requires-clause-entries g c = c.in-Ok.ensures.answer.printable.entries

pub returns-in-Ok-print_run-clause-run : goal.returns-in-Ok-print_run-clause-run
returns-in-Ok-print_run-clause-run g c =
    let before = moment (g.F.Files.state c.args.files.now) (g.K.Sink.faults c.args.out.now) (g.K.Sink.held c.args.out.now) in
    let mid = moment (g.F.Files.state c.prepare.new.files) (g.K.Sink.faults c.args.out.now) (g.K.Sink.held c.args.out.now) in
    let now = moment (g.F.Files.state c.print_run.new.files) (g.K.Sink.faults c.print_run.new.out) (g.K.Sink.held c.print_run.new.out) in
    let prepared = c.in-Ok.prepared in
    let since : IsSince before mid = record { frame = c.in-Ok.ensures.frame; faults = refl; held = refl } in
    let ran : HasRun c.args.asked.now.verb c.args.asked.now.file.now before.files mid.files = record { frame = c.in-Ok.ensures.frame; handed = c.in-Ok.ensures.handed; used = c.in-Ok.ensures.used } in
    let finished = finished-of prepared.run.end (sym c.in_default.ensures) in
    let pasts : now.files.pasts ≡ mid.files.pasts = ap (λ (s : FilesState). s.pasts) c.in-Ok-print_run.ensures.wrote.frame in
    rw (c.ended-in-Ok-print_run.ensures.status, c.ended-in-Ok-print_run.ensures.lists, c.ended-in-Ok-print_run.ensures.report)
    (ends-late g.F.Files.disks_observable c.args.asked.now.verb c.args.asked.now.file.now c.args.asked.now.is_reported before mid now _ (job_view prepared.job) (lists_of_run prepared.run) Done c.requires
    (print-says g.F.Files.disks_observable c.args.asked.now.verb c.args.asked.now.file.now c.args.asked.now.is_reported prepared before mid now c.in-Ok-print_run.report c.in-Ok.ensures.answer finished since pasts c.in-Ok-print_run.ensures.printed)
    ran c.in-Ok.ensures.answer.job c.in-Ok-print_run.ensures.wrote (λ early. early) (λ refused. refused) (λ early. absurd early) (λ early. absurd early))

pub returns-in-Err-WriteFault-clause-run : goal.returns-in-Err-WriteFault-clause-run
returns-in-Err-WriteFault-clause-run g c =
    let before = moment (g.F.Files.state c.args.files.now) (g.K.Sink.faults c.args.out.now) (g.K.Sink.held c.args.out.now) in
    let mid = moment (g.F.Files.state c.prepare.new.files) (g.K.Sink.faults c.args.out.now) (g.K.Sink.held c.args.out.now) in
    let now = moment (g.F.Files.state c.print_run.new.files) (g.K.Sink.faults c.print_run.new.out) (g.K.Sink.held c.print_run.new.out) in
    let prepared = c.in-Ok.prepared in
    let since : IsSince before mid = record { frame = c.in-Ok.ensures.frame; faults = refl; held = refl } in
    let ran : HasRun c.args.asked.now.verb c.args.asked.now.file.now before.files mid.files = record { frame = c.in-Ok.ensures.frame; handed = c.in-Ok.ensures.handed; used = c.in-Ok.ensures.used } in
    let finished = finished-of prepared.run.end (sym c.in_default.ensures) in
    let pasts : now.files.pasts ≡ mid.files.pasts = ap (λ (s : FilesState). s.pasts) c.in-Err-WriteFault.ensures.wrote.frame in
    let tells : List ℕ → Type 0 = λ told. c.ended-in-Err-WriteFault.result.report.items ≡ told in
    rw (c.ended-in-Err-WriteFault.ensures.status, c.ended-in-Err-WriteFault.ensures.lists)
    (ends-late g.F.Files.disks_observable c.args.asked.now.verb c.args.asked.now.file.now c.args.asked.now.is_reported before mid now tells (job_view prepared.job) (lists_of_run prepared.run) WriteFault c.requires
    (print-fails g.F.Files.disks_observable c.args.asked.now.verb c.args.asked.now.file.now c.args.asked.now.is_reported prepared before mid now tells c.in-Ok.ensures.answer finished since pasts (rw c.in-Err-WriteFault.field-0-is at c.in-Err-WriteFault.ensures.printed))
    ran c.in-Ok.ensures.answer.job c.in-Err-WriteFault.ensures.wrote (λ early. early) (λ refused. refused) (λ early. absurd early) (λ early. absurd early))

pub returns-in-Err-NoMemory-clause-run : goal.returns-in-Err-NoMemory-clause-run
returns-in-Err-NoMemory-clause-run g c =
    let before = moment (g.F.Files.state c.args.files.now) (g.K.Sink.faults c.args.out.now) (g.K.Sink.held c.args.out.now) in
    let mid = moment (g.F.Files.state c.prepare.new.files) (g.K.Sink.faults c.args.out.now) (g.K.Sink.held c.args.out.now) in
    let now = moment (g.F.Files.state c.print_run.new.files) (g.K.Sink.faults c.print_run.new.out) (g.K.Sink.held c.print_run.new.out) in
    let prepared = c.in-Ok.prepared in
    let ran : HasRun c.args.asked.now.verb c.args.asked.now.file.now before.files mid.files = record { frame = c.in-Ok.ensures.frame; handed = c.in-Ok.ensures.handed; used = c.in-Ok.ensures.used } in
    let pasts : now.files.pasts ≡ mid.files.pasts = ap (λ (s : FilesState). s.pasts) c.in-Err-NoMemory.ensures.wrote.frame in
    rw (c.refused-in-Err-NoMemory.ensures.status, c.refused-in-Err-NoMemory.ensures.lists)
    (ends-late g.F.Files.disks_observable c.args.asked.now.verb c.args.asked.now.file.now c.args.asked.now.is_reported before mid now _ (job_view prepared.job) no_lists NoMemory c.requires
    (inr (refl, runs-out g.F.Files.disks_observable c.args.asked.now.verb before.files mid.files c.args.asked.now.file.now prepared c.in-Ok.ensures.answer now.files.pasts pasts))
    ran c.in-Ok.ensures.answer.job c.in-Err-NoMemory.ensures.wrote (λ early. early) (λ refused. refused) (λ early. refl)
    (λ early. (c.in-Err-NoMemory.ensures.no_memory (ap Err c.in-Err-NoMemory.field-0-is)).1))
