use Rattle.std.proofs.Common.{◌≡◌, ℕ, List, Ok, Err, sym, ap, subst}
use Rattle.std.proofs.lemmas.Result.{err_from_is_err_and}
use Rattle.gl_base.specs.declared.limits.TheConstants.{MAX_JOB_BYTES}
use Rattle.job_io.specs.job_config.Views.{job_view}
use Rattle.job_io.specs.job_files.DoableJobs.{doable}
use Rattle.job_io.specs.whole_files.FilesUsed.{OfText}
use Rattle.job_io.specs.whole_files.FilesRead.{IsFront}
use Rattle.job_io.proofs.job_files.JobsTold.{job-unread, job-refused, job-not-doable, job-ready}
use Rattle.job_io.proofs.job_files.jobs.job_of.Goals as goal

pub returns-in_err-bytes-clause-answer : goal.returns-in_err-bytes-clause-answer
returns-in_err-bytes-clause-answer g c =
    let exit = err_from_is_err_and c.from_residual.result c.from_residual.ensures.1 in
    rw (exit.1, exit.2) (job-unread c.args.verb (g.F.Files.state c.args.files.now) (g.F.Files.state c.front_of.new.files).sources.faults c.args.name.now c.in_err-bytes.field-0.0 c.in_err-bytes.ensures.answer)

pub returns-in_err-job-clause-answer : goal.returns-in_err-job-clause-answer
returns-in_err-job-clause-answer g c =
    let exit = err_from_is_err_and c.from_residual-in_err-job.result c.from_residual-in_err-job.ensures.1 in
    let files = g.F.Files.state c.args.files.now in
    let front : OfText files c.args.name.now (λ t. IsFront MAX_JOB_BYTES t c.deref.result.now) =
    subst (λ (bytes : List ℕ). OfText files c.args.name.now (λ t. IsFront MAX_JOB_BYTES t bytes)) (sym c.deref.ensures.value) c.in_ok-bytes.ensures.answer in
    rw (exit.1, exit.2) (job-refused c.args.verb files (g.F.Files.state c.front_of.new.files).sources.faults c.args.name.now c.deref.result.now c.in_err-job.field-0.0 front (λ f e. c.in_err-job.ensures.fault f (ap Err e)))

pub returns-in-None-clause-answer : goal.returns-in-None-clause-answer
returns-in-None-clause-answer g c =
    let files = g.F.Files.state c.args.files.now in
    let front : OfText files c.args.name.now (λ t. IsFront MAX_JOB_BYTES t c.deref.result.now) =
    subst (λ (bytes : List ℕ). OfText files c.args.name.now (λ t. IsFront MAX_JOB_BYTES t bytes)) (sym c.deref.ensures.value) c.in_ok-bytes.ensures.answer in
    let ready : doable c.args.verb (job_view c.in_ok-job.job) ≡ Ok (job_view c.in_ok-job.job) = c.in-None.ensures in
    job-ready c.args.verb files (g.F.Files.state c.front_of.new.files).sources.faults c.args.name.now c.deref.result.now c.in_ok-job.job front c.in_ok-job.ensures.job c.in_ok-job.ensures.ranges ready

pub returns-clause-answer : goal.returns-clause-answer
returns-clause-answer g c =
    let files = g.F.Files.state c.args.files.now in
    let front : OfText files c.args.name.now (λ t. IsFront MAX_JOB_BYTES t c.deref.result.now) =
    subst (λ (bytes : List ℕ). OfText files c.args.name.now (λ t. IsFront MAX_JOB_BYTES t bytes)) (sym c.deref.ensures.value) c.in_ok-bytes.ensures.answer in
    let refused : doable c.args.verb (job_view c.in_ok-job.job) ≡ Err c.in-Some.fault = c.in-Some.ensures in
    job-not-doable c.args.verb files (g.F.Files.state c.front_of.new.files).sources.faults c.args.name.now c.deref.result.now (job_view c.in_ok-job.job) c.in-Some.fault front c.in_ok-job.ensures.job refused
