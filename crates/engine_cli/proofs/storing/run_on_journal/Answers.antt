use Rattle.std.proofs.Common.{IsTrue, rules, subst}
use Rattle.job_io.specs.job_config.Views.{job_view}
use Rattle.recovery.specs.Journals.{snapshots_in}
use Rattle.update_api.specs.Updates.{Update}
use Rattle.engine_cli.specs.Inner.Storing.{IsStoreRunFrom, RunStoredErrorCause}
use Rattle.engine_cli.proofs.StoreRuns.{not-stored}
use Rattle.engine_cli.proofs.storing.run_on_journal.Goals as goal

pub returns-in-Err-clause-refused : goal.returns-in-Err-clause-refused
returns-in-Err-clause-refused g c =
    rw c.why_not_run_from.ensures
    (not-stored _ c.args.resumed (job_view c.args.input.now.job) c.args.input.now.graph c.args.input.now.cut c.args.journal.now.header (snapshots_in g.D.Disk.past c.args.journal.now) (g.D.Disk.past c.args.journal.now.disk)
    (g.D.Disk.past c.run_stored_by.new.journal.disk) (g.D.Disk.faults c.args.journal.now.disk) (g.D.Disk.faults c.run_stored_by.new.journal.disk) c.in-Err.fault c.length-length.result
    (λ told. c.length-length.ensures.stored told c.requires.well) (λ told. search rules)
    (subst (λ (p : Update). RunStoredErrorCause (IsTrue g.D.Disk.observable) (job_view c.args.input.now.job) c.args.input.now.graph c.args.input.now.cut p c.args.journal.now.header (snapshots_in g.D.Disk.past c.args.journal.now) (g.D.Disk.past c.args.journal.now.disk)
    (g.D.Disk.past c.run_stored_by.new.journal.disk) (g.D.Disk.faults c.args.journal.now.disk) (g.D.Disk.faults c.run_stored_by.new.journal.disk) c.in-Err.fault) c.program_of-program.ensures c.in-Err.ensures.refused))

pub returns-in-Ok-clause-run : goal.returns-in-Ok-clause-run
returns-in-Ok-clause-run g c told =
    subst (λ (p : Update). IsStoreRunFrom (job_view c.args.input.now.job) c.args.input.now.graph c.args.input.now.cut p c.args.journal.now.header c.args.resumed (snapshots_in g.D.Disk.past c.args.journal.now) (g.D.Disk.past c.args.journal.now.disk)
    (g.D.Disk.past c.run_stored_by.new.journal.disk) c.in-Ok.run') c.program_of-program.ensures (c.in-Ok.ensures.run told)
