-- As the journal answers.
use Rattle.std.proofs.Common.{length, ◌+◌}
use Rattle.recovery.specs.Journals.{body_bytes}
use Rattle.store.specs.snap_journal.Journals.{snapshots_in}
use Rattle.engine_runs.proofs.append.Images.{leaves_more}
use Rattle.engine_runs.proofs.append.Putting.{fault_is, stays_short, with_record}
use Rattle.engine_runs.proofs.append.storing.put.Goals as goal

pub append_fault-requires : goal.append_fault-requires
append_fault-requires g c =
    let j = c.args.journal.now in
    fault_is j c.append.new.self (g.D.Disk.faults j.disk) (g.D.Disk.faults c.append.new.self.disk) c.args.made.now c.requires.well c.in-Err.fault c.in-Err.ensures.refused

pub returns-in-Ok-clause-any_moment : goal.returns-in-Ok-clause-any_moment
returns-in-Ok-clause-any_moment g c = λ told.
    let j = c.args.journal.now in
    leaves_more (g.D.Disk.past j.disk) (g.D.Disk.past c.append.new.self.disk) _ _ (with_record j.header j.count (snapshots_in g.D.Disk.past j) c.args.made.now c.requires.form) (c.in-Ok.ensures.any_moment told c.requires.well)

pub returns-in-Err-clause-any_moment : goal.returns-in-Err-clause-any_moment
returns-in-Err-clause-any_moment g c = λ told.
    let j = c.args.journal.now in
    leaves_more (g.D.Disk.past j.disk) (g.D.Disk.past c.append.new.self.disk) _ _ (with_record j.header j.count (snapshots_in g.D.Disk.past j) c.args.made.now c.requires.form) (c.in-Err.ensures.any_moment told c.requires.well)

pub returns-in-Ok-clause-short : goal.returns-in-Ok-clause-short
returns-in-Ok-clause-short g c =
    let j = c.args.journal.now in
    stays_short c.append.result j.count j.length c.append.new.self.length (9 + length (body_bytes c.args.made.now)) c.in-Ok.is c.in-Ok.ensures.grown (c.append.ensures.full c.requires.well)
