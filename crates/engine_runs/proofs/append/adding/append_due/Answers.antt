-- The record is made, stored and acknowledged.
use Rattle.std.proofs.Common.{◌∙◌, ℕ, List, Err, ap, ap₂, inl, length, refl, subst, sym}
use Rattle.std.proofs.lemmas.Result.{err_from_is_err_and}
use Rattle.gl_outside.proofs.Disks.{started}
use Rattle.recovery.specs.Journals.{body_bytes}
use Rattle.cluster_step.specs.declared.clusters.events.Event.TheVariants.{Lead}
use Rattle.cluster_step.specs.declared.clusters.events.Lead.TheVariants.{Record}
use Rattle.engine_runs.specs.append.Appends.{AppendDueErrorCause, snapshots_in, stored_order}
use Rattle.engine_runs.specs.append.Inner.Storing.{no_record}
use Rattle.engine_runs.specs.declared.append.faults.AppendFault.TheVariants.{Full, NotInForm}
use Rattle.engine_runs.proofs.append.Appending.{happened, image_good, known_now, line_added}
use Rattle.engine_runs.proofs.append.Answering.{fault_in, known_as, needed_for_record, never_unformed, not_for_want, not_unformed, same_anew, why_no_record, why_not_stored}
use Rattle.engine_runs.proofs.append.Images.{leaves_more}
use Rattle.engine_runs.proofs.append.adding.append_due.Goals as goal

-- ---- no record was made

pub returns-in-Err-clause-any_moment : goal.returns-in-Err-clause-any_moment
returns-in-Err-clause-any_moment g c = λ told start lost order st o known.
    started (g.D.Disk.past c.args.journal.now.disk) _
    (λ image left. record { stored = snapshots_in g.D.Disk.past c.args.journal.now; is = c.count-stored.ensures.durable told c.requires.well image left; either = inl refl; good = known.was.keeps.good })

pub returns-in-Err-clause-needed : goal.returns-in-Err-clause-needed
returns-in-Err-clause-needed g c = λ told start lost order st o known k due stored long is.
    needed_for_record g.M.SavingMachine.represents c.args.trace.now k due stored long st o c.in-Err.refused c.count-stored.result c.length-length.result (λ so. c.in-Err.ensures.not_now (ap Err so))
    (sym c.no_record.ensures ∙ (cc))

pub returns-in-Err-clause-form : goal.returns-in-Err-clause-form
returns-in-Err-clause-form g c = λ told start lost order st o known left is.
    never_unformed c.in-Err.refused c.count-stored.result c.length-length.result (sym c.no_record.ensures ∙ (cc))

pub returns-in-Err-clause-refused : goal.returns-in-Err-clause-refused
returns-in-Err-clause-refused g c =
    let j = c.args.journal.now in
    subst (AppendDueErrorCause g.M.SavingMachine.represents c.args.trace.now c.args.restarts.now j j (g.D.Disk.faults j.disk) (g.D.Disk.faults j.disk))
    (ap₂ (no_record c.in-Err.refused) (sym c.count-stored.ensures.count) (sym c.length-length.ensures.length) ∙ sym c.no_record.ensures)
    (why_no_record g.M.SavingMachine.represents c.args.trace.now c.args.restarts.now j j (g.D.Disk.faults j.disk) (g.D.Disk.faults j.disk) c.in-Err.refused (λ so. c.in-Err.ensures.not_now (ap Err so)) refl)

-- ---- it was not stored

pub returns-in_err-line-clause-any_moment : goal.returns-in_err-line-clause-any_moment
returns-in_err-line-clause-any_moment g c = λ told start lost order st o known.
    let j = c.args.journal.now in
    leaves_more (g.D.Disk.past j.disk) (g.D.Disk.past c.store_record.new.journal.disk) _ _
    (image_good g.M.SavingMachine.represents c.args.trace.now c.in-Ok.ensures.due j.header start (snapshots_in g.D.Disk.past j) lost order c.args.restarts.now st o known c.in-Ok.made j.count c.in-Ok.ensures.made c.store_record.ensures.fits)
    (c.store_record.ensures.any_moment told)

pub returns-in_err-line-clause-needed : goal.returns-in_err-line-clause-needed
returns-in_err-line-clause-needed g c = λ told start lost order st o known k due stored long is.
    let j = c.args.journal.now in
    let p = err_from_is_err_and c.from_residual.result c.from_residual.ensures.1 in
    absurd (not_for_want g.M.SavingMachine.represents c.args.trace.now c.in-Ok.ensures.due j.header start (snapshots_in g.D.Disk.past j) lost order c.args.restarts.now st o known c.in-Ok.made c.in-Ok.ensures.made c.store_record.ensures.fits
    j c.store_record.new.journal (g.D.Disk.faults j.disk) (g.D.Disk.faults c.store_record.new.journal.disk) refl
    (sym c.count-stored.ensures.count ∙ c.count-stored.ensures.stored told c.requires.well) (sym c.length-length.ensures.length ∙ c.length-length.ensures.stored told c.requires.well)
    c.in_err-line.field-0.0 stored long c.in_err-line.ensures.refused (fault_in c.from_residual.result p.0 c.in_err-line.field-0.0 (Full stored long) p.1 p.2 is))

pub returns-in_err-line-clause-form : goal.returns-in_err-line-clause-form
returns-in_err-line-clause-form g c = λ told start lost order st o known left is.
    let j = c.args.journal.now in
    let p = err_from_is_err_and c.from_residual.result c.from_residual.ensures.1 in
    absurd (not_unformed g.M.SavingMachine.represents c.args.trace.now c.in-Ok.ensures.due j.header start (snapshots_in g.D.Disk.past j) lost order c.args.restarts.now st o known c.in-Ok.made c.in-Ok.ensures.made c.store_record.ensures.fits
    j c.store_record.new.journal (g.D.Disk.faults j.disk) (g.D.Disk.faults c.store_record.new.journal.disk) refl
    (sym c.count-stored.ensures.count ∙ c.count-stored.ensures.stored told c.requires.well) (sym c.length-length.ensures.length ∙ c.length-length.ensures.stored told c.requires.well)
    (g.D.Disk.past j.disk).now.seen refl left
    c.in_err-line.field-0.0 c.in_err-line.ensures.refused (fault_in c.from_residual.result p.0 c.in_err-line.field-0.0 NotInForm p.1 p.2 is))

pub returns-in_err-line-clause-refused : goal.returns-in_err-line-clause-refused
returns-in_err-line-clause-refused g c =
    let j = c.args.journal.now in
    let p = err_from_is_err_and c.from_residual.result c.from_residual.ensures.1 in
    rw (p.1, p.2)
    (why_not_stored g.M.SavingMachine.represents c.args.trace.now c.args.restarts.now j c.store_record.new.journal (g.D.Disk.faults j.disk) (g.D.Disk.faults c.store_record.new.journal.disk) c.in-Ok.made c.in-Ok.ensures.made
    c.in_err-line.field-0.0 c.in_err-line.ensures.refused)

-- ---- it was added

pub returns-clause-acknowledged : goal.returns-clause-acknowledged
returns-clause-acknowledged g c = happened g.M.SavingMachine.represents c.args.trace.now c.due_record.new.trace c.acknowledge.new.self c.due_record.ensures.same.failures c.due_record.ensures.stays (Lead Record) c.acknowledge.ensures.made

pub returns-clause-since : goal.returns-clause-since
returns-clause-since g c = same_anew c.args.trace.now c.due_record.new.trace c.acknowledge.new.self c.due_record.ensures.same c.acknowledge.ensures.same

pub returns-clause-more : goal.returns-clause-more
returns-clause-more g c = λ told. (body_bytes c.in-Ok.made, c.in_ok-line.ensures.stored.more told)

pub returns-clause-known : goal.returns-clause-known
returns-clause-known g c = λ told start lost order st o known.
    let j = c.args.journal.now in
    known_as g.M.SavingMachine.represents c.acknowledge.new.self start lost order st o j.header c.store_record.new.journal.header _ (snapshots_in g.D.Disk.past c.store_record.new.journal)
    c.args.restarts.now.front.items c.store_record.new.restarts.stored.items c.args.restarts.now.front.items c.store_record.new.restarts.front.items
    c.store_record.ensures.header (c.in_ok-line.ensures.stored.more told) c.in_ok-line.ensures.restarts.1 (ap (λ (v : _). v.items) c.in_ok-line.ensures.restarts.0)
    (known_now g.M.SavingMachine.represents c.args.trace.now c.in-Ok.ensures.due j.header start (snapshots_in g.D.Disk.past j) lost order c.args.restarts.now st o known c.in-Ok.made j.count c.in-Ok.ensures.made c.store_record.ensures.fits
    c.in_ok-line.ensures.stored.form c.acknowledge.new.self (c.acknowledge.ensures.same.failures ∙ c.due_record.ensures.same.failures)
    (happened g.M.SavingMachine.represents c.args.trace.now c.due_record.new.trace c.acknowledge.new.self c.due_record.ensures.same.failures c.due_record.ensures.stays (Lead Record) c.acknowledge.ensures.made)
    (sym c.count-stored.ensures.count ∙ c.count-stored.ensures.stored told c.requires.well))

pub returns-clause-line : goal.returns-clause-line
returns-clause-line g c = λ told start lost order st o known.
    let j = c.args.journal.now in
    let more = c.in_ok-line.ensures.stored.more told in
    rw more
    (line_added g.M.SavingMachine.represents c.args.trace.now c.in-Ok.ensures.due j.header start (snapshots_in g.D.Disk.past j) lost order c.args.restarts.now st o known c.in-Ok.made j.count c.in-Ok.ensures.made c.store_record.ensures.fits
    c.in_ok-line.ensures.stored.form c.in_ok-line.line (sym c.count-stored.ensures.count ∙ c.count-stored.ensures.stored told c.requires.well) c.in_ok-line.ensures.number
    (c.in_ok-line.ensures.entries told ∙ ap (λ (bs : List (List ℕ)). length (stored_order bs)) more) c.in_ok-line.ensures.fold)

pub returns-clause-any_moment : goal.returns-clause-any_moment
returns-clause-any_moment g c = λ told start lost order st o known.
    let j = c.args.journal.now in
    leaves_more (g.D.Disk.past j.disk) (g.D.Disk.past c.store_record.new.journal.disk) _ _
    (image_good g.M.SavingMachine.represents c.args.trace.now c.in-Ok.ensures.due j.header start (snapshots_in g.D.Disk.past j) lost order c.args.restarts.now st o known c.in-Ok.made j.count c.in-Ok.ensures.made c.store_record.ensures.fits)
    (c.store_record.ensures.any_moment told)
