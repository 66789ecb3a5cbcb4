-- It is in the form, and put in.
use Rattle.std.proofs.Common.{inl, refl}
use Rattle.std.proofs.lemmas.Result.{err_from_is_err_and}
use Rattle.gl_outside.proofs.Disks.{started}
use Rattle.engine_runs.proofs.append.Putting.{form_at, why_no_fold, why_not_put}
use Rattle.engine_runs.proofs.append.storing.store_record.Goals as goal

pub returns-in_err-fold-clause-any_moment : goal.returns-in_err-fold-clause-any_moment
returns-in_err-fold-clause-any_moment g c = λ told. started (g.D.Disk.past c.args.journal.now.disk) _ (λ image left. inl (c.count.ensures.durable told c.requires image left))

pub returns-in_err-fold-clause-refused : goal.returns-in_err-fold-clause-refused
returns-in_err-fold-clause-refused g c =
    let j = c.args.journal.now in
    let p = err_from_is_err_and c.from_residual.result c.from_residual.ensures.1 in
    rw (p.1, p.2) (why_no_fold j j (g.D.Disk.faults j.disk) (g.D.Disk.faults j.disk) c.args.made.now c.header-header.result c.count.result c.header-header.ensures c.count.ensures.count refl c.in_err-fold.field-0.0 c.in_err-fold.ensures.refused)

pub returns-in_err-known-clause-any_moment : goal.returns-in_err-known-clause-any_moment
returns-in_err-known-clause-any_moment g c = λ told. started (g.D.Disk.past c.args.journal.now.disk) _ (λ image left. inl (c.count.ensures.durable told c.requires image left))

pub put-requires-clause-form : goal.put-requires-clause-form
put-requires-clause-form g c =
    form_at c.header-header.result c.args.journal.now.header c.count.result c.args.journal.now.count c.args.made.now c.header-header.ensures c.count.ensures.count c.in_ok-fold.ensures.form

pub returns-in_err-put-clause-refused : goal.returns-in_err-put-clause-refused
returns-in_err-put-clause-refused g c =
    let j = c.args.journal.now in
    let p = err_from_is_err_and c.from_residual-in_err-put.result c.from_residual-in_err-put.ensures.1 in
    rw (p.1, p.2) (why_not_put j c.put.new.journal (g.D.Disk.faults j.disk) (g.D.Disk.faults c.put.new.journal.disk) c.args.made.now
    (form_at c.header-header.result j.header c.count.result j.count c.args.made.now c.header-header.ensures c.count.ensures.count c.in_ok-fold.ensures.form)
    c.in_err-put.field-0.0 c.in_err-put.ensures.refused)
