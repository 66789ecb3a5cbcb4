-- The snapshot was added, or why it wasn't.
use Rattle.std.proofs.Common.{◌++◌, ◌∙◌, [], ◌∷◌, ap, append-nil, refl, sym}
use Rattle.std.specs.Prelude.{Err}
use Rattle.engine_runs.proofs.Saves.{added_one, ends_so, knows, not_added, same_answer}
use Rattle.engine_runs.proofs.Refusing.{only_unformed}
use Rattle.engine_runs.proofs.pauses.save_due.Goals as goal

pub returns-in-Ok-clause-keeps : goal.returns-in-Ok-clause-keeps
returns-in-Ok-clause-keeps g c = λ told start first st o at.
    let call = c.args.call.now in
    let known = knows g.P.Program.meaning g.D.Disk.past call call c.args.journal.now c.args.journal.now refl refl c.requires.well start first st o at in
    added_one g.P.Program.meaning g.D.Disk.past call _ c.args.journal.now c.append_due-added.new.journal c.in-Ok.ensures.since.failures c.append_due-added.ensures.header c.requires.well start first st o at c.in-Ok.line
    (c.push_reserved.ensures.items ∙ ap (λ ls. ls ++ c.in-Ok.line ∷ []) c.reserve.ensures.items) (c.in-Ok.ensures.more told) (c.in-Ok.ensures.known told start call.lost.items call.order.items st o known) (c.length-length.ensures.knows told c.in-Ok.ensures.well).durable
    (c.in-Ok.ensures.line told start call.lost.items call.order.items st o known) (c.append_due-added.ensures.any_moment told start call.lost.items call.order.items st o known)

pub returns-in-Ok-clause-restarts : goal.returns-in-Ok-clause-restarts
returns-in-Ok-clause-restarts g c = ([], ap (λ v. v.items) c.in-Ok.ensures.restarts.0 ∙ sym c.in-Ok.ensures.restarts.1 ∙ sym (append-nil _))

pub returns-in-Err-clause-keeps : goal.returns-in-Err-clause-keeps
returns-in-Err-clause-keeps g c = λ told start first st o at.
    not_added g.P.Program.meaning g.D.Disk.past c.args.call.now _ c.args.journal.now c.append_due-added.new.journal c.in-Err.ensures.same.failures c.append_due-added.ensures.header c.requires.well c.in-Err.ensures.stays c.in-Err.ensures.kept refl refl
    c.reserve.ensures.items _ _ start first st o at c.in-Err.why c.in-Err.ensures.refused (c.append_due-added.ensures.any_moment told)

pub returns-in-Err-clause-ends : goal.returns-in-Err-clause-ends
returns-in-Err-clause-ends g c = λ told.
    same_answer _ c.end_of.ensures
    (ends_so g.P.Program.meaning g.D.Disk.past c.args.call.now _ c.args.journal.now c.append_due-added.new.journal c.in-Err.ensures.same.failures c.append_due-added.ensures.header c.requires.well c.in-Err.ensures.stays c.in-Err.ensures.kept refl refl
    c.reserve.ensures.items _ _ c.in-Err.why c.length-length.result c.in-Err.ensures.refused (c.append_due-added.ensures.any_moment told) (λ ok. (c.length-length.ensures.knows told ok).snapshots)
    (λ ok. (c.length-length.ensures.knows told ok).bytes) c.requires.due.1.0
    (λ start lost order st o known stored long is. c.append_due-added.ensures.needed told start lost order st o known c.requires.due.0 c.requires.due.1.1 stored long (c.in-Err.is ∙ ap Err is)))

pub returns-in-Err-clause-good : goal.returns-in-Err-clause-good
returns-in-Err-clause-good g c = λ told st start first o at bounds bad is.
    let call = c.args.call.now in
    let known = knows g.P.Program.meaning g.D.Disk.past call call c.args.journal.now c.args.journal.now refl refl c.requires.well start first st o at in
    only_unformed c.in-Err.why c.length-length.result bad (λ unformed. c.append_due-added.ensures.form told start call.lost.items call.order.items st o known bounds.tickets (c.in-Err.is ∙ ap Err unformed)) (sym c.end_of.ensures ∙ is)
