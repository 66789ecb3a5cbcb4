-- All have gone back, or the disk failed.
use Rattle.std.proofs.Common.{◌∙◌, ap, refl, sym}
use Rattle.engine_runs.proofs.Backs.{disk_failed, ended_here, gone_back, not_back, some_end}
use Rattle.engine_runs.proofs.Refusing.{never_back}
use Rattle.engine_runs.proofs.pauses.go_back_from.Goals as goal

pub returns-in-Ok-clause-keeps : goal.returns-in-Ok-clause-keeps
returns-in-Ok-clause-keeps g c = λ told start first st o runs at.
    gone_back g.P.Program.meaning g.D.Disk.past c.args.call.now _ c.args.journal.now c.go_back-back.new.journal start first st o c.go_back-back.ensures.call.1 (ap (λ j. j.header) c.go_back-back.ensures.kept) c.requires.can.well at refl
    (c.go_back-back.ensures.past told) c.requires.reached.0 c.requires.reached.1 (λ known some. c.in-Ok.ensures.back told c.requires.can.running start c.args.call.now.order.items st o runs known some)

pub returns-in-Err-clause-keeps : goal.returns-in-Err-clause-keeps
returns-in-Err-clause-keeps g c = λ told start first st o runs at.
    not_back g.P.Program.meaning g.D.Disk.past c.args.call.now _ c.args.journal.now c.go_back-back.new.journal start first st o c.go_back-back.ensures.call.1 (ap (λ j. j.header) c.go_back-back.ensures.kept) c.requires.can.well at refl
    (c.go_back-back.ensures.past told) c.in-Err.ensures.failed c.in-Err.ensures.unlost.1 (ap (λ v. v.items) c.in-Err.ensures.unlost.0) refl

pub returns-in-Err-clause-ends : goal.returns-in-Err-clause-ends
returns-in-Err-clause-ends g c = λ told.
    some_end c.end_without.result _ _ c.end_without.ensures.end (λ why start first st o runs at. ended_here g.P.Program.meaning g.D.Disk.past _ _ start first st o (returns-in-Err-clause-keeps g c told start first st o runs at))

pub returns-in-Err-clause-by : goal.returns-in-Err-clause-by
returns-in-Err-clause-by g c = some_end c.end_without.result _ _ c.end_without.ensures.end (λ why. disk_failed _ _ _ _ _ _ c.in-Err.why why c.in-Err.ensures.refused)

pub returns-in-Err-clause-good : goal.returns-in-Err-clause-good
returns-in-Err-clause-good g c = λ told st start first o at bounds bad is.
    let later = record c.args.call.now { trace = c.go_back-back.new.trace; restarts = c.go_back-back.new.restarts; lost = c.go_back-back.new.lost } in
    never_back g.P.Program.meaning g.D.Disk.past c.args.call.now later c.args.journal.now c.go_back-back.new.journal start first st o c.go_back-back.ensures.call.1 (ap (λ j. j.header) c.go_back-back.ensures.kept) c.requires.can.well at bounds
    c.in-Err.ensures.failed c.in-Err.ensures.unlost.1 (ap (λ v. v.items) c.in-Err.ensures.unlost.0) refl c.length-length.result c.length-length.ensures.length (c.length-length.ensures.stored told c.requires.can.well)
    _ _ _ _ _ c.in-Err.why c.length-length.result bad told c.in-Err.ensures.refused (sym c.end_without.ensures.is ∙ is)
