use Rattle.std.proofs.Common.{◌≡◌, ◌+◌, take, drop, ap, ◌∙◌, subst}
use Rattle.std.proofs.lemmas.Result.{err_from_is_err_and}
use Rattle.gl_outside.specs.Disk.{DiskPast}
use Rattle.store.specs.snap_journal.Inner.Reads.{HasLength, IsNextLength}
use Rattle.store.proofs.snap_journal.HeadLemmas.{body_next, why_not_body}
use Rattle.store.proofs.snap_journal.records_read.next_body.Goals as goal

pub returns-in_err-check_body-clause-fault : goal.returns-in_err-check_body-clause-fault
returns-in_err-check_body-clause-fault g c =
    let seen = (g.D.Disk.past c.args.disk.now).now.seen in
    let body = c.in_ok-read.read.items in
    let exit = err_from_is_err_and c.from_residual-in_err-check_body.result c.from_residual-in_err-check_body.ensures.1 in
    rw (exit.1, exit.2) (why_not_body c.args.header.now c.args.place.number c.args.place.at c.in-Some.size _ _ seen body _
    (λ told. subst (IsNextLength c.args.header.now c.args.place.number c.args.place.at (drop c.args.place.at seen)) c.in-Some.is (c.in_ok-size.ensures.next told))
    (λ told. c.in_ok-read.ensures.bytes told ∙ ap (λ (p : DiskPast). take c.in-Some.size (drop (c.args.place.at + 9) p.now.seen)) (c.in_ok-size.ensures.past told))
    (rw c.deref.ensures.value at c.in_err-check_body.ensures.fault))

pub returns-clause-next : goal.returns-clause-next
returns-clause-next g c = λ told.
    let seen = (g.D.Disk.past c.args.disk.now).now.seen in
    let body = c.in_ok-read.read.items in
    let is : body ≡ take c.in-Some.size (drop (c.args.place.at + 9) seen) = c.in_ok-read.ensures.bytes told ∙ ap (λ (p : DiskPast). take c.in-Some.size (drop (c.args.place.at + 9) p.now.seen)) (c.in_ok-size.ensures.past told) in
    let has : HasLength c.args.header.now (drop c.args.place.at seen) c.in-Some.size = subst (IsNextLength c.args.header.now c.args.place.number c.args.place.at (drop c.args.place.at seen)) c.in-Some.is (c.in_ok-size.ensures.next told) in
    body_next c.args.header.now c.args.place.number c.args.place.at seen body c.in-Some.size has is (rw c.deref.ensures.value at c.in_ok-check_body.ensures.none)
