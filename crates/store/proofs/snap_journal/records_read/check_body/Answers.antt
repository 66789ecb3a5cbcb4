use Rattle.std.proofs.Common.{rules, ◌≡◌, ◌≢◌, Some}
use Rattle.store.specs.store_format.Bodies.{body_size, entry_count, body_fault}
use Rattle.store.proofs.snap_journal.HeadLemmas.{body_own, body_bad}
use Rattle.store.proofs.snap_journal.records_read.check_body.Goals as goal

pub returns-then-size-body_size-clause-fault : goal.returns-then-size-body_size-clause-fault
returns-then-size-body_size-clause-fault c =
    let body = c.args.body.now in
    let other : c.args.size ≢ body_size c.args.header.now (entry_count body) = search rules in
    λ seen has is. absurd (other (body_own c.args.header.now c.args.number c.args.at seen body c.args.size has is))

pub returns-in-Some-clause-fault : goal.returns-in-Some-clause-fault
returns-in-Some-clause-fault c =
    let body = c.args.body.now in
    let bad : body_fault c.args.header.now c.args.number body ≡ Some c.in-Some.place = search rules in
    λ seen has is. body_bad c.args.header.now c.args.number c.args.at seen body c.args.size has is c.in-Some.place bad
