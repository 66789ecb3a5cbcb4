use Rattle.std.proofs.Common.{◌≡◌, ◌+◌, length, drop, ◌∙◌, arith, length-drop}
use Rattle.store.proofs.snap_journal.HeadLemmas.{head_is}
use Rattle.store.proofs.snap_journal.records_read.next_length.Goals as goal

pub returns-in-Ok-clause-next : goal.returns-in-Ok-clause-next
returns-in-Ok-clause-next g c = λ told.
    let at = c.args.place.at in
    let seen = (g.D.Disk.past c.args.disk.now).now.seen in
    let len : c.args.place.len ≡ length seen = c.requires.len told in
    let is = head_is seen c.in_ok-head.head.items at c.args.place.len c.min-there.result len c.requires.inside c.min-there.ensures (c.in_ok-head.ensures.bytes told) in
    let place : at + length (drop at seen) ≡ c.args.place.len = omega (arith, length-drop at seen, len, c.requires.inside) in
    c.in-Ok.ensures.next c.args.place.number (drop at seen) (c.deref.ensures.value ∙ is) place

pub returns-clause-fault : goal.returns-clause-fault
returns-clause-fault g c = λ told.
    let at = c.args.place.at in
    let seen = (g.D.Disk.past c.args.disk.now).now.seen in
    let len : c.args.place.len ≡ length seen = c.requires.len told in
    let is = head_is seen c.in_ok-head.head.items at c.args.place.len c.min-there.result len c.requires.inside c.min-there.ensures (c.in_ok-head.ensures.bytes told) in
    let place : at + length (drop at seen) ≡ c.args.place.len = omega (arith, length-drop at seen, len, c.requires.inside) in
    c.in-Err.ensures.fault c.args.place.number (drop at seen) (c.deref.ensures.value ∙ is) place
