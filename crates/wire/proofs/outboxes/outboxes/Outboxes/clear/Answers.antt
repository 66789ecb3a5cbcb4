-- One outbox more is emptied.
use Rattle.std.proofs.Common.{◌<◌, ◌∙◌, ap, sym, length, set, arith}
use Rattle.std.proofs.lemmas.List.Edits.{map_over_more}
use Rattle.wire.specs.outboxes.Outboxes.{emptied}
use Rattle.wire.proofs.outboxes.outboxes.Outboxes.clear.Goals as goal

pub loop-one-preserved : goal.loop-one-preserved
loop-one-preserved c =
    let inside : c.loop-one.one-index < length c.deref_mut-one-items.result.now = omega arith in
    ap (set c.loop-one.one-items c.loop-one.one-index) (c.clear.ensures ∙ ap emptied (sym c.one-item.is))
    ∙ map_over_more emptied c.deref_mut-one-items.result.now c.loop-one.one-items c.loop-one.one-index c.one-item.result inside c.loop-one.invariant c.one-item.is
