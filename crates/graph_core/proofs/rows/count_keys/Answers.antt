use Rattle.std.proofs.Common.{arith}
use Rattle.graph_core.proofs.RowLemmas.{counts_more, key_below, length-with_key-take}
use Rattle.graph_core.proofs.rows.count_keys.Goals as goal

pub bounds-starts-key-in-loop-place : goal.bounds-starts-key-in-loop-place
bounds-starts-key-in-loop-place g c =
    let h = key_below _ _ c.loop-place.place c.at-key.result c.requires.keys c.at-key.ensures in
    omega (arith, h)

pub overflow_add-starts : goal.overflow_add-starts
overflow_add-starts g c =
    let ps = g.K.Keyed.list c.args.keyed.now in
    let h = key_below _ _ c.loop-place.place c.at-key.result c.requires.keys c.at-key.ensures in
    omega (arith, c.loop-place.invariant c.at-key.result.0 (omega (arith, h)), length-with_key-take c.at-key.result.0 ps c.loop-place.place)

pub loop-place-preserved : goal.loop-place-preserved
loop-place-preserved g c =
    let ps = g.K.Keyed.list c.args.keyed.now in
    let h = key_below _ _ c.loop-place.place c.at-key.result c.requires.keys c.at-key.ensures in
    counts_more ps c.loop-place.place c.at-key.result c.loop-place.starts c.at-key.ensures c.loop-place.invariant (omega (arith, h))
