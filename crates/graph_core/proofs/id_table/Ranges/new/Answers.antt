use Rattle.std.proofs.Common.{◌≡◌, length, refl, rules, arith}
use Rattle.graph_core.proofs.IdLemmas.{ranges_more, ranges_all}
use Rattle.graph_core.proofs.id_table.Ranges.new.Goals as goal

pub loop-k-preserved : goal.loop-k-preserved
loop-k-preserved c =
    let so = c.loop-k.invariant in
    let next = so.next c.loop-k.k (omega arith) (omega arith) in
    let len = c.in_ok-resize.ensures.len in
    ranges_more c.loop-k.k c.args.ids.now _ c.args.shift c.loop-k.starts.items _ so c.requires.ascending (omega arith) (omega (arith, len)) (λ j l. c.in_ok-resize.ensures.by_index.0 j 0 (omega arith) (omega arith)) (λ j l m. c.in_ok-resize.ensures.by_index.1 j 0 (search rules) (omega arith) (omega (arith, len)))

pub returns : goal.returns
returns c =
    let end : c.loop-k.k ≡ length c.args.ids.now = omega arith in
    let so = rw end at c.loop-k.invariant in
    rw (c.in_ok-push.ensures.items) (ranges_all c.args.ids.now _ c.args.shift c.loop-k.starts.items so c.requires.ascending c.requires.shift refl)
