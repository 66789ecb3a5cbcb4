use Rattle.std.specs.List.Sorted.{IsPermutation}
use Rattle.graph_core.specs.Inner.SortedKeys.{Rises}
use Rattle.graph_core.proofs.SortLemmas.{rises_from_distinct}
use Rattle.graph_core.proofs.sorting.sorted.Goals as goal

pub unreachable-requires : goal.unreachable-requires
unreachable-requires g c =
    let key = g.T.HasKey.key in
    let items = c.args.items.items in
    let sorted = c.sort.new.items.items in
    let up = c.in_ok-sort.ensures.up in
    let same : IsPermutation items sorted = rw (c.in_ok-sorted.ensures.items, c.deref-2.ensures.value) at c.in_ok-sort.ensures.same in
    let apart = rw (c.in-None.is) at c.in_ok-place.ensures in
    let apart' = rw (c.deref-4.ensures.value) at apart in
    let rises : Rises key sorted = rises_from_distinct key items sorted same up apart' in
    c.if-rises-2.ensures (rw c.deref-3.ensures.value rises)
