use Rattle.std.proofs.Common.{refl, arith}
use Rattle.std.proofs.lemmas.List.{with_items_is}
use Rattle.graph_core.proofs.RowLemmas.{starts_of_rows, length_of_rows, row_is}
use Rattle.graph_core.proofs.rows.Rows.group.Goals as goal

pub invariant_of-result : goal.invariant_of-result
invariant_of-result g c =
    let same = with_items_is c.in_ok-starts.starts c.placed.new.starts (omega arith) in
    rw same
    (starts_of_rows c.args.count (g.K.Keyed.list c.args.keyed.now) c.placed.new.starts c.in_ok-items.items.items c.in_ok-items.ensures.rows (omega (arith, c.in_ok-starts.ensures.len)) c.in_ok-items.ensures.len c.requires.few_items c.requires.keys)

pub returns-clause-count : goal.returns-clause-count
returns-clause-count g c =
    let same = with_items_is c.in_ok-starts.starts c.placed.new.starts (omega arith) in
    let len = length_of_rows c.placed.new.starts c.in_ok-items.items.items _ refl in
    rw same (omega (arith, len, c.in_ok-starts.ensures.len))

pub returns-clause-each : goal.returns-clause-each
returns-clause-each g c = λ k l.
    let same = with_items_is c.in_ok-starts.starts c.placed.new.starts (omega arith) in
    rw same (row_is (g.K.Keyed.list c.args.keyed.now) c.placed.new.starts c.in_ok-items.items.items c.in_ok-items.ensures.rows k (omega (arith, l, c.in_ok-starts.ensures.len)))
