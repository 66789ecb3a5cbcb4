-- One machine more was told.
use Rattle.std.proofs.Common.{◌≡◌, ◌∷◌, length, ap, arith}
use Rattle.std.specs.Vec.Iter.{into_iter_items}
use Rattle.snapshot_machines.specs.marking.Inner.Marks.{done_view, mark_told, sides_at}
use Rattle.snapshot_machines.proofs.marking.SaveLemmas.{telling_on}
use Rattle.snapshot_machines.proofs.marking.saving.tell_marks.Goals as goal

pub loop-one-preserved : goal.loop-one-preserved
loop-one-preserved c =
    let at = c.loop-one in
    let n = c.args.numbers.now in
    let f = c.args.flight in
    let steps : into_iter_items at.one-iterator ≡ c.in-Some.one ∷ into_iter_items c.next.new.self = c.in-Some.ensures.steps.0 in
    record {
      telling =
          telling_on c.args.out.now at.out c.put.new.self (mark_told n c.args.known f.scope f.centre) f.scope f.centre (length (sides_at n.local f.centre.0)) (into_iter_items c.into_iter-one-iterator.result) (into_iter_items at.one-iterator)
          c.in-Some.one (into_iter_items c.next.new.self) (done_view c.mark_done-done.result) at.invariant.telling steps c.mark_done-done.ensures c.put.ensures;
      many =
          let was = at.invariant.many in
          let gone = c.in-Some.ensures.steps.1 in
          let short = ap length steps in
          omega arith;
    }
