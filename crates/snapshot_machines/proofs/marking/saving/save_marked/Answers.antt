-- One edge more is saved, or its end has the mark.
use Rattle.snapshot_machines.proofs.marking.SaveLemmas.{room_step, saved_step}
use Rattle.snapshot_machines.proofs.marking.saving.save_marked.Goals as goal

pub loop-place-preserved : goal.loop-place-preserved
loop-place-preserved c =
    let at = c.loop-place in
    let n = c.args.numbers.now in
    let k = c.known-known.result in
    let sides = c.sides-sides.result.now in
    record {
      saved = saved_step n k sides at.place _ at.snaps c.save_edge.new.snaps _ c.loop-place-test.true c.save_edge.ensures at.invariant.saved;
      room = room_step n k sides at.place _ at.snaps c.save_edge.new.snaps c.save_edge.ensures at.invariant.room;
    }
