use Rattle.std.proofs.Common.{◌∙◌, List, length, length-append, sym, ap, subst, arith}
use Rattle.full_cluster.specs.declared.machines.FullMachine.{FullMachine}
use Rattle.full_cluster.specs.FullStarts.{AreSeatsAtStart}
use Rattle.full_cluster.proofs.StartLemmas.{seats_more}
use Rattle.full_cluster.proofs.beginning.first_machines.Goals as goal

pub loop-a-preserved : goal.loop-a-preserved
loop-a-preserved c =
    let long = simp length-append at (ap length c.push_reserved.ensures.items) in
    let kept = c.loop-a.invariant.count in
    record {
      count = omega (arith, long, kept);
      room = c.push_reserved.ensures.capacity ∙ c.loop-a.invariant.room;
      seats = λ st s divided many numbers none.
          subst (λ (all : List FullMachine). AreSeatsAtStart st s all) (sym c.push_reserved.ensures.items)
          (seats_more st s c.loop-a.all.items c.loop-a.a c.in_ok-machine.machine kept (c.loop-a.invariant.seats st s divided many numbers none) (c.in_ok-machine.ensures st s divided many numbers none));
    }
