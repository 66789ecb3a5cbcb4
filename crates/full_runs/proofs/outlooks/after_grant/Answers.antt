use Rattle.std.proofs.Common.{arith}
use Rattle.full_runs.proofs.DriveLemmas.{locks_low}
use Rattle.full_runs.proofs.outlooks.after_grant.Goals as goal

pub first-requires : goal.first-requires
first-requires c =
    let on = c.requires in
    let seat = c.in_ok-machine.ensures.some on.1.setting on.1.program on.1.world on.1.is in
    locks_low c.args.division.now c.args.cluster.now on c.args.a.0 c.args.x.0 c.in_ok-machine.machine.now seat (omega (arith, c.n.ensures.count, c.if-x-n.false))

pub get-requires : goal.get-requires
get-requires c =
    let on = c.requires in
    (c.in_ok-machine.ensures.some on.1.setting on.1.program on.1.world on.1.is).is.stands_once
