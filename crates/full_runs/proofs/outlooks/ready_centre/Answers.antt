use Rattle.full_runs.proofs.outlooks.ready_centre.Goals as goal

pub get-requires : goal.get-requires
get-requires c =
    let on = c.requires in
    (c.in_ok-machine.ensures.some on.1.setting on.1.program on.1.world on.1.is).is.ready_once

pub get-requires-2 : goal.get-requires-2
get-requires-2 c =
    let on = c.requires in
    (c.in_ok-machine.ensures.some on.1.setting on.1.program on.1.world on.1.is).is.flights_once
