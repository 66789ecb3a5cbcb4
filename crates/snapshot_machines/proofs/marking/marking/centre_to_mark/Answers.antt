-- The centre of a scope in flight is an own vertex.
use Rattle.snapshot_machines.proofs.marking.marking.centre_to_mark.Goals as goal

pub is_pending-requires : goal.is_pending-requires
is_pending-requires c = record { own = c.requires.flights.own c.args.scope c.centre-centre.result c.centre-centre.ensures; tasks = c.requires.numbers.tasks }
