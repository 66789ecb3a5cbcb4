use Rattle.full_cluster.specs.FullEvents.{action_of}
use Rattle.full_runs.proofs.TicketLemmas.{tickets_same}
use Rattle.full_runs.proofs.driving.make.Goals as goal

pub returns-clause-tickets : goal.returns-clause-tickets
returns-clause-tickets g c =
    let has = c.requires.cluster in
    let p = g.P.FullProgram.meaning c.args.program.now in
    tickets_same has.setting p has.world (action_of c.args.event) c.args.cluster.now c.apply.new.self c.apply.result has.is
    (c.apply.ensures.applied has.setting has.world has.fits has.is) (c.apply.ensures.unchanged has.setting p has.world has.fits has.is)
