use Rattle.machine_core.proofs.machine_scopes.ComeLemmas.{orderly_come, ask_received}
use Rattle.machine_core.proofs.machine_scopes.asking.come_here.Goals as goal

pub go_on-requires-clause-orderly : goal.go_on-requires-clause-orderly
go_on-requires-clause-orderly c =
    orderly_come c.args.core.now c.args.scope c.args.centre c.args.part.items c.args.rest.items c.enter.new.self c.requires.is_new c.enter.ensures.entered c.enter.ensures.rest c.requires.orderly c.requires.waits c.requires.machines c.requires.part

pub returns-clause-received : goal.returns-clause-received
returns-clause-received c =
    ask_received c.args.core.now c.args.scope c.args.centre c.args.part.items c.args.rest.items c.enter.new.self c.requires.is_new c.enter.ensures.entered c.enter.ensures.rest c.go_on.new.core c.requires.part c.go_on.ensures.went
