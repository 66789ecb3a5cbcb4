use Rattle.machine_core.proofs.machine_scopes.ComeLemmas.{orderly_readied, ready_gone}
use Rattle.machine_core.proofs.machine_scopes.readying.receive_ready.Goals as goal

pub returns-clause-orderly : goal.returns-clause-orderly
returns-clause-orderly c =
    let m = c.args.core.now in
    let can = c.requires.can in
    orderly_readied m c.ready.new.self c.args.scope can.centre c.requires.orderly (ready_gone m c.args.scope c.requires.orderly can) can.flight (λ takes. can.holds) c.ready.ensures.ready c.ready.ensures.rest
