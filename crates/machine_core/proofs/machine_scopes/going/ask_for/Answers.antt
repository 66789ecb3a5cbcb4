use Rattle.scope_locks.specs.scope_pipe.Pipes.{entered_at}
use Rattle.machine_core.proofs.machine_scopes.HeldLemmas.{some_of}
use Rattle.machine_core.proofs.machine_scopes.MoveLemmas.{wanted_free, wanted_not_waited, orderly_asked}
use Rattle.machine_core.proofs.machine_scopes.WantLemmas.{lock_next, lock_went}
use Rattle.machine_core.proofs.machine_scopes.going.ask_for.Goals as goal

pub request-requires-clause-holds_not : goal.request-requires-clause-holds_not
request-requires-clause-holds_not c =
    let m = c.args.core.now in
    let e = some_of (entered_at m.pipe c.args.scope) c.requires.come in
    wanted_free m c.args.scope e.0 c.args.y c.requires.orderly e.1 (lock_next e.0 c.args.y c.args.mode (c.requires.wants e.0 e.1)).at

pub request-requires-clause-waits_not : goal.request-requires-clause-waits_not
request-requires-clause-waits_not c =
    let m = c.args.core.now in
    let e = some_of (entered_at m.pipe c.args.scope) c.requires.come in
    wanted_not_waited m c.args.scope e.0 c.args.y c.requires.orderly e.1 (lock_next e.0 c.args.y c.args.mode (c.requires.wants e.0 e.1)).at

pub returns-clause-orderly : goal.returns-clause-orderly
returns-clause-orderly c =
    let m = c.args.core.now in
    let e = some_of (entered_at m.pipe c.args.scope) c.requires.come in
    orderly_asked m c.args.scope e.0 c.args.y c.requires.orderly e.1 (lock_next e.0 c.args.y c.args.mode (c.requires.wants e.0 e.1)).at c.advance.new.self c.request.new.self _
    (c.advance.ensures.moved e.0 e.1) c.advance.ensures.rest c.request.ensures

pub returns-clause-went : goal.returns-clause-went
returns-clause-went c =
    lock_went c.args.core.now c.advance.new.self c.request.new.self c.args.scope c.args.y c.args.mode c.requires.wants c.advance.ensures.moved c.advance.ensures.rest c.request.ensures
