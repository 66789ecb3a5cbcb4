use Rattle.std.proofs.Common.{◌∙◌, is_some, ap, sym, refl}
use Rattle.gl_base.specs.declared.numbers.MachineNo.{MachineNo}
use Rattle.scope_locks.specs.scope_pipe.Pipes.{entered_at}
use Rattle.machine_core.specs.machine_parts.Order.{nobody}
use Rattle.machine_core.proofs.machine_scopes.ComeLemmas.{orderly_readied}
use Rattle.machine_core.proofs.machine_scopes.HeldLemmas.{some_of}
use Rattle.machine_core.proofs.machine_scopes.KeepLemmas.{orderly_out}
use Rattle.machine_core.proofs.machine_scopes.MoveLemmas.{orderly_left, entered_here, flight_same, ready_same}
use Rattle.machine_core.proofs.machine_scopes.WantLemmas.{home_next, home_flies, home_holds, stays_went, returns_went, put_many}
use Rattle.machine_core.proofs.machine_scopes.going.go_home.Goals as goal

pub ready-requires-clause-flies : goal.ready-requires-clause-flies
ready-requires-clause-flies c =
    let m = c.args.core.now in
    let e = some_of (entered_at m.pipe c.args.scope) c.requires.come in
    let here = c.if-scope-me.true ∙ ap (λ (a : MachineNo). a.0) c.me-me.ensures in
    ap is_some (flight_same m.pipe c.leave-part.new.self c.leave-part.ensures.rest c.args.scope ∙ (home_flies m c.args.scope e.0 c.requires.orderly e.1 here).0)

pub ready-requires-clause-waits : goal.ready-requires-clause-waits
ready-requires-clause-waits c =
    let m = c.args.core.now in
    let e = some_of (entered_at m.pipe c.args.scope) c.requires.come in
    let here = c.if-scope-me.true ∙ ap (λ (a : MachineNo). a.0) c.me-me.ensures in
    ready_same m.pipe c.leave-part.new.self c.leave-part.ensures.rest c.args.scope ∙ (home_flies m c.args.scope e.0 c.requires.orderly e.1 here).1

pub returns-then-scope-me-clause-orderly : goal.returns-then-scope-me-clause-orderly
returns-then-scope-me-clause-orderly c =
    let m = c.args.core.now in
    let s = c.args.scope in
    let e = some_of (entered_at m.pipe s) c.requires.come in
    let left = c.leave-part in
    let here = c.if-scope-me.true ∙ ap (λ (a : MachineNo). a.0) c.me-me.ensures in
    let next = home_next e.0 (c.requires.wants e.0 e.1) in
    orderly_readied (record m { pipe = left.new.self; spare = c.keep.new.self }) c.ready.new.self s e.0.centre
    (orderly_out nobody (record m { pipe = left.new.self }) m.out c.keep.new.self refl (orderly_left m s left.new.self c.requires.orderly left.ensures.gone left.ensures.rest))
    (entered_here m.pipe left.new.self s _ left.ensures.gone)
    (flight_same m.pipe left.new.self left.ensures.rest s ∙ (home_flies m s e.0 c.requires.orderly e.1 here).0)
    (λ takes. home_holds m s e.0 c.requires.orderly e.1 next) c.ready.ensures.ready c.ready.ensures.rest

pub returns-then-scope-me-clause-went : goal.returns-then-scope-me-clause-went
returns-then-scope-me-clause-went c =
    let m = c.args.core.now in
    let left = c.leave-part in
    stays_went m left.new.self c.ready.new.self c.keep.new.self c.args.scope c.requires.wants left.ensures.gone left.ensures.rest (c.if-scope-me.true ∙ ap (λ (a : MachineNo). a.0) c.me-me.ensures)
    c.ready.ensures.ready c.ready.ensures.rest

pub returns-else-scope-me-clause-orderly : goal.returns-else-scope-me-clause-orderly
returns-else-scope-me-clause-orderly c =
    let m = c.args.core.now in
    let left = c.leave-part in
    orderly_out nobody (record m { pipe = left.new.self }) c.put.new.self c.keep.new.self (put_many m.out c.put.new.self c.args.scope.home _ c.put.ensures)
    (orderly_left m c.args.scope left.new.self c.requires.orderly left.ensures.gone left.ensures.rest)

pub returns-else-scope-me-clause-went : goal.returns-else-scope-me-clause-went
returns-else-scope-me-clause-went c =
    let m = c.args.core.now in
    let s = c.args.scope in
    let e = some_of (entered_at m.pipe s) c.requires.come in
    let left = c.leave-part in
    returns_went m left.new.self c.put.new.self c.keep.new.self s c.requires.wants left.ensures.gone left.ensures.rest
    (λ same. c.if-scope-me.false (same ∙ sym (ap (λ (a : MachineNo). a.0) c.me-me.ensures))) (c.requires.orderly.entered s e.0 e.1).home c.put.ensures
