use Rattle.std.proofs.Common.{◌∙◌, List, drop, ap}
use Rattle.gl_base.specs.declared.numbers.MachineNo.{MachineNo}
use Rattle.scope_locks.specs.scope_pipe.Pipes.{entered_at}
use Rattle.machine_core.specs.machine_parts.Order.{nobody}
use Rattle.machine_core.proofs.machine_scopes.HeldLemmas.{some_of}
use Rattle.machine_core.proofs.machine_scopes.KeepLemmas.{orderly_out}
use Rattle.machine_core.proofs.machine_scopes.MoveLemmas.{orderly_left}
use Rattle.machine_core.proofs.machine_scopes.WantLemmas.{machine_next, away_low, away_some, away_went, put_many}
use Rattle.machine_core.proofs.machine_scopes.going.go_away.Goals as goal

pub remove-requires : goal.remove-requires
remove-requires c =
    let m = c.args.core.now in
    let e = some_of (entered_at m.pipe c.args.scope) c.requires.come in
    let rest = c.leave-part.result.rest in
    away_some e.0 c.args.to rest.items rest.len (machine_next e.0 c.args.to (c.requires.wants e.0 e.1)) (c.leave-part.ensures.machines e.0 e.1) rest.ok.0

pub returns-clause-orderly : goal.returns-clause-orderly
returns-clause-orderly c =
    let m = c.args.core.now in
    orderly_out nobody (record m { pipe = c.leave-part.new.self }) c.put.new.self c.keep.new.self (put_many m.out c.put.new.self _ _ c.put.ensures)
    (orderly_left m c.args.scope c.leave-part.new.self c.requires.orderly c.leave-part.ensures.gone c.leave-part.ensures.rest)

pub returns-clause-went : goal.returns-clause-went
returns-clause-went c =
    let m = c.args.core.now in
    let e = some_of (entered_at m.pipe c.args.scope) c.requires.come in
    let left = c.leave-part in
    away_went m left.new.self c.put.new.self c.keep.new.self c.args.scope c.args.to left.result.centre c.remove.new.self.items c.requires.wants left.ensures.gone left.ensures.rest left.ensures.centre
    (λ f at. c.remove.ensures.items ∙ ap (λ (r : List MachineNo). drop 1 r) (left.ensures.machines f at))
    (away_low m c.args.scope e.0 c.args.to c.requires.orderly e.1 (machine_next e.0 c.args.to (c.requires.wants e.0 e.1))) c.put.ensures
