use Rattle.std.proofs.Common.{List, slice_get, ap, subst}
use Rattle.gl_base.specs.declared.numbers.MachineNo.{MachineNo}
use Rattle.machine_core.specs.machine_parts.Order.{nobody}
use Rattle.machine_core.specs.machine_scopes.Inner.Setting.{CanSetOut, StartsHere, StartsAway}
use Rattle.machine_core.proofs.machine_scopes.KeepLemmas.{orderly_out}
use Rattle.machine_core.proofs.machine_scopes.RoomForNext.{rest_machines}
use Rattle.machine_core.proofs.machine_scopes.StartLemmas.{set_out_away}
use Rattle.machine_core.proofs.machine_scopes.WantLemmas.{put_many}
use Rattle.machine_core.proofs.machine_scopes.starting.set_out.Goals as goal

pub come_here-requires-clause-machines : goal.come_here-requires-clause-machines
come_here-requires-clause-machines c =
    let m = c.args.core.now in
    let v = c.args.v in
    let can : StartsHere m c.args.scope v c.in-Here.part.items c.in-Here.rest.items c.in-Here.next = subst (CanSetOut m c.args.scope v) c.in-Here.is c.requires.can in
    rest_machines m c.args.scope v.0 m.numbers.local.me c.in-Here.rest.items c.requires.orderly.graph c.requires.own c.requires.home can.machines

pub come_here-requires-clause-few : goal.come_here-requires-clause-few
come_here-requires-clause-few c =
    let m = c.args.core.now in
    let v = c.args.v in
    let can : StartsHere m c.args.scope v c.in-Here.part.items c.in-Here.rest.items c.in-Here.next = subst (CanSetOut m c.args.scope v) c.in-Here.is c.requires.can in
    can.few

pub returns-in-Away-clause-orderly : goal.returns-in-Away-clause-orderly
returns-in-Away-clause-orderly c =
    let m = c.args.core.now in
    orderly_out nobody m c.put.new.self m.spare (put_many m.out c.put.new.self c.in-Away.first _ c.put.ensures) c.requires.orderly

pub returns-in-Away-clause-set_out : goal.returns-in-Away-clause-set_out
returns-in-Away-clause-set_out c =
    let m = c.args.core.now in
    let v = c.args.v in
    let first = c.in-Away.first in
    let can : StartsAway m v first c.in-Away.rest.items = subst (CanSetOut m c.args.scope v) c.in-Away.is c.requires.can in
    set_out_away m c.put.new.self c.args.scope v first c.in-Away.rest.items can.machines can.other
    (c.requires.orderly.graph.within v.0 0 first c.requires.own (ap (λ (ps : List MachineNo). slice_get ps 0) can.machines)) c.put.ensures
