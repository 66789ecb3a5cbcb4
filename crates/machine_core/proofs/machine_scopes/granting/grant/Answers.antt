use Rattle.std.proofs.Common.{◌≡◌}
use Rattle.machine_core.proofs.machine_parts.RoomLemmas.{part_room}
use Rattle.machine_core.specs.machine_scopes.Granting.{HasOnlyMadeRoom, part_of}
use Rattle.machine_core.proofs.machine_scopes.GrantLemmas.{may_not_grant, on_err}
use Rattle.machine_core.proofs.machine_scopes.granting.grant.Goals as goal

pub returns-in-Granted-clause-unchanged : goal.returns-in-Granted-clause-unchanged
returns-in-Granted-clause-unchanged c =
    let m = c.args.core.now in
    let now = c.grant_first.new.core in
    on_err c.grant_first.result (HasOnlyMadeRoom m now) (HasOnlyMadeRoom m now × (part_of now ≡ part_of m)) (λ room. (room, part_room m now room)) c.grant_first.ensures.unchanged

pub returns-in-Waiting-clause-not_now : goal.returns-in-Waiting-clause-not_now
returns-in-Waiting-clause-not_now c = λ refused. may_not_grant c.args.core.now c.args.x.0 c.in-Waiting.ensures.turn
