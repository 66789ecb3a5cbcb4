-- It takes no lock, or the next one.
use Rattle.std.proofs.Common.{◌∙◌, sym, refl, subst}
use Rattle.scope_locks.specs.scope_pipe.Pipes.{entered_at}
use Rattle.machine_core.specs.declared.machine_parts.cores.Core.{Core}
use Rattle.machine_core.specs.machine_parts.Order.{IsOrderlyBut}
use Rattle.machine_core.proofs.machine_parts.RoomLemmas.{orderly_room}
use Rattle.machine_core.specs.machine_scopes.Inner.Going.{HasNextRoom, Wants}
use Rattle.machine_core.specs.machine_scopes.Inner.Taking.{HasTakenOn}
use Rattle.machine_core.proofs.machine_scopes.HeldLemmas.{some_of}
use Rattle.machine_core.proofs.machine_scopes.MoveLemmas.{is_this}
use Rattle.machine_core.proofs.machine_scopes.TakeLemmas.{come_then, locks_same, none_taken, nothing_taken, ok_then, orderly_then, room_then, taken_then, wants_then, within_ahead}
use Rattle.machine_core.proofs.machine_scopes.taking.take_next.Goals as goal

pub returns-in_default : goal.returns-in_default
returns-in_default c = record {
  orderly = c.requires.orderly;
  come = c.requires.come;
  wants = c.requires.wants;
  room = c.requires.room;
  settings = λ st part. part;
  taken = nothing_taken c.args.core.now c.args.scope;
  rest = refl;
}

pub reserve_next-requires : goal.reserve_next-requires
reserve_next-requires c =
    let e = some_of (entered_at c.args.core.now.pipe c.args.scope) c.requires.come in
    within_ahead c.args.core.now c.args.scope e.0 c.look_ahead-after.result c.requires.orderly e.1 (c.look_ahead-after.ensures e.0 e.1)

pub returns-then-is_err-clause-orderly : goal.returns-then-is_err-clause-orderly
returns-then-is_err-clause-orderly c = orderly_room (is_this c.args.scope) c.args.core.now c.reserve_next.new.core c.reserve_next.ensures.same c.requires.orderly

pub returns-then-is_err-clause-taken : goal.returns-then-is_err-clause-taken
returns-then-is_err-clause-taken c = none_taken c.args.core.now c.reserve_next.new.core c.args.scope c.reserve_next.ensures.same

pub returns-then-not-take-clause-orderly : goal.returns-then-not-take-clause-orderly
returns-then-not-take-clause-orderly c =
    let now = c.reserve_next.new.core in
    locks_same (IsOrderlyBut (is_this c.args.scope)) now c.take.new.self (c.take.ensures.same c.if-not-take.true)
    (orderly_room (is_this c.args.scope) c.args.core.now now c.reserve_next.ensures.same c.requires.orderly)

pub returns-then-not-take-clause-taken : goal.returns-then-not-take-clause-taken
returns-then-not-take-clause-taken c =
    let now = c.reserve_next.new.core in
    locks_same (λ (n : Core). HasTakenOn c.args.core.now n c.args.scope) now c.take.new.self (c.take.ensures.same c.if-not-take.true)
    (none_taken c.args.core.now now c.args.scope c.reserve_next.ensures.same)

pub returns-clause-orderly : goal.returns-clause-orderly
returns-clause-orderly c =
    let e = some_of (entered_at c.args.core.now.pipe c.args.scope) c.requires.come in
    orderly_then c.args.core.now c.reserve_next.new.core c.args.scope c.in-Lock.y c.in-Lock.mode c.requires.orderly c.reserve_next.ensures.same e.0 e.1
    (subst (Wants c.args.core.now c.args.scope) c.in-Lock.is c.requires.wants) c.advance.new.self c.take.new.self c.advance.ensures.moved c.advance.ensures.rest (c.take.ensures.taken c.if-not-take.false)

pub returns-clause-come : goal.returns-clause-come
returns-clause-come c =
    let e = some_of (entered_at c.args.core.now.pipe c.args.scope) c.requires.come in
    come_then c.args.core.now c.reserve_next.new.core c.args.scope c.in-Lock.y c.in-Lock.mode c.requires.orderly c.reserve_next.ensures.same e.0 e.1
    (subst (Wants c.args.core.now c.args.scope) c.in-Lock.is c.requires.wants) c.advance.new.self c.take.new.self c.advance.ensures.moved c.advance.ensures.rest (c.take.ensures.taken c.if-not-take.false)

pub returns-clause-wants : goal.returns-clause-wants
returns-clause-wants c =
    let e = some_of (entered_at c.args.core.now.pipe c.args.scope) c.requires.come in
    wants_then c.args.core.now c.reserve_next.new.core c.args.scope c.in-Lock.y c.in-Lock.mode c.requires.orderly c.reserve_next.ensures.same e.0 e.1
    (subst (Wants c.args.core.now c.args.scope) c.in-Lock.is c.requires.wants) c.advance.new.self c.take.new.self c.advance.ensures.moved c.advance.ensures.rest (c.take.ensures.taken c.if-not-take.false)
    c.look_ahead-after.result c.look_ahead-after.ensures

pub returns-clause-room : goal.returns-clause-room
returns-clause-room c =
    let e = some_of (entered_at c.args.core.now.pipe c.args.scope) c.requires.come in
    room_then c.args.core.now c.reserve_next.new.core c.args.scope c.in-Lock.y c.in-Lock.mode c.requires.orderly c.reserve_next.ensures.same e.0 e.1
    (subst (Wants c.args.core.now c.args.scope) c.in-Lock.is c.requires.wants) c.advance.new.self c.take.new.self c.advance.ensures.moved c.advance.ensures.rest (c.take.ensures.taken c.if-not-take.false)
    c.look_ahead-after.result (c.look_ahead-after.ensures e.0 e.1)
    (ok_then c.reserve_next.result (HasNextRoom c.reserve_next.new.core c.args.scope c.look_ahead-after.result) (sym c.is_err.ensures.value ∙ c.if-is_err.false) c.reserve_next.ensures.room)

pub returns-clause-taken : goal.returns-clause-taken
returns-clause-taken c =
    let e = some_of (entered_at c.args.core.now.pipe c.args.scope) c.requires.come in
    taken_then c.args.core.now c.reserve_next.new.core c.args.scope c.in-Lock.y c.in-Lock.mode c.requires.orderly c.reserve_next.ensures.same e.0 e.1
    (subst (Wants c.args.core.now c.args.scope) c.in-Lock.is c.requires.wants) c.advance.new.self c.take.new.self c.advance.ensures.moved c.advance.ensures.rest (c.take.ensures.taken c.if-not-take.false)
