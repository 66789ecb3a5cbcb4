use Rattle.std.proofs.Common.{◌≡◌, ◌∙◌, ◌+◌, ◌<◌, Some, suc, true, eq-eqb, length, map, slice_get, sym, ap, ap₂, subst, arith}
use Rattle.std.proofs.lemmas.Grind.{get_or_default_zero}
use Rattle.gl_base.specs.declared.numbers.MachineNo.{MachineNo}
use Rattle.gl_base.specs.declared.numbers.Vertex.{Vertex}
use Rattle.full_laws.specs.FullEffects.{gathers, locks_full, passes_full}
use Rattle.full_laws.specs.FullParts.{FullPart}
use Rattle.full_laws.specs.Items.{AVertex, keeps}
use Rattle.full_cluster.specs.declared.machines.ScopeStand.{ScopeStand}
use Rattle.full_cluster.specs.FullMachines.{AsksNextFrom, HasRoomToGoOn, IsMachineOf, IsStandOf, stood_up}
use Rattle.full_cluster.specs.FullQueues.{seen_in}
use Rattle.full_cluster.proofs.GrantLemmas.{after_grant, any_err, locked, seen_more}
use Rattle.full_cluster.proofs.MachineLemmas.{not_err}
use Rattle.full_cluster.proofs.machines.FullMachine.grant_to.Goals as goal

pub returns-then-is_err-2-clause-unchanged : goal.returns-then-is_err-2-clause-unchanged
returns-then-is_err-2-clause-unchanged c = λ st part standing is at stands.
    let stand : ScopeStand = record c.args.stand { seen = c.reserve.new.self } in
    let again : IsStandOf st c.args.self.now.me.0 stand standing =
    record { centre = stands.centre; order = stands.order; lock = stands.lock; rest = stands.rest; seen = stands.seen ∙ ap seen_in (sym c.reserve.ensures.items) } in
    any_err c.stand_again-then-is_err-2.result
    (c.stand_again-then-is_err-2.ensures.again st part standing (c.reserve-2.ensures.same st (stood_up c.args.scope part) is) at
    (subst (λ (me : MachineNo). IsStandOf st me.0 stand standing) (sym c.reserve-2.ensures.still.me) again))

pub go_on-requires-clause-room : goal.go_on-requires-clause-room
go_on-requires-clause-room c =
    let stand : ScopeStand = record c.args.stand { place = c.args.stand.place + 1; seen = c.push_reserved.new.self } in
    let room : HasRoomToGoOn c.reserve-2.new.self c.args.scope stand = not_err c.reserve-2.result (sym c.is_err-2.ensures.value ∙ c.if-is_err-2.false) c.reserve-2.ensures.room stand c.after-next.ensures c.next_machine-machine.ensures in
    record {
      lock = λ y at.
          let one = room.lock y at in
          (subst (λ n. y.0 < n) (sym c.grant.ensures.count) one.0, c.grant.ensures.room y.0 one.0 one.1);
      stands = room.stands;
      leave = record { next = room.leave.next; home = room.leave.home; ready = room.leave.ready };
    }

pub returns-clause-granted : goal.returns-clause-granted
returns-clause-granted c = λ st part standing next low owned is stands lock.
    let s = c.args.scope in
    let x = c.args.x.0 in
    let room = c.reserve-2.new.self in
    let after : FullPart = locks_full x s next.behind part in
    let stand : ScopeStand = record c.args.stand { place = c.args.stand.place + 1; seen = c.push_reserved.new.self } in
    let whole : IsMachineOf st room (stood_up s part) = c.reserve-2.ensures.same st (stood_up s part) is in
    let held = locked st room part c.grant.new.self x s next.behind whole c.grant.ensures.count
    (after_grant c.grant.new.self.locks.items part.holds part.queue x s next c.grant.result (c.grant.ensures.granted part.holds part.queue whole.locks) (c.grant.ensures.not_now part.holds part.queue whole.locks)) in
    let one : suc c.args.stand.place ≡ c.args.stand.place + 1 = omega arith in
    let asks : AsksNextFrom st c.args.self.now.me.0 stand (suc x) =
    record { order = stands.order; next = stands.order.next c.args.stand.place x (stands.lock ∙ ap Some lock) ∙ ap (slice_get (map (λ (y : Vertex). y.0) c.args.stand.part.items)) one } in
    let count = whole.numbers.count in
    let inside : x < length room.kept.numbers.items = omega (arith, low, count) in
    let keep : keeps st room.me.0 (AVertex x) ≡ true = eq-eqb (st.owner x) room.me.0 (owned ∙ ap (λ (me : MachineNo). me.0) (sym c.reserve-2.ensures.still.me)) in
    let number : c.index-number.result.now ≡ part.number (AVertex x) =
    c.index-number.ensures ∙ get_or_default_zero room.kept.numbers.items x c.index-number.result.now inside ∙ whole.numbers.numbers_are (AVertex x) low keep in
    let seen : seen_in c.push_reserved.new.self.items ≡ gathers x (part.number (AVertex x)) standing.seen =
    ap seen_in c.push_reserved.ensures.items
    ∙ seen_more c.reserve.new.self.items c.args.x c.index-number.result.now
    ∙ ap₂ (λ n f. gathers x n f) number (ap seen_in c.reserve.ensures.items ∙ sym stands.seen) in
    subst (IsMachineOf st c.go_on.new.self)
    (λ k. passes_full st (c.reserve-2.ensures.still.me k).0 s (sym stands.centre k) (suc x) (sym stands.rest k) (seen k) after)
    (c.go_on.ensures.went st after (suc x) (subst (λ (me : MachineNo). AsksNextFrom st me.0 stand (suc x)) (sym c.reserve-2.ensures.still.me) asks) held)
