use Rattle.std.proofs.Common.{◌≡◌, ◌∙◌, ◌<◌, ℕ, Option, Some, List, length, refl, sym, ap, subst, arith}
use Rattle.std.specs.Global.{Vec}
use Rattle.std.specs.List.{All}
use Rattle.std.specs.Option.{option_map}
use Rattle.gl_base.specs.declared.entries.Entry.{Entry}
use Rattle.gl_base.specs.declared.entries.Entry.TheVariants.{Go}
use Rattle.gl_base.specs.declared.numbers.MachineNo.{MachineNo}
use Rattle.gl_base.specs.declared.numbers.Vertex.{Vertex}
use Rattle.full_scope.specs.FullUpdates.{FullUpdate}
use Rattle.full_laws.specs.FullActions.{MayUpdateFull}
use Rattle.full_laws.specs.FullEffects.{gift_for, lent_full, updated_full}
use Rattle.full_laws.specs.FullParts.{FullPart}
use Rattle.full_cluster.specs.declared.machines.FullMachine.{FullMachine}
use Rattle.full_cluster.specs.FullMachines.{IsMachineOf}
use Rattle.full_cluster.specs.FullQueues.{seen_in}
use Rattle.full_cluster.specs.Given.{AreGatheredAt, HasNumbers, IsSeenList}
use Rattle.full_cluster.specs.Updating.{AreGiftsTo, IsFullyReadyAt}
use Rattle.full_cluster.proofs.EndLemmas.{again, may_be, seen_is_list, told_of}
use Rattle.full_cluster.proofs.GrantLemmas.{any_err}
use Rattle.full_cluster.proofs.machines.FullMachine.update.Goals as goal

pub make-requires-clause-seen : goal.make-requires-clause-seen
make-requires-clause-seen g c =
    let seen : Vec (Vertex × ℕ) = c.in-Some-get.seen.now in
    subst (λ (ps : List (Vertex × ℕ)). All (λ pair. pair.0.0 < length c.args.self.now.kept.numbers.items) ps) (sym c.deref.ensures.value)
    (subst (λ (n : ℕ). All (λ pair. pair.0.0 < n) seen.items) (sym c.requires.sized.numbers) (c.requires.updatable c.in-Some.v.now seen c.in-Some.ensures.some c.in-Some-get.ensures.some).1)

pub end_scope-requires-clause-seen : goal.end_scope-requires-clause-seen
end_scope-requires-clause-seen g c = λ seen at. (c.requires.updatable c.in-Some.v.now seen c.in-Some.ensures.some at).1

pub returns-in_err-made-clause-no_memory : goal.returns-in_err-made-clause-no_memory
returns-in_err-made-clause-no_memory g c = λ st part is refused.
    let some = c.if-tickets-eq0.false in
    may_be st c.args.self.now part c.args.scope c.in-Some.v.now c.in-Some-get.seen.now c.args.tickets.left is c.in-Some.ensures.some c.in-Some-get.ensures.some (omega (arith, some))

pub returns-in_err-gifts-clause-no_memory : goal.returns-in_err-gifts-clause-no_memory
returns-in_err-gifts-clause-no_memory g c = λ st part is refused.
    let some = c.if-tickets-eq0.false in
    may_be st c.args.self.now part c.args.scope c.in-Some.v.now c.in-Some-get.seen.now c.args.tickets.left is c.in-Some.ensures.some c.in-Some-get.ensures.some (omega (arith, some))

pub returns-in_err-reserve_gifts-clause-no_memory : goal.returns-in_err-reserve_gifts-clause-no_memory
returns-in_err-reserve_gifts-clause-no_memory g c = λ st part is refused.
    let some = c.if-tickets-eq0.false in
    may_be st c.args.self.now part c.args.scope c.in-Some.v.now c.in-Some-get.seen.now c.args.tickets.left is c.in-Some.ensures.some c.in-Some-get.ensures.some (omega (arith, some))

pub returns-in_err-reserve-clause-no_memory : goal.returns-in_err-reserve-clause-no_memory
returns-in_err-reserve-clause-no_memory g c = λ st part is refused.
    let some = c.if-tickets-eq0.false in
    may_be st c.args.self.now part c.args.scope c.in-Some.v.now c.in-Some-get.seen.now c.args.tickets.left is c.in-Some.ensures.some c.in-Some-get.ensures.some (omega (arith, some))

pub returns-in_err-gifts-clause-unchanged : goal.returns-in_err-gifts-clause-unchanged
returns-in_err-gifts-clause-unchanged g c = λ st part divided is.
    let m : FullMachine = c.args.self.now in
    any_err c.from_residual-in_err-gifts.result (again st m part c.make.new.self m.log m.out is (c.make.ensures.kept st part divided is.numbers) refl is.out)

pub returns-in_err-reserve_gifts-clause-unchanged : goal.returns-in_err-reserve_gifts-clause-unchanged
returns-in_err-reserve_gifts-clause-unchanged g c = λ st part divided is.
    let m : FullMachine = c.args.self.now in
    any_err c.from_residual-in_err-reserve_gifts.result
    (again st m part c.make.new.self m.log c.reserve_gifts.new.out is (c.make.ensures.kept st part divided is.numbers) refl (c.reserve_gifts.ensures.same st part.out is.out))

pub returns-in_err-reserve-clause-unchanged : goal.returns-in_err-reserve-clause-unchanged
returns-in_err-reserve-clause-unchanged g c = λ st part divided is.
    let m : FullMachine = c.args.self.now in
    any_err c.from_residual-in_err-reserve.result
    (again st m part c.make.new.self c.reserve.new.self c.reserve_gifts.new.out is (c.make.ensures.kept st part divided is.numbers) c.reserve.ensures.items (c.reserve_gifts.ensures.same st part.out is.out))

pub returns-clause-updated : goal.returns-clause-updated
returns-clause-updated g c = λ st part divided terms is if_ready.
    let m : FullMachine = c.args.self.now in
    let s = c.args.scope in
    let me = m.me.0 in
    let v : Vertex = c.in-Some.v.now in
    let seen : Vec (Vertex × ℕ) = c.in-Some-get.seen.now in
    let f : ℕ → Option ℕ = seen_in seen.items in
    let p : FullUpdate = g.P.FullProgram.meaning c.args.program.now in
    let some = c.if-tickets-eq0.false in
    let flight : part.flight s ≡ Some v.0 = is.flights s ∙ ap (option_map (λ (x : Vertex). x.0)) c.in-Some.ensures.some in
    let ready : part.ready s ≡ Some f = is.ready s ∙ ap (option_map (λ (x : Vec (Vertex × ℕ)). seen_in x.items)) c.in-Some-get.ensures.some in
    let may : MayUpdateFull s part c.args.tickets.left = record { vertex = v.0; seen = f; flight = flight; ready = ready; ticket = omega (arith, some) } in
    let at : IsFullyReadyAt st me s part v.0 f = if_ready v.0 f flight ready in
    let list : IsSeenList c.deref.result.now f = subst (λ (ps : List (Vertex × ℕ)). IsSeenList ps f) (sym c.deref.ensures.value) (seen_is_list seen.items) in
    let own : HasNumbers st (st.owner v.0) m.kept part = subst (λ (a : ℕ). HasNumbers st a m.kept part) (sym at.owned) is.numbers in
    let gathered : AreGatheredAt st (st.owner v.0) v.0 f part = subst (λ (a : ℕ). AreGatheredAt st a v.0 f part) (sym at.owned) at.gathered in
    let lent = c.make.ensures.lent st part f divided at.owned own list gathered in
    let made = c.in_ok-made.ensures.made st part f divided at.owned own list gathered in
    let wakes = c.in_ok-made.ensures.woken st part f divided at.owned own list gathered in
    let given = c.in_ok-gifts.ensures.given st p (lent_full f part) divided made wakes in
    let gifts : AreGiftsTo st v.0 me (gift_for st p (lent_full f part) v.0) c.in_ok-gifts.gifts.items =
    subst (λ (a : ℕ). AreGiftsTo st v.0 a (gift_for st p (lent_full f part) v.0) c.in_ok-gifts.gifts.items) at.owned given in
    let there = again st m part c.make.new.self c.reserve.new.self c.reserve_gifts.new.out is (c.make.ensures.kept st part divided is.numbers) c.reserve.ensures.items (c.reserve_gifts.ensures.same st part.out is.out) in
    let ended = c.end_scope.ensures.ended st p part f divided there at ready lent made wakes in
    let sent = c.send_gifts.ensures.sent st v.0 me (gift_for st p (lent_full f part) v.0) part.out divided.setting (terms.machines ∙ sym c.in_ok-gifts.ensures.count) ended.out gifts in
    let entry : Entry = Go m.me (record { 0 = v.0 }) c.args.tickets.next in
    let up : FullPart = updated_full st p me s v.0 (lent_full f part) entry part in
    let whole : IsMachineOf st (record c.end_scope.new.self { out = c.send_gifts.new.out }) up = told_of st c.end_scope.new.self (record up { out = part.out }) up c.send_gifts.new.out ended refl sent in (
      may,
      subst (λ (h : MachineNo). IsMachineOf st (record c.end_scope.new.self { out = c.send_gifts.new.out }) (updated_full st p h.0 s v.0 (lent_full f part) (Go h (record { 0 = v.0 }) c.args.tickets.next) part)) (sym c.requires.home) whole,
    )
