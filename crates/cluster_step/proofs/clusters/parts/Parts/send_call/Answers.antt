-- The call that is taken from the coordinator is put behind the others on the link.
use Rattle.std.proofs.Common.{None, rules, subst, sym}
use Rattle.cluster_step.proofs.clusters.LinkLemmas.{links_stay}
use Rattle.cluster_step.specs.clusters.Inner.Writing.{HasLinkBetween}
use Rattle.coordinator.specs.coord_core.Calls.{HasHandedOver}
use Rattle.cluster_step.proofs.clusters.Answering.{kept_lines, links_after, pushed_line, same_here, still_lines}
use Rattle.cluster_step.proofs.clusters.Leading.{call_answers, call_full, call_none, call_taken_none, still_led_lines}
use Rattle.wire.specs.wire_msgs.Views.{message_view}
use Rattle.cluster_step.proofs.clusters.parts.Parts.send_call.Goals as goal

pub returns-then-not-waits : goal.returns-then-not-waits
returns-then-not-waits g c =
    call_none g.M.SavingMachine.represents c.args.self.now c.requires.runs c.args.to c.requires.within c.waits.result c.waits.ensures (search rules) _ (same_here g.M.SavingMachine.represents c.args.self.now)

pub returns-then-is_err : goal.returns-then-is_err
returns-then-is_err g c =
    let has = (subst (λ n. HasLinkBetween c.args.self.now.links n c.args.to.0) (sym c.lead-lead.ensures) c.requires.links) in
    call_full g.M.SavingMachine.represents c.args.self.now c.requires.runs c.args.to c.requires.within c.waits.result c.waits.ensures (search rules) _
    (still_lines g.M.SavingMachine.represents c.args.self.now c.requires.runs c.reserve.new.self (links_stay c.args.self.now.links c.lead-lead.result.0 c.args.to.0 has c.reserve.new.self c.reserve.ensures.rest)
    (kept_lines g.M.SavingMachine.represents c.args.self.now c.requires.runs c.lead-lead.result.0 c.args.to.0 has c.reserve.new.self c.reserve.ensures.same c.reserve.ensures.rest))

pub returns-in_default : goal.returns-in_default
returns-in_default g c =
    let has = (subst (λ n. HasLinkBetween c.args.self.now.links n c.args.to.0) (sym c.lead-lead.ensures) c.requires.links) in
    let none : HasHandedOver c.args.self.now.coordinator c.outbox_take.new.self c.args.to.0 None = subst (HasHandedOver c.args.self.now.coordinator c.outbox_take.new.self c.args.to.0) c.in_default.is c.outbox_take.ensures in
    call_taken_none g.M.SavingMachine.represents c.args.self.now c.requires.runs c.args.to c.requires.within c.outbox_take.new.self none _
    (still_led_lines g.M.SavingMachine.represents c.args.self.now c.requires.runs c.outbox_take.new.self none.0 c.reserve.new.self (links_stay c.args.self.now.links c.lead-lead.result.0 c.args.to.0 has c.reserve.new.self c.reserve.ensures.rest)
    (kept_lines g.M.SavingMachine.represents c.args.self.now c.requires.runs c.lead-lead.result.0 c.args.to.0 has c.reserve.new.self c.reserve.ensures.same c.reserve.ensures.rest))

pub returns : goal.returns
returns g c =
    let has = (subst (λ n. HasLinkBetween c.args.self.now.links n c.args.to.0) (sym c.lead-lead.ensures) c.requires.links) in
    call_answers g.M.SavingMachine.represents c.args.self.now c.requires.runs c.args.to c.requires.within c.lead-lead.result c.lead-lead.ensures c.outbox_take.new.self c.in-Some.message c.in-Some.ensures c.push.new.self
    (links_after g.M.SavingMachine.represents c.args.self.now c.requires.runs c.lead-lead.result.0 c.args.to.0 has c.reserve.new.self c.push.new.self c.reserve.ensures.rest c.push.ensures.rest)
    (pushed_line g.M.SavingMachine.represents c.args.self.now c.requires.runs c.lead-lead.result.0 c.args.to.0 has c.reserve.new.self c.reserve.ensures.same c.reserve.ensures.rest (message_view c.in-Some.message) c.push.new.self c.push.ensures.last c.push.ensures.rest)
