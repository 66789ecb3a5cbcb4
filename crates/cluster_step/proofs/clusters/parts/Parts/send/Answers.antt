-- The message that is taken from the outbox is put behind the others on the link.
use Rattle.std.proofs.Common.{rules}
use Rattle.cluster_step.proofs.clusters.LinkLemmas.{links_stay}
use Rattle.cluster_step.proofs.clusters.Answering.{if_none, kept_lines, links_after, pushed_line, send_answers, send_full, send_none, still_alone, still_here}
use Rattle.wire.specs.wire_msgs.Views.{message_view}
use Rattle.cluster_step.proofs.clusters.parts.Parts.send.Goals as goal

pub returns-then-not-waits : goal.returns-then-not-waits
returns-then-not-waits g c =
    send_none g.M.SavingMachine.represents c.args.self.now c.requires.runs c.args.from c.args.to c.requires.within.0 c.requires.within.1 c.requires.awake c.index_mut-machine.result.now c.index_mut-machine.ensures.value _
    (λ st a m setting here first. let waits = (c.waits.ensures st a m setting here).1 first in absurd (search rules))
    (still_alone g.M.SavingMachine.represents c.args.self.now c.requires.runs c.args.from.0 c.requires.within.0 c.requires.awake c.index_mut-machine.result.now c.index_mut-machine.ensures.value c.index_mut-machine.result.now (λ st a m setting here. here))

pub returns-then-is_err : goal.returns-then-is_err
returns-then-is_err g c =
    send_full g.M.SavingMachine.represents c.args.self.now c.requires.runs c.args.from c.args.to c.requires.within.0 c.requires.within.1 c.requires.awake c.index_mut-machine.result.now c.index_mut-machine.ensures.value _
    (λ st a m setting here. (c.waits.ensures st a m setting here).0 (search rules))
    (still_here g.M.SavingMachine.represents c.args.self.now c.requires.runs c.args.from.0 c.requires.within.0 c.requires.awake c.index_mut-machine.result.now c.index_mut-machine.ensures.value c.index_mut-machine.result.now (λ st a m setting here. here) c.reserve.new.self
    (links_stay c.args.self.now.links c.args.from.0 c.args.to.0 c.requires.links c.reserve.new.self c.reserve.ensures.rest) (kept_lines g.M.SavingMachine.represents c.args.self.now c.requires.runs c.args.from.0 c.args.to.0 c.requires.links c.reserve.new.self c.reserve.ensures.same c.reserve.ensures.rest))

pub returns-in_default : goal.returns-in_default
returns-in_default g c =
    send_none g.M.SavingMachine.represents c.args.self.now c.requires.runs c.args.from c.args.to c.requires.within.0 c.requires.within.1 c.requires.awake c.index_mut-machine.result.now c.index_mut-machine.ensures.value _
    (λ st a m setting here first. let none = if_none c.outbox_take.result c.in_default.is c.outbox_take.ensures.none st a m setting here in let is = first.first in absurd (cc (none, is)))
    (still_here g.M.SavingMachine.represents c.args.self.now c.requires.runs c.args.from.0 c.requires.within.0 c.requires.awake c.index_mut-machine.result.now c.index_mut-machine.ensures.value c.outbox_take.new.self (if_none c.outbox_take.result c.in_default.is c.outbox_take.ensures.unchanged) c.reserve.new.self
    (links_stay c.args.self.now.links c.args.from.0 c.args.to.0 c.requires.links c.reserve.new.self c.reserve.ensures.rest) (kept_lines g.M.SavingMachine.represents c.args.self.now c.requires.runs c.args.from.0 c.args.to.0 c.requires.links c.reserve.new.self c.reserve.ensures.same c.reserve.ensures.rest))

pub returns : goal.returns
returns g c =
    send_answers g.M.SavingMachine.represents c.args.self.now c.requires.runs c.args.from c.args.to c.requires.within.0 c.requires.within.1 c.requires.awake c.index_mut-machine.result.now c.index_mut-machine.ensures.value c.outbox_take.new.self c.in-Some.message c.push.new.self
    (links_after g.M.SavingMachine.represents c.args.self.now c.requires.runs c.args.from.0 c.args.to.0 c.requires.links c.reserve.new.self c.push.new.self c.reserve.ensures.rest c.push.ensures.rest) c.in-Some.ensures.taken
    (pushed_line g.M.SavingMachine.represents c.args.self.now c.requires.runs c.args.from.0 c.args.to.0 c.requires.links c.reserve.new.self c.reserve.ensures.same c.reserve.ensures.rest (message_view c.in-Some.message) c.push.new.self c.push.ensures.last c.push.ensures.rest)
