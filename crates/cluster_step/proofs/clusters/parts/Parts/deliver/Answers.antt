-- The first message of the link is received, or put back.
use Rattle.std.proofs.Common.{◌∙◌, ◌∷◌, ap}
use Rattle.cluster_step.proofs.clusters.LinkLemmas.{links_stay}
use Rattle.cluster_step.specs.clusters.Lines.{messages_on}
use Rattle.cluster_step.proofs.clusters.Answering.{back_line, can_receive, deliver_answers, deliver_full, deliver_none, first_none, links_after, none_line, still_here, still_lines, taken_line}
use Rattle.cluster_step.proofs.clusters.Lines.{first_is}
use Rattle.wire.specs.wire_msgs.Views.{message_view}
use Rattle.cluster_step.proofs.clusters.parts.Parts.deliver.Goals as goal

pub returns-in_default : goal.returns-in_default
returns-in_default g c =
    let none = first_none c.take.result (messages_on c.args.self.now.links c.args.from.0 c.args.to.0) c.in_default.is c.take.ensures.first in
    deliver_none g.M.SavingMachine.represents c.args.self.now c.requires.runs c.args.from c.args.to c.requires.within.0 c.requires.within.1 _ none
    (still_lines g.M.SavingMachine.represents c.args.self.now c.requires.runs c.take.new.self (links_stay c.args.self.now.links c.args.from.0 c.args.to.0 c.requires.links c.take.new.self c.take.ensures.rest)
    (none_line g.M.SavingMachine.represents c.args.self.now c.requires.runs c.args.from.0 c.args.to.0 c.requires.links none c.take.new.self c.take.ensures.behind c.take.ensures.rest))

pub receive-requires : goal.receive-requires
receive-requires g c =
    can_receive g.M.SavingMachine.represents c.args.self.now c.requires.runs c.args.from c.args.to c.requires.within.0 c.requires.within.1 c.in-Some.message c.in-Some.ensures.first c.requires.awake c.index_mut.result.now c.index_mut.ensures.value c.requires.some

pub returns-in-Ok : goal.returns-in-Ok
returns-in-Ok g c =
    deliver_answers g.M.SavingMachine.represents c.args.self.now c.requires.runs c.args.from c.args.to c.requires.within.0 c.requires.within.1 c.in-Some.message c.in-Some.ensures.first c.requires.awake c.index_mut.result.now c.index_mut.ensures.value c.receive.new.self c.take.new.self
    (links_stay c.args.self.now.links c.args.from.0 c.args.to.0 c.requires.links c.take.new.self c.in-Some.ensures.rest) c.in-Ok.ensures.received
    (taken_line g.M.SavingMachine.represents c.args.self.now c.requires.runs c.args.from.0 c.args.to.0 c.requires.links c.take.new.self c.in-Some.ensures.behind c.in-Some.ensures.rest)

pub returns-in-Err : goal.returns-in-Err
returns-in-Err g c =
    deliver_full g.M.SavingMachine.represents c.args.self.now c.requires.runs c.args.from c.args.to c.requires.within.0 c.requires.within.1 c.in-Some.message c.in-Some.ensures.first c.requires.awake c.index_mut.result.now c.index_mut.ensures.value _
    (still_here g.M.SavingMachine.represents c.args.self.now c.requires.runs c.args.to.0 c.requires.within.1 c.requires.awake c.index_mut.result.now c.index_mut.ensures.value c.receive.new.self c.in-Err.ensures.unchanged c.put_back.new.self
    (links_after g.M.SavingMachine.represents c.args.self.now c.requires.runs c.args.from.0 c.args.to.0 c.requires.links c.take.new.self c.put_back.new.self c.in-Some.ensures.rest c.put_back.ensures.rest)
    (back_line g.M.SavingMachine.represents c.args.self.now c.requires.runs c.args.from.0 c.args.to.0 c.requires.links (message_view c.in-Some.message) (first_is (messages_on c.args.self.now.links c.args.from.0 c.args.to.0) (message_view c.in-Some.message) c.in-Some.ensures.first)
    c.take.new.self c.in-Some.ensures.behind c.in-Some.ensures.rest c.put_back.new.self
    (c.put_back.ensures.first ∙ ap (λ m. message_view m ∷ messages_on c.take.new.self c.args.from.0 c.args.to.0) c.in-Err.ensures.returned) c.put_back.ensures.rest))
