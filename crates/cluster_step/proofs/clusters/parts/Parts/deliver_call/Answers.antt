-- The first call on the link is heard, or put back.
use Rattle.std.proofs.Common.{◌∙◌, ◌∷◌, ap, subst, sym}
use Rattle.cluster_step.proofs.clusters.LinkLemmas.{links_stay}
use Rattle.cluster_step.specs.clusters.Inner.Writing.{HasLinkBetween}
use Rattle.cluster_step.specs.clusters.Lines.{messages_on}
use Rattle.cluster_step.proofs.clusters.Answering.{back_line, first_none, links_after, none_line, still_here, still_lines, taken_line}
use Rattle.cluster_step.proofs.clusters.Leading.{can_hear, hear_answers, hear_full, hear_none}
use Rattle.cluster_step.proofs.clusters.Lines.{first_is}
use Rattle.wire.specs.wire_msgs.Views.{message_view}
use Rattle.cluster_step.proofs.clusters.parts.Parts.deliver_call.Goals as goal

pub returns-in_default : goal.returns-in_default
returns-in_default g c =
    let has = (subst (λ n. HasLinkBetween c.args.self.now.links n c.args.to.0) (sym c.lead-lead.ensures) c.requires.links) in
    let none = first_none c.take.result (messages_on c.args.self.now.links c.lead-lead.result.0 c.args.to.0) c.in_default.is c.take.ensures.first in
    hear_none g.M.SavingMachine.represents c.args.self.now c.requires.runs c.args.to c.requires.within c.lead-lead.result c.lead-lead.ensures none _
    (still_lines g.M.SavingMachine.represents c.args.self.now c.requires.runs c.take.new.self (links_stay c.args.self.now.links c.lead-lead.result.0 c.args.to.0 has c.take.new.self c.take.ensures.rest)
    (none_line g.M.SavingMachine.represents c.args.self.now c.requires.runs c.lead-lead.result.0 c.args.to.0 has none c.take.new.self c.take.ensures.behind c.take.ensures.rest))

pub hear-requires : goal.hear-requires
hear-requires g c =
    can_hear g.M.SavingMachine.represents c.args.self.now c.requires.runs c.args.to c.requires.within c.lead-lead.result c.lead-lead.ensures c.in-Some.message c.in-Some.ensures.first c.requires.awake c.index_mut.result.now c.index_mut.ensures.value c.requires.some

pub returns-in-Ok : goal.returns-in-Ok
returns-in-Ok g c =
    let has = (subst (λ n. HasLinkBetween c.args.self.now.links n c.args.to.0) (sym c.lead-lead.ensures) c.requires.links) in
    hear_answers g.M.SavingMachine.represents c.args.self.now c.requires.runs c.args.to c.requires.within c.lead-lead.result c.lead-lead.ensures c.in-Some.message c.in-Some.ensures.first c.requires.awake c.index_mut.result.now c.index_mut.ensures.value c.hear.new.self c.take.new.self
    (links_stay c.args.self.now.links c.lead-lead.result.0 c.args.to.0 has c.take.new.self c.in-Some.ensures.rest) c.in-Ok.ensures.heard
    (taken_line g.M.SavingMachine.represents c.args.self.now c.requires.runs c.lead-lead.result.0 c.args.to.0 has c.take.new.self c.in-Some.ensures.behind c.in-Some.ensures.rest)

pub returns-in-Err : goal.returns-in-Err
returns-in-Err g c =
    let has = (subst (λ n. HasLinkBetween c.args.self.now.links n c.args.to.0) (sym c.lead-lead.ensures) c.requires.links) in
    hear_full g.M.SavingMachine.represents c.args.self.now c.requires.runs c.args.to c.requires.within c.lead-lead.result c.lead-lead.ensures c.in-Some.message c.in-Some.ensures.first c.requires.awake c.index_mut.result.now c.index_mut.ensures.value _
    (still_here g.M.SavingMachine.represents c.args.self.now c.requires.runs c.args.to.0 c.requires.within c.requires.awake c.index_mut.result.now c.index_mut.ensures.value c.hear.new.self c.in-Err.ensures.unchanged c.put_back.new.self
    (links_after g.M.SavingMachine.represents c.args.self.now c.requires.runs c.lead-lead.result.0 c.args.to.0 has c.take.new.self c.put_back.new.self c.in-Some.ensures.rest c.put_back.ensures.rest)
    (back_line g.M.SavingMachine.represents c.args.self.now c.requires.runs c.lead-lead.result.0 c.args.to.0 has (message_view c.in-Some.message) (first_is (messages_on c.args.self.now.links c.lead-lead.result.0 c.args.to.0) (message_view c.in-Some.message) c.in-Some.ensures.first)
    c.take.new.self c.in-Some.ensures.behind c.in-Some.ensures.rest c.put_back.new.self
    (c.put_back.ensures.first ∙ ap (λ m. message_view m ∷ messages_on c.take.new.self c.lead-lead.result.0 c.args.to.0) c.in-Err.ensures.returned) c.put_back.ensures.rest))
