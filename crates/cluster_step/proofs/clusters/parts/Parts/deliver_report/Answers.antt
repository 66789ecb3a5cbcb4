-- The first report on the link comes to the coordinator.
use Rattle.std.proofs.Common.{subst, sym}
use Rattle.cluster_step.proofs.clusters.LinkLemmas.{links_stay}
use Rattle.cluster_step.specs.clusters.Inner.Writing.{HasLinkBetween}
use Rattle.cluster_step.specs.clusters.Lines.{messages_on}
use Rattle.cluster_step.proofs.clusters.Answering.{first_none, none_line, still_lines, taken_line}
use Rattle.cluster_step.proofs.clusters.Leading.{hear_no_report, may_report, report_taken}
use Rattle.cluster_step.proofs.clusters.parts.Parts.deliver_report.Goals as goal

pub returns-in_default : goal.returns-in_default
returns-in_default g c =
    let has = (subst (λ n. HasLinkBetween c.args.self.now.links c.args.from.0 n) (sym c.lead-lead.ensures) c.requires.links) in
    let none = first_none c.take.result (messages_on c.args.self.now.links c.args.from.0 c.lead-lead.result.0) c.in_default.is c.take.ensures.first in
    hear_no_report g.M.SavingMachine.represents c.args.self.now c.requires.runs c.args.from c.requires.within c.lead-lead.result c.lead-lead.ensures none _
    (still_lines g.M.SavingMachine.represents c.args.self.now c.requires.runs c.take.new.self (links_stay c.args.self.now.links c.args.from.0 c.lead-lead.result.0 has c.take.new.self c.take.ensures.rest)
    (none_line g.M.SavingMachine.represents c.args.self.now c.requires.runs c.args.from.0 c.lead-lead.result.0 has none c.take.new.self c.take.ensures.behind c.take.ensures.rest))

pub receive-requires : goal.receive-requires
receive-requires g c = may_report g.M.SavingMachine.represents c.args.self.now c.requires.runs c.args.from c.requires.within c.lead-lead.result c.lead-lead.ensures c.in-Some.message c.in-Some.ensures.first c.requires.some

pub returns : goal.returns
returns g c =
    let has = (subst (λ n. HasLinkBetween c.args.self.now.links c.args.from.0 n) (sym c.lead-lead.ensures) c.requires.links) in
    report_taken g.M.SavingMachine.represents c.args.self.now c.requires.runs c.args.from c.requires.within c.lead-lead.result c.lead-lead.ensures c.in-Some.message c.in-Some.ensures.first c.receive.new.self c.take.new.self
    (links_stay c.args.self.now.links c.args.from.0 c.lead-lead.result.0 has c.take.new.self c.in-Some.ensures.rest) c.receive.ensures
    (taken_line g.M.SavingMachine.represents c.args.self.now c.requires.runs c.args.from.0 c.lead-lead.result.0 has c.take.new.self c.in-Some.ensures.behind c.in-Some.ensures.rest)
