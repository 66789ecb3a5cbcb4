-- Where the links are.
use Rattle.std.proofs.Common.{length, subst}
use Rattle.cluster_step.specs.clusters.Events.{NamesPassage}
use Rattle.cluster_step.proofs.clusters.Answering.{link_between_machines, link_of_calls, link_of_reports, small_here}
use Rattle.cluster_step.proofs.clusters.parts.Parts.make_passage.Goals as goal

pub send-requires-clause-links : goal.send-requires-clause-links
send-requires-clause-links g c =
    let names = subst (NamesPassage (length c.args.self.now.machines.items)) c.in-Send.is c.requires.within in
    link_between_machines g.M.SavingMachine.represents c.args.self.now c.requires.some c.in-Send.from.0 c.in-Send.to.0 names.0 names.1

pub deliver-requires-clause-links : goal.deliver-requires-clause-links
deliver-requires-clause-links g c =
    let names = subst (NamesPassage (length c.args.self.now.machines.items)) c.in-Deliver.is c.requires.within in
    link_between_machines g.M.SavingMachine.represents c.args.self.now c.requires.some c.in-Deliver.from.0 c.in-Deliver.to.0 names.0 names.1

pub send_call-requires-clause-many : goal.send_call-requires-clause-many
send_call-requires-clause-many g c = small_here g.M.SavingMachine.represents c.args.self.now c.requires.some

pub send_call-requires-clause-links : goal.send_call-requires-clause-links
send_call-requires-clause-links g c =
    let names = subst (NamesPassage (length c.args.self.now.machines.items)) c.in-SendCall.is c.requires.within in
    link_of_calls g.M.SavingMachine.represents c.args.self.now c.requires.some c.in-SendCall.to.0 names

pub deliver_call-requires-clause-many : goal.deliver_call-requires-clause-many
deliver_call-requires-clause-many g c = small_here g.M.SavingMachine.represents c.args.self.now c.requires.some

pub deliver_call-requires-clause-links : goal.deliver_call-requires-clause-links
deliver_call-requires-clause-links g c =
    let names = subst (NamesPassage (length c.args.self.now.machines.items)) c.in-DeliverCall.is c.requires.within in
    link_of_calls g.M.SavingMachine.represents c.args.self.now c.requires.some c.in-DeliverCall.to.0 names

pub send_report-requires-clause-many : goal.send_report-requires-clause-many
send_report-requires-clause-many g c = small_here g.M.SavingMachine.represents c.args.self.now c.requires.some

pub send_report-requires-clause-links : goal.send_report-requires-clause-links
send_report-requires-clause-links g c =
    let names = subst (NamesPassage (length c.args.self.now.machines.items)) c.in-SendReport.is c.requires.within in
    link_of_reports g.M.SavingMachine.represents c.args.self.now c.requires.some c.in-SendReport.from.0 names

pub deliver_report-requires-clause-many : goal.deliver_report-requires-clause-many
deliver_report-requires-clause-many g c = small_here g.M.SavingMachine.represents c.args.self.now c.requires.some

pub deliver_report-requires-clause-links : goal.deliver_report-requires-clause-links
deliver_report-requires-clause-links g c =
    let names = subst (NamesPassage (length c.args.self.now.machines.items)) c.in-DeliverReport.is c.requires.within in
    link_of_reports g.M.SavingMachine.represents c.args.self.now c.requires.some c.in-DeliverReport.from.0 names
