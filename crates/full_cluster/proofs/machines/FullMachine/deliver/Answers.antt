use Rattle.std.proofs.Common.{refl, sym, subst}
use Rattle.gl_base.specs.declared.numbers.MachineNo.{MachineNo}
use Rattle.full_laws.specs.FullEffects.{received_full}
use Rattle.full_cluster.specs.declared.messages.FullMessage.{FullMessage}
use Rattle.full_cluster.specs.FullMachines.{IsMachineOf, IsOrderedFor, IsPreparedFor}
use Rattle.full_cluster.proofs.ArrivingLemmas.{first_one, front_waits}
use Rattle.full_cluster.proofs.QueueLemmas.{no_first}
use Rattle.full_cluster.proofs.machines.FullMachine.deliver.Goals as goal

pub returns-in_err-part-clause-no_memory : goal.returns-in_err-part-clause-no_memory
returns-in_err-part-clause-no_memory c = λ st on are refused. front_waits st c.args.links.now.queues.items c.args.self.now.me.0 c.in-Some.message.now on are c.in-Some.ensures.some

pub receive-requires-clause-prepared : goal.receive-requires-clause-prepared
receive-requires-clause-prepared c =
    let same = first_one c.args.links.now.queues.items c.args.self.now.me.0 c.in-Some.message.now c.in-Some-take.message c.in-Some.ensures.some c.in-Some-take.ensures.first in
    subst (λ (m : FullMessage). IsPreparedFor c.prepare.new.self m c.in_ok-part.part) same c.in_ok-part.ensures.prepared

pub returns-in-Some-take-clause-delivered : goal.returns-in-Some-take-clause-delivered
returns-in-Some-take-clause-delivered c = λ st part on divided is are gives.
    let me = c.prepare.ensures.still.me in
    let same = first_one c.args.links.now.queues.items c.args.self.now.me.0 c.in-Some.message.now c.in-Some-take.message c.in-Some.ensures.some c.in-Some-take.ensures.first in
    let taken = c.in-Some-take.ensures.some st on are in
    let order : IsOrderedFor st c.args.self.now.me.0 c.in-Some-take.message c.in_ok-part.part.items =
    subst (λ (m : FullMessage). IsOrderedFor st c.args.self.now.me.0 m c.in_ok-part.part.items) same (c.in_ok-part.ensures.ordered st divided) in
    let there : IsOrderedFor st c.prepare.new.self.me.0 c.in-Some-take.message c.in_ok-part.part.items =
    subst (λ (a : MachineNo). IsOrderedFor st a.0 c.in-Some-take.message c.in_ok-part.part.items) (sym me) order in
    record {
      first = taken.first;
      links = taken.after;
      machine = subst (λ (a : MachineNo). IsMachineOf st c.receive.new.self (received_full st a.0 taken.first.message part)) me
          (c.receive.ensures.received st part taken.first.message (c.prepare.ensures.same st part is) taken.is there (gives taken.first));
    }

pub returns-in_default-take-clause-delivered : goal.returns-in_default-take-clause-delivered
returns-in_default-take-clause-delivered c = λ st part on divided is are gives.
    absurd (no_first (on c.args.self.now.me.0) (c.in_default-take.ensures.none st on are refl) (front_waits st c.args.links.now.queues.items c.args.self.now.me.0 c.in-Some.message.now on are c.in-Some.ensures.some))
