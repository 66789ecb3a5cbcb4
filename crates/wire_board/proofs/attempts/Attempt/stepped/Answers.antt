use Rattle.std.proofs.Common.{List, [], arith, length, refl, subst, suc, sym, ◌+◌, ◌∙◌, ◌≡◌, ℕ}
use Rattle.wire_board.proofs.Attempting.{all_map}
use Rattle.wire_board.specs.Attempts.{AllFrom, AreNumbered, IsSeatOf}
use Rattle.wire_board.specs.Seats.{Sits}
use Rattle.wire_board.specs.Stepping.{HasStepped, machines_at, machines_of}
use Rattle.wire_board.proofs.attempts.Attempt.stepped.Goals as goal

pub make_steps-requires-clause-leads : goal.make_steps-requires-clause-leads
make_steps-requires-clause-leads g c = record { was = c.args.self.lead; rests = c.in_ok-seats.ensures.alone c.args.self.lead c.requires.place; number = refl; stays = λ st k of. of }

pub make_steps-requires-clause-seats : goal.make_steps-requires-clause-seats
make_steps-requires-clause-seats g c =
    let represents = g.M.SavingMachine.represents in
    let seats = c.in_ok-seats.seats.items in
    subst (λ (done : List ℕ). AllFrom (λ a seat. IsSeatOf represents (suc (length seats)) done a seat.member seat.place.seat.me seat.before) 0 seats) (c.as_slice-done.ensures.value ∙ c.done.ensures ∙ sym c.requires.board.done_are)
    (subst (λ (n : ℕ). AllFrom (λ a seat. IsSeatOf represents (suc n) c.as_slice-done.result.now a seat.member seat.place.seat.me seat.before) 0 seats) (sym c.in_ok-seats.ensures.many) c.in_ok-seats.ensures.seats)

pub gather_each-requires-clause-lead : goal.gather_each-requires-clause-lead
gather_each-requires-clause-lead g c = (c.make_steps.new.first.lead, c.rest_lead.ensures.rests [] c.in_ok-moved.ensures.leads)

pub gather_each-requires-clause-seats : goal.gather_each-requires-clause-seats
gather_each-requires-clause-seats g c =
    let represents = g.M.SavingMachine.represents in
    let many = c.in_ok-seats.ensures.many in
    let len = c.len-peers.ensures in
    let peers : suc (length c.in_ok-seats.seats.items) ≡ c.len-peers.result + 1 = omega (arith, many, len) in
    all_map (λ a seat. IsSeatOf represents (suc (length c.in_ok-seats.seats.items)) c.args.self.board.table.table.shared.key.about.done.value.items a seat.member seat.place.seat.me seat.before)
    (λ a seat. (seat.member.number ≡ a) × (seat.member.peers ≡ c.len-peers.result + 1) × Sits represents seat.member seat.place.seat.me) (λ a seat s. (s.number, s.peers_are ∙ peers, s.sits)) 0 c.make_steps.new.seats.items c.in_ok-moved.ensures.seats

pub returns-clause-place : goal.returns-clause-place
returns-clause-place g c = c.in_ok-members.ensures.all c.make_steps.new.first.lead (c.rest_lead.ensures.rests [] c.in_ok-moved.ensures.leads)

pub returns-clause-numbers : goal.returns-clause-numbers
returns-clause-numbers g c =
    let len = c.len-peers.ensures in
    let many = c.requires.many in
    let peers : c.len-peers.result + 1 ≡ suc (length c.args.self.trace.now.machines.items) = omega (arith, many, len) in
    subst (λ (k : ℕ). AreNumbered k 0 c.in_ok-members.members.items) peers c.in_ok-members.ensures.numbers

pub returns-clause-moved : goal.returns-clause-moved
returns-clause-moved g c =
    let represents = g.M.SavingMachine.represents in
    let lead = c.args.self.lead.coordinator in
    let new = c.make_steps.new.first.lead.coordinator in
    let some = c.in_ok-moved.moved in
    let n = length c.args.self.trace.now.machines.items in
    let xs = machines_of c.args.self.members.items in
    let ys = machines_at c.make_steps.new.seats.items in
    subst (λ (l : List g.row.M.Denot). HasStepped represents n xs lead l new some) (sym c.in_ok-members.ensures.machines)
    (subst (λ (l : List g.row.M.Denot). HasStepped represents n l lead ys new some) c.in_ok-seats.ensures.machines
    (subst (λ (k : ℕ). HasStepped represents k (machines_at c.in_ok-seats.seats.items) lead ys new some) (c.in_ok-seats.ensures.many ∙ c.requires.many) c.in_ok-moved.ensures.moved))
