use Rattle.std.proofs.Common.{List, [], arith, length, refl, subst, suc, sym, ◌+◌, ◌∙◌, ◌≡◌, ℕ}
use Rattle.node_threads.proofs.Turns.{all_both}
use Rattle.node_threads.specs.Nodes.{AllFrom, IsAtBoard, IsSeatOf, Sits}
use Rattle.wire_board.proofs.Attempting.{all_map}
use Rattle.wire_board.specs.Attempts.{AreNumbered}
use Rattle.node_threads.proofs.running.run_attempt.Goals as goal

pub play-requires-clause-first : goal.play-requires-clause-first
play-requires-clause-first g c κs within = record {
  table = c.in_ok-nodes.ensures.table ∙ c.requires.table;
  number = c.requires.lead ∙ sym c.requires.many ∙ sym c.in_ok-nodes.ensures.many;
  leads = record { was = c.args.attempt.lead; rests = c.in_ok-nodes.ensures.alone c.args.attempt.lead c.requires.place; number = refl; stays = λ st k of. of };
}

pub play-requires-clause-nodes : goal.play-requires-clause-nodes
play-requires-clause-nodes g c κs within =
    let represents = g.M.SavingMachine.represents in
    let board = c.args.attempt.board in
    let nodes = c.in_ok-nodes.nodes.items in
    let seats = subst (λ (done : List ℕ). AllFrom (λ a seat. IsSeatOf represents (suc (length nodes)) done a seat.member seat.place.seat.me seat.before) 0 nodes) (c.as_slice-done.ensures.value ∙ c.done.ensures ∙ sym c.requires.board.done_are)
    (subst (λ (n : ℕ). AllFrom (λ a seat. IsSeatOf represents (suc n) c.as_slice-done.result.now a seat.member seat.place.seat.me seat.before) 0 nodes) (sym c.in_ok-nodes.ensures.many) c.in_ok-nodes.ensures.seats) in
    all_both (λ a seat. seat.place.seat.table_id ≡ board.table.table.shared.table_id)
    (λ a seat. IsSeatOf represents (suc (length nodes)) board.table.table.shared.key.about.done.value.items a seat.member seat.place.seat.me seat.before) (IsAtBoard represents board (suc (length nodes))) (λ a seat table is. record { table = table; is = is }) 0 nodes
    c.in_ok-nodes.ensures.tables seats

pub gather_each-requires-clause-lead : goal.gather_each-requires-clause-lead
gather_each-requires-clause-lead g c = (c.in_ok-first.field-0.first.lead, c.rest_lead.ensures.rests [] c.in_ok-first.ensures.first.leads)

pub gather_each-requires-clause-tables : goal.gather_each-requires-clause-tables
gather_each-requires-clause-tables g c =
    let board = c.args.attempt.board in
    all_map (IsAtBoard g.M.SavingMachine.represents board (suc (length c.in_ok-nodes.nodes.items))) (λ a seat. seat.place.seat.table_id ≡ board.table.table.shared.table_id) (λ a seat is. is.table) 0 c.in_ok-first.field-0.nodes.items
    c.in_ok-first.ensures.nodes

pub gather_each-requires-clause-seats : goal.gather_each-requires-clause-seats
gather_each-requires-clause-seats g c =
    let represents = g.M.SavingMachine.represents in
    let many = c.in_ok-nodes.ensures.many in
    let len = c.len-peers.ensures in
    let peers : suc (length c.in_ok-nodes.nodes.items) ≡ c.len-peers.result + 1 = omega (arith, many, len) in
    all_map (IsAtBoard represents c.args.attempt.board (suc (length c.in_ok-nodes.nodes.items))) (λ a seat. (seat.member.number ≡ a) × (seat.member.peers ≡ c.len-peers.result + 1) × Sits represents seat.member seat.place.seat.me)
    (λ a seat s. (s.is.number, s.is.peers_are ∙ peers, s.is.sits)) 0 c.in_ok-first.field-0.nodes.items c.in_ok-first.ensures.nodes

pub returns-clause-place : goal.returns-clause-place
returns-clause-place g c = c.in_ok-members.ensures.all c.in_ok-first.field-0.first.lead (c.rest_lead.ensures.rests [] c.in_ok-first.ensures.first.leads)

pub returns-clause-numbers : goal.returns-clause-numbers
returns-clause-numbers g c =
    let len = c.len-peers.ensures in
    let many = c.requires.many in
    let peers : c.len-peers.result + 1 ≡ suc (length c.args.attempt.trace.now.machines.items) = omega (arith, many, len) in
    subst (λ (k : ℕ). AreNumbered k 0 c.in_ok-members.members.items) peers c.in_ok-members.ensures.numbers
