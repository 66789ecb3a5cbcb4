use Rattle.std.proofs.Common.{List, [], ap, arith, append-nil, length, length-append, rules, subst, suc, sym, ◌++◌, ◌+◌, ◌∙◌, ◌∷◌, ◌≡◌, ℕ}
use Rattle.std.specs.Vec.Iter.{into_iter_items}
use Rattle.link_tables.specs.Seats.{Rests}
use Rattle.link_tables.proofs.Taking.{nothing_left}
use Rattle.wire_board.proofs.Attempting.{map_next, numbered_snoc}
use Rattle.wire_board.proofs.Steppings.{map_snoc}
use Rattle.wire_board.specs.Attempts.{AllFrom, AreNumbered, Lead, Member, resting}
use Rattle.wire_board.specs.Seats.{Sits}
use Rattle.wire_board.specs.Stepping.{NodeSeat, machines_at, machines_of}
use Rattle.wire_board.proofs.boards.Board.gather_each.Goals as goal

pub gather_one-member-requires-clause-lead : goal.gather_one-member-requires-clause-lead
gather_one-member-requires-clause-lead g c = (c.requires.lead.0, c.loop-seat.members.items, c.loop-seat.invariant.all c.requires.lead.0 c.requires.lead.1)

pub gather_one-member-requires-clause-its_table : goal.gather_one-member-requires-clause-its_table
gather_one-member-requires-clause-its_table g c =
    let at = c.loop-seat in
    let steps : into_iter_items at.seat-iterator ≡ c.in-Some.seat ∷ into_iter_items c.next.new.self = c.in-Some.ensures.steps.0 in
    (subst (AllFrom (λ a seat. seat.place.seat.table_id ≡ c.args.self.now.table.table.shared.table_id) (length at.members.items)) steps at.invariant.tables).0

pub gather_one-member-requires-clause-sits : goal.gather_one-member-requires-clause-sits
gather_one-member-requires-clause-sits g c =
    let at = c.loop-seat in
    let steps : into_iter_items at.seat-iterator ≡ c.in-Some.seat ∷ into_iter_items c.next.new.self = c.in-Some.ensures.steps.0 in
    (subst (AllFrom (λ a seat. (seat.member.number ≡ a) × (seat.member.peers ≡ c.args._peers) × Sits g.M.SavingMachine.represents seat.member seat.place.seat.me) (length at.members.items)) steps at.invariant.seats).0.2

pub loop-seat-init : goal.loop-seat-init
loop-seat-init g c =
    let gives = c.into_iter-seat-iterator.ensures.into_iter_gives.0 in
    let none = c.in_ok-members.ensures.items in
    let zero = ap length none in
    record {
      table = c.requires.table;
      all = λ lead r. subst (λ (ys : List (Member g.row.M.Denot)). Rests c.args.place.now.seat.me (Lead lead) (resting ys)) (sym none) r;
      numbers = subst (AreNumbered c.args._peers 0) (sym none) tt;
      machines = ap (λ (ys : List (Member g.row.M.Denot)). machines_of ys ++ machines_at (into_iter_items c.into_iter-seat-iterator.result)) none ∙ ap machines_at gives;
      count = (let long = ap length gives in omega (arith, zero, long));
      tables = subst (λ (k : ℕ). AllFrom (λ a seat. seat.place.seat.table_id ≡ c.args.self.now.table.table.shared.table_id) k (into_iter_items c.into_iter-seat-iterator.result)) (sym zero) (subst (AllFrom (λ a seat. seat.place.seat.table_id ≡ c.args.self.now.table.table.shared.table_id) 0) (sym gives) c.requires.tables);
      seats = subst (λ (k : ℕ). AllFrom (λ a seat. (seat.member.number ≡ a) × (seat.member.peers ≡ c.args._peers) × Sits g.M.SavingMachine.represents seat.member seat.place.seat.me) k (into_iter_items c.into_iter-seat-iterator.result)) (sym zero) (subst (AllFrom (λ a seat. (seat.member.number ≡ a) × (seat.member.peers ≡ c.args._peers) × Sits g.M.SavingMachine.represents seat.member seat.place.seat.me) 0) (sym gives) c.requires.seats);
      many = search rules;
      room = search rules;
    }

pub loop-seat-preserved : goal.loop-seat-preserved
loop-seat-preserved g c =
    let at = c.loop-seat in
    let represents = g.M.SavingMachine.represents in
    let rest = into_iter_items c.next.new.self in
    let x = c.in-Some.seat in
    let steps : into_iter_items at.seat-iterator ≡ x ∷ rest = c.in-Some.ensures.steps.0 in
    let gone = c.in-Some.ensures.steps.1 in
    let short = ap length steps in
    let items = ap length c.push_reserved.ensures.items in
    let longer = length-append at.members.items (c.gather_one-member.result ∷ []) in
    let capacity = c.push_reserved.ensures.capacity in
    let many = at.invariant.many in
    let room = at.invariant.room in
    let count = at.invariant.count in
    let tables = subst (AllFrom (λ a seat. seat.place.seat.table_id ≡ c.args.self.now.table.table.shared.table_id) (length at.members.items)) steps at.invariant.tables in
    let seats = subst (AllFrom (λ a seat. (seat.member.number ≡ a) × (seat.member.peers ≡ c.args._peers) × Sits represents seat.member seat.place.seat.me) (length at.members.items)) steps at.invariant.seats in
    let grown : length c.push_reserved.new.self.items ≡ suc (length at.members.items) = omega arith in
    let pushed : c.push_reserved.new.self.items ≡ at.members.items ++ x.member ∷ [] = c.push_reserved.ensures.items ∙ ap (λ (y : Member g.row.M.Denot). at.members.items ++ y ∷ []) c.gather_one-member.ensures.same in
    record {
      table = search rules;
      all = λ lead r. subst (λ (ys : List (Member g.row.M.Denot)). Rests c.gather_one-member.new.place.seat.me (Lead lead) (resting ys)) (sym pushed) (c.gather_one-member.ensures.behind lead at.members.items (at.invariant.all lead r));
      numbers = subst (AreNumbered c.args._peers 0) (sym pushed) (numbered_snoc c.args._peers 0 at.members.items x.member at.invariant.numbers (seats.0.0 ∙ (let e : length at.members.items ≡ 0 + length at.members.items = omega arith in e)) seats.0.1);
      machines = map_next (λ (s : NodeSeat g.row.M.Denot). s.member.machine) (machines_of at.members.items) x rest (machines_of c.push_reserved.new.self.items)
          (ap machines_of pushed ∙ map_snoc (λ (y : Member g.row.M.Denot). y.machine) at.members.items x.member)
          ∙ ap (λ (l : List (NodeSeat g.row.M.Denot)). machines_of at.members.items ++ machines_at l) (sym steps) ∙ at.invariant.machines;
      count = omega arith;
      tables = subst (λ (k : ℕ). AllFrom (λ a seat. seat.place.seat.table_id ≡ c.args.self.now.table.table.shared.table_id) k rest) (sym grown) tables.1;
      seats = subst (λ (k : ℕ). AllFrom (λ a seat. (seat.member.number ≡ a) × (seat.member.peers ≡ c.args._peers) × Sits represents seat.member seat.place.seat.me) k rest) (sym grown) seats.1;
      many = omega arith;
      room = omega arith;
    }

pub returns-clause-machines : goal.returns-clause-machines
returns-clause-machines g c =
    let at = c.loop-seat in
    let empty : into_iter_items at.seat-iterator ≡ [] = nothing_left (into_iter_items at.seat-iterator) (sym at.invariant.many ∙ c.in-None.ensures.steps.0) in
    sym (append-nil (machines_of at.members.items)) ∙ ap (λ (l : List (NodeSeat g.row.M.Denot)). machines_of at.members.items ++ machines_at l) (sym empty) ∙ at.invariant.machines
