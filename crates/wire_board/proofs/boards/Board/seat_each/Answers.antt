use Rattle.std.proofs.Common.{List, [], ap, arith, append-nil, length, length-append, rules, subst, suc, sym, ◌++◌, ◌+◌, ◌∙◌, ◌∷◌, ◌≡◌, ℕ}
use Rattle.std.specs.Vec.Iter.{into_iter_items}
use Rattle.link_tables.proofs.Taking.{nothing_left}
use Rattle.link_tables.specs.Seats.{Rests}
use Rattle.wire_board.proofs.Attempting.{all_snoc, map_next}
use Rattle.wire_board.proofs.Steppings.{map_snoc}
use Rattle.wire_board.specs.Attempts.{AllFrom, AreNumbered, IsSeatOf, Lead, Member, resting}
use Rattle.wire_board.specs.Stepping.{NodeSeat, machines_at, machines_of}
use Rattle.wire_board.proofs.boards.Board.seat_each.Goals as goal

pub seat_one-seat-requires-clause-first : goal.seat_one-seat-requires-clause-first
seat_one-seat-requires-clause-first g c =
    let at = c.loop-member in
    let lead = c.requires.all.0 in
    let steps : into_iter_items at.member-iterator ≡ c.in-Some.member ∷ into_iter_items c.next.new.self = c.in-Some.ensures.steps.0 in
    (lead, into_iter_items c.next.new.self, subst (λ (xs : List (Member g.row.M.Denot)). Rests at.place.seat.me (Lead lead) (resting xs)) steps (at.invariant.alone lead c.requires.all.1))

pub seat_one-seat-requires-clause-inside : goal.seat_one-seat-requires-clause-inside
seat_one-seat-requires-clause-inside g c =
    let at = c.loop-member in
    let steps : into_iter_items at.member-iterator ≡ c.in-Some.member ∷ into_iter_items c.next.new.self = c.in-Some.ensures.steps.0 in
    let are = subst (λ (xs : List (Member g.row.M.Denot)). AreNumbered (suc (length c.args.members.items)) (length at.seats.items) xs) steps at.invariant.numbers in
    let number = are.0 in
    let peers = are.1 in
    let short = ap length steps in
    let count = at.invariant.count in
    omega arith

pub loop-member-preserved : goal.loop-member-preserved
loop-member-preserved g c =
    let at = c.loop-member in
    let represents = g.M.SavingMachine.represents in
    let rest = into_iter_items c.next.new.self in
    let x = c.in-Some.member in
    let steps : into_iter_items at.member-iterator ≡ x ∷ rest = c.in-Some.ensures.steps.0 in
    let gone = c.in-Some.ensures.steps.1 in
    let short = ap length steps in
    let items = ap length c.push_reserved.ensures.items in
    let longer = length-append at.seats.items (c.seat_one-seat.result ∷ []) in
    let capacity = c.push_reserved.ensures.capacity in
    let many = at.invariant.many in
    let room = at.invariant.room in
    let count = at.invariant.count in
    let are = subst (λ (xs : List (Member g.row.M.Denot)). AreNumbered (suc (length c.args.members.items)) (length at.seats.items) xs) steps at.invariant.numbers in
    let grown : length c.push_reserved.new.self.items ≡ suc (length at.seats.items) = omega arith in
    record {
      table = search rules;
      alone = λ lead r. c.seat_one-seat.ensures.behind lead rest (subst (λ (xs : List (Member g.row.M.Denot)). Rests at.place.seat.me (Lead lead) (resting xs)) steps (at.invariant.alone lead r));
      numbers = subst (λ (k : ℕ). AreNumbered (suc (length c.args.members.items)) k rest) (sym grown) are.2;
      machines = map_next (λ (y : Member g.row.M.Denot). y.machine) (machines_at at.seats.items) x rest (machines_at c.push_reserved.new.self.items)
          (ap machines_at c.push_reserved.ensures.items ∙ map_snoc (λ (s : NodeSeat g.row.M.Denot). s.member.machine) at.seats.items c.seat_one-seat.result ∙ ap (λ (y : Member g.row.M.Denot). machines_at at.seats.items ++ y.machine ∷ []) c.seat_one-seat.ensures.same)
          ∙ ap (λ (l : List (Member g.row.M.Denot)). machines_at at.seats.items ++ machines_of l) (sym steps) ∙ at.invariant.machines;
      count = omega arith;
      tables = subst (AllFrom (λ a seat. seat.place.seat.table_id ≡ c.args.self.now.table.table.shared.table_id) 0) (sym c.push_reserved.ensures.items)
          (all_snoc (λ a seat. seat.place.seat.table_id ≡ c.args.self.now.table.table.shared.table_id) 0 at.seats.items c.seat_one-seat.result at.invariant.tables c.seat_one-seat.ensures.its_table);
      seats = subst (AllFrom (λ a seat. IsSeatOf represents (suc (length c.args.members.items)) c.args.done.now a seat.member seat.place.seat.me seat.before) 0) (sym c.push_reserved.ensures.items)
          (all_snoc (λ a seat. IsSeatOf represents (suc (length c.args.members.items)) c.args.done.now a seat.member seat.place.seat.me seat.before) 0 at.seats.items c.seat_one-seat.result at.invariant.seats
          (subst (λ (k : ℕ). IsSeatOf represents (suc (length c.args.members.items)) c.args.done.now k c.seat_one-seat.result.member c.seat_one-seat.result.place.seat.me c.seat_one-seat.result.before) (are.0 ∙ (let e : length at.seats.items ≡ 0 + length at.seats.items = omega arith in e))
          (subst (λ (k : ℕ). IsSeatOf represents k c.args.done.now x.number c.seat_one-seat.result.member c.seat_one-seat.result.place.seat.me c.seat_one-seat.result.before) are.1 c.seat_one-seat.ensures.seat)));
      many = omega arith;
      room = omega arith;
    }

pub returns-clause-alone : goal.returns-clause-alone
returns-clause-alone g c = λ lead r.
    let at = c.loop-member in
    let empty : into_iter_items at.member-iterator ≡ [] = nothing_left (into_iter_items at.member-iterator) (sym at.invariant.many ∙ c.in-None.ensures.steps.0) in
    subst (λ (xs : List (Member g.row.M.Denot)). Rests at.place.seat.me (Lead lead) (resting xs)) empty (at.invariant.alone lead r)

pub returns-clause-machines : goal.returns-clause-machines
returns-clause-machines g c =
    let at = c.loop-member in
    let empty : into_iter_items at.member-iterator ≡ [] = nothing_left (into_iter_items at.member-iterator) (sym at.invariant.many ∙ c.in-None.ensures.steps.0) in
    sym (append-nil (machines_at at.seats.items)) ∙ ap (λ (l : List (Member g.row.M.Denot)). machines_at at.seats.items ++ machines_of l) (sym empty) ∙ at.invariant.machines
