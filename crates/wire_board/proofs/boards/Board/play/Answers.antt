use Rattle.std.proofs.Common.{[], rules, subst, suc, sym, ◌+◌, ◌∙◌, ℕ}
use Rattle.link_tables.specs.Seats.{word_at}
use Rattle.wire_board.proofs.LeadPlaces.{leads_read}
use Rattle.wire_board.specs.Attempts.{AllFrom, IsSeatOf}
use Rattle.wire_board.proofs.boards.Board.play.Goals as goal

pub turns-requires-clause-seats : goal.turns-requires-clause-seats
turns-requires-clause-seats g c =
    subst (λ (n : ℕ). AllFrom (λ a seat. IsSeatOf g.M.SavingMachine.represents (suc n) c.args.self.now.table.table.shared.key.about.done.value.items a seat.member seat.place.seat.me seat.before) 0 c.loop.seats.items) (sym c.loop.invariant.many) c.loop.invariant.seats

pub returns-then-is_halted-clause-seats : goal.returns-then-is_halted-clause-seats
returns-then-is_halted-clause-seats g c =
    subst (λ (n : ℕ). AllFrom (λ a seat. IsSeatOf g.M.SavingMachine.represents (suc n) c.args.self.now.table.table.shared.key.about.done.value.items a seat.member seat.place.seat.me seat.before) 0 c.turns.new.seats.items) c.loop.invariant.many c.in_ok-moved.ensures.seats

pub loop-preserved : goal.loop-preserved
loop-preserved g c =
    let found = c.is_halted.ensures.found in
    record {
      table = search rules;
      number = search rules;
      leads = leads_read c.direct_first.new.first.lead [] c.direct_first.new.first.place.seat.me c.is_halted.new.place.seat.me (word_at (c.args.self.now.table.many + 1)) found.0 c.in_ok-direct_first.ensures.leads found.1;
      many = c.in_ok-moved.ensures.many ∙ c.loop.invariant.many;
      tables = c.in_ok-moved.ensures.tables;
      seats = subst (λ (n : ℕ). AllFrom (λ a seat. IsSeatOf g.M.SavingMachine.represents (suc n) c.args.self.now.table.table.shared.key.about.done.value.items a seat.member seat.place.seat.me seat.before) 0 c.turns.new.seats.items) c.loop.invariant.many c.in_ok-moved.ensures.seats;
    }

pub returns-then-is_halted-clause-leads : goal.returns-then-is_halted-clause-leads
returns-then-is_halted-clause-leads g c =
    let found = c.is_halted.ensures.found in
    leads_read c.direct_first.new.first.lead [] c.direct_first.new.first.place.seat.me c.is_halted.new.place.seat.me (word_at (c.args.self.now.table.many + 1)) found.0 c.in_ok-direct_first.ensures.leads found.1
