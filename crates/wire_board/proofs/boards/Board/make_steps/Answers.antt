use Rattle.std.proofs.Common.{length, refl, subst, suc, sym, ◌∙◌, ℕ}
use Rattle.wire_board.proofs.Steppings.{stepped_none, stepped_on}
use Rattle.wire_board.specs.Attempts.{AllFrom, IsSeatOf}
use Rattle.wire_board.specs.Directing.{HasDirectedIf}
use Rattle.wire_board.specs.Stepping.{HasMadeByOne, machines_at}
use Rattle.wire_board.proofs.boards.Board.make_steps.Goals as goal

pub step_at-requires-clause-seats : goal.step_at-requires-clause-seats
step_at-requires-clause-seats g c =
    subst (λ (n : ℕ). AllFrom (λ a seat. IsSeatOf g.M.SavingMachine.represents (suc n) c.args.self.now.table.table.shared.key.about.done.value.items a seat.member seat.place.seat.me seat.before) 0 c.loop-step.seats.items) (sym c.loop-step.invariant.many) c.loop-step.invariant.seats

pub loop-step-preserved : goal.loop-step-preserved
loop-step-preserved g c = let i = c.loop-step.invariant in record {
  table = c.in_ok-there.ensures.table;
  number = c.in_ok-there.ensures.number ∙ i.number;
  leads = c.in_ok-there.ensures.leads;
  many = c.in_ok-here.ensures.many ∙ i.many;
  tables = c.in_ok-here.ensures.tables;
  seats = subst (λ (n : ℕ). AllFrom (λ a seat. IsSeatOf g.M.SavingMachine.represents (suc n) c.args.self.now.table.table.shared.key.about.done.value.items a seat.member seat.place.seat.me seat.before) 0 c.step_at.new.seats.items) i.many c.in_ok-here.ensures.seats;
  moved =
      let represents = g.M.SavingMachine.represents in
      let n = length c.args.seats.now.items in
      let at = c.loop-step.seats.items in
      let new = c.step_at.new.seats.items in
      let here = c.loop-step.first in
      let there = c.step_first.new.first in
      let made : HasMadeByOne represents n (machines_at at) (machines_at new) c.in_ok-here.here = subst (λ (k : ℕ). HasMadeByOne represents k (machines_at at) (machines_at new) c.in_ok-here.here) i.many c.in_ok-here.ensures.moved in
      let led : HasDirectedIf n here.lead.coordinator here.place.seat.me there.lead.coordinator there.place.seat.me c.in_ok-there.there =
      subst (λ (k : ℕ). HasDirectedIf k here.lead.coordinator here.place.seat.me there.lead.coordinator there.place.seat.me c.in_ok-there.there) (i.number ∙ c.requires.first.1) c.in_ok-there.ensures.led
      in
      stepped_on represents n (machines_at c.args.seats.now.items) (machines_at at) (machines_at new) c.args.first.now.lead.coordinator here.lead.coordinator there.lead.coordinator here.place.seat.me there.place.seat.me
      c.loop-step.moved c.in_ok-here.here c.in_ok-there.there c.either-moved.result i.moved made led c.either-moved.ensures.some c.either-moved.ensures.none;
}

pub loop-step-init : goal.loop-step-init
loop-step-init g c = record {
  table = c.requires.first.0;
  number = refl;
  leads = c.requires.leads;
  many = refl;
  tables = c.requires.tables;
  seats = c.requires.seats;
  moved = stepped_none g.M.SavingMachine.represents (length c.args.seats.now.items) (machines_at c.args.seats.now.items) c.args.first.now.lead.coordinator;
}
