use Rattle.std.proofs.Common.{[], ap, refl, ⊎_elim, ◌≡◌, ◌≢◌}
use Rattle.wire_board.proofs.Places.{has_taken, sits_read, word_cases}
use Rattle.wire_board.proofs.Ruling.{carries, learnt}
use Rattle.wire_board.specs.Openings.{standing_parts}
use Rattle.wire_board.specs.Seats.{Node, at_rest}
use Rattle.wire_board.proofs.boards.Board.take.Goals as goal

pub take-requires-clause-rests : goal.take-requires-clause-rests
take-requires-clause-rests g c =
    let s = c.requires.sits in
    let about = c.args.self.now.table.table.shared.key.about in
    let represents = g.M.SavingMachine.represents in (
      Node (at_rest c.args.member.now),
      Node s.was,
      [],
      refl,
      s.rests,
      s.number,
      carries represents about.failures.value.items about.done.value.items (standing_parts about.machines about.opening.value) about.machines s.was c.args.member.now s.number s.peers s.come,
      learnt represents about.failures.value.items about.done.value.items (standing_parts about.machines about.opening.value) about.machines c.args.member.now c.args.link,
    )

pub returns-clause-taken : goal.returns-clause-taken
returns-clause-taken g c =
    λ same.
    let t = c.take.ensures.taken same (Node (at_rest c.args.member.now)) refl in
    has_taken g.M.SavingMachine.represents c.args.member.now c.args.place.now.seat.me c.take.new.place.seat.me (Node c.requires.sits.was) c.args.link t.0 _ c.requires.sits.rests t.1 t.2

pub returns-clause-missed : goal.returns-clause-missed
returns-clause-missed g c = λ off. sits_read g.M.SavingMachine.represents c.args.member.now c.args.place.now.seat.me c.take.new.place.seat.me _ _ c.requires.sits (c.take.ensures.missed off)

pub returns-clause-found : goal.returns-clause-found
returns-clause-found g c =
    ⊎_elim
    (λ (same : c.take.result ≡ c.args.expected). ap (λ me. me.0.seen) (c.take.ensures.taken same (Node (at_rest c.args.member.now)) refl).1)
    (λ (off : c.take.result ≢ c.args.expected). ap (λ me. me.0.seen) (c.take.ensures.missed off))
    (word_cases c.take.result c.args.expected)
