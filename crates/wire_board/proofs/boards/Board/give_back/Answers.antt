use Rattle.std.proofs.Common.{[], ap, refl}
use Rattle.link_tables.proofs.Standing.{holds_another}
use Rattle.link_tables.proofs.Seeing.{seen_given, sees_one, sees_same, sees_then, then_seen}
use Rattle.wire_board.proofs.Places.{sits_given}
use Rattle.wire_board.specs.Seats.{Node, at_rest}
use Rattle.wire_board.proofs.boards.Board.give_back.Goals as goal

pub give-requires-clause-holds : goal.give-requires-clause-holds
give-requires-clause-holds g c =
    let h = c.requires.holds in (
      Node (at_rest c.args.member.now),
      Node (at_rest h.0),
      [],
      h.1,
      c.args.queue,
      refl,
      holds_another c.args.place.now.seat.me c.exchange.new.place.seat.me (Node (at_rest h.0)) [] c.args.link h.1 h.2 c.args.queue h.3 c.exchange.ensures.now,
      c.word_of-word.ensures.none,
      h.4,
      h.5,
    )

pub returns-clause-sits : goal.returns-clause-sits
returns-clause-sits g c =
    let h = c.requires.holds in
    sits_given g.M.SavingMachine.represents c.args.member.now c.exchange.new.place.seat.me c.give.new.place.seat.me (Node (at_rest h.0)) c.args.link h.1 c.args.queue _
    (holds_another c.args.place.now.seat.me c.exchange.new.place.seat.me (Node (at_rest h.0)) [] c.args.link h.1 h.2 c.args.queue h.3 c.exchange.ensures.now)
    (c.give.ensures.given (Node (at_rest c.args.member.now)) refl)

pub returns-clause-gave : goal.returns-clause-gave
returns-clause-gave g c = λ old q r h.
    let given = holds_another c.args.place.now.seat.me c.exchange.new.place.seat.me (Node (at_rest old)) [] c.args.link q r c.args.queue h c.exchange.ensures.now in (
      _,
      then_seen c.args.place.now.seat.me c.exchange.new.place.seat.me c.give.new.place.seat.me _
          (sees_same c.args.place.now.seat.me c.exchange.new.place.seat.me (ap (λ me. me.0.seen) c.exchange.ensures.now))
          (seen_given c.exchange.new.place.seat.me c.give.new.place.seat.me (Node (at_rest c.args.member.now)) _ _ c.args.link q (c.give.ensures.given (Node (at_rest c.args.member.now)) refl) given.link),
    )

pub returns-clause-sees : goal.returns-clause-sees
returns-clause-sees g c =
    let out = c.exchange.new.place.seat.me in
    sees_then c.args.place.now.seat.me out c.give.new.place.seat.me (sees_same c.args.place.now.seat.me out (ap (λ me. me.0.seen) c.exchange.ensures.now))
    (sees_one out c.give.new.place.seat.me _ (ap (λ me. me.0.seen) (c.give.ensures.given (Node (at_rest c.args.member.now)) refl)))
