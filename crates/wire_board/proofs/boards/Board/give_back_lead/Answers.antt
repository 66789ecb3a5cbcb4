use Rattle.std.proofs.Common.{ap, refl}
use Rattle.link_tables.proofs.Standing.{holds_another}
use Rattle.link_tables.proofs.Seeing.{seen_given, sees_one, sees_same, sees_then, then_seen}
use Rattle.wire_board.proofs.LeadPlaces.{leads_given}
use Rattle.wire_board.specs.Led.{Lead}
use Rattle.wire_board.proofs.boards.Board.give_back_lead.Goals as goal

pub give-requires-clause-holds : goal.give-requires-clause-holds
give-requires-clause-holds g c =
    let h = c.requires.holds in (
      Lead c.args.lead.now,
      Lead h.0,
      h.1,
      h.2,
      c.args.queue,
      refl,
      holds_another c.args.place.now.seat.me c.exchange.new.place.seat.me (Lead h.0) h.1 c.args.link h.2 h.3 c.args.queue h.4 c.exchange.ensures.now,
      c.word_of-word.ensures.none,
      h.5,
      h.6,
    )

pub returns-clause-sits : goal.returns-clause-sits
returns-clause-sits g c =
    λ old others q r h.
    leads_given c.args.lead.now others c.exchange.new.place.seat.me c.give.new.place.seat.me (Lead old) c.args.link q c.args.queue _
    (holds_another c.args.place.now.seat.me c.exchange.new.place.seat.me (Lead old) others c.args.link q r c.args.queue h c.exchange.ensures.now)
    (c.give.ensures.given (Lead c.args.lead.now) refl)

pub returns-clause-gave : goal.returns-clause-gave
returns-clause-gave g c = λ old others q r h.
    let given = holds_another c.args.place.now.seat.me c.exchange.new.place.seat.me (Lead old) others c.args.link q r c.args.queue h c.exchange.ensures.now in (
      _,
      then_seen c.args.place.now.seat.me c.exchange.new.place.seat.me c.give.new.place.seat.me _
          (sees_same c.args.place.now.seat.me c.exchange.new.place.seat.me (ap (λ me. me.0.seen) c.exchange.ensures.now))
          (seen_given c.exchange.new.place.seat.me c.give.new.place.seat.me (Lead c.args.lead.now) _ _ c.args.link q (c.give.ensures.given (Lead c.args.lead.now) refl) given.link),
    )

pub returns-clause-sees : goal.returns-clause-sees
returns-clause-sees g c =
    let out = c.exchange.new.place.seat.me in
    sees_then c.args.place.now.seat.me out c.give.new.place.seat.me (sees_same c.args.place.now.seat.me out (ap (λ me. me.0.seen) c.exchange.ensures.now))
    (sees_one out c.give.new.place.seat.me _ (ap (λ me. me.0.seen) (c.give.ensures.given (Lead c.args.lead.now) refl)))
