use Rattle.std.proofs.Common.{[], ap, refl, subst, sym, ◌∙◌, ℕ}
use Rattle.link_tables.proofs.Seeing.{seen_changed, seen_one, seen_sees, sees_one}
use Rattle.link_tables.proofs.Standing.{rests_changed}
use Rattle.link_tables.specs.Seats.{saw, word_at}
use Rattle.wire_board.proofs.Places.{sits_changed, sits_read}
use Rattle.wire_board.proofs.Ruling.{draws}
use Rattle.wire_board.proofs.Seating.{come_updated}
use Rattle.wire_board.specs.Freeing.{IsFree}
use Rattle.wire_board.specs.Openings.{standing_parts}
use Rattle.wire_board.specs.Seats.{Member, Node}
use Rattle.wire_board.specs.Standings.{owing}
use Rattle.wire_board.proofs.boards.Board.draw.Goals as goal

pub draw-won-requires-clause-rests : goal.draw-won-requires-clause-rests
draw-won-requires-clause-rests g c =
    let represents = g.M.SavingMachine.represents in
    let s = c.requires.sits in
    let about = c.args.self.now.table.table.shared.key.about in (
      Node (owing c.args.member.now c.args.scope c.args.ticket),
      Node s.was,
      [],
      refl,
      s.rests,
      s.number,
      draws represents about.failures.value.items about.done.value.items (standing_parts about.machines about.opening.value) about.machines s.was c.args.member.now s.number s.peers s.come
          (subst (λ (k : ℕ). IsFree represents about.failures.value.items about.done.value.items c.args.member.now.machine k) s.number c.requires.free) c.args.ticket c.args.scope c.requires.can,
    )

pub returns-then-not-won-clause-sits : goal.returns-then-not-won-clause-sits
returns-then-not-won-clause-sits g c =
    let s = c.requires.sits in
    let late = c.draw-won.ensures.late c.if-not-won.true in
    sits_read g.M.SavingMachine.represents c.args.member.now c.args.place.now.seat.me c.draw-won.new.place.seat.me (word_at c.args.self.now.table.many) late.0 s
    (late.2 ∙ (λ i. (saw c.args.place.now.seat.me.0 (word_at c.args.self.now.table.many) late.0, sym s.rests.slots i)))

pub returns-then-not-won-clause-late : goal.returns-then-not-won-clause-late
returns-then-not-won-clause-late g c = λ is. let late = c.draw-won.ensures.late c.if-not-won.true in (refl, late.0, late.1, seen_one c.args.place.now.seat.me c.draw-won.new.place.seat.me _ (ap (λ me. me.0.seen) late.2))

pub returns-in-Ok-clause-sits : goal.returns-in-Ok-clause-sits
returns-in-Ok-clause-sits g c =
    let represents = g.M.SavingMachine.represents in
    let s = c.requires.sits in
    let member = c.args.member.now in
    let made : Member g.row.M.Denot = record { number = member.number; peers = member.peers; machine = c.update.new.self } in
    let owed = owing member c.args.scope c.args.ticket in
    sits_changed represents made c.args.place.now.seat.me c.draw-won.new.place.seat.me (Node s.was) owed _ s.rests (c.draw-won.ensures.drawn c.if-not-won.false (Node owed) refl) refl refl
    (come_updated represents member c.args.scope c.args.ticket made.machine c.in-Ok.ensures.updated)

pub returns-in-Ok-clause-made : goal.returns-in-Ok-clause-made
returns-in-Ok-clause-made g c =
    λ is.
    (c.in-Ok.ensures.updated, seen_changed c.args.place.now.seat.me c.draw-won.new.place.seat.me (Node (owing c.args.member.now c.args.scope c.args.ticket)) _ _ (c.draw-won.ensures.drawn c.if-not-won.false (Node (owing c.args.member.now c.args.scope c.args.ticket)) refl))

pub returns-in-Err-clause-owes : goal.returns-in-Err-clause-owes
returns-in-Err-clause-owes g c =
    let s = c.requires.sits in
    let owed = owing c.args.member.now c.args.scope c.args.ticket in (
      c.in-Err.ensures.unchanged,
      rests_changed c.args.place.now.seat.me c.draw-won.new.place.seat.me (Node s.was) (Node owed) [] _ s.rests (c.draw-won.ensures.drawn c.if-not-won.false (Node owed) refl),
    )

pub returns-then-not-won-clause-sees : goal.returns-then-not-won-clause-sees
returns-then-not-won-clause-sees g c = sees_one c.args.place.now.seat.me c.draw-won.new.place.seat.me _ (ap (λ me. me.0.seen) (c.draw-won.ensures.late c.if-not-won.true).2)

pub returns-in-Ok-clause-sees : goal.returns-in-Ok-clause-sees
returns-in-Ok-clause-sees g c =
    let won = seen_changed c.args.place.now.seat.me c.draw-won.new.place.seat.me (Node (owing c.args.member.now c.args.scope c.args.ticket)) _ _ (c.draw-won.ensures.drawn c.if-not-won.false (Node (owing c.args.member.now c.args.scope c.args.ticket)) refl) in
    seen_sees c.args.place.now.seat.me c.draw-won.new.place.seat.me _ won

pub returns-in-Err-clause-sees : goal.returns-in-Err-clause-sees
returns-in-Err-clause-sees g c =
    let won = seen_changed c.args.place.now.seat.me c.draw-won.new.place.seat.me (Node (owing c.args.member.now c.args.scope c.args.ticket)) _ _ (c.draw-won.ensures.drawn c.if-not-won.false (Node (owing c.args.member.now c.args.scope c.args.ticket)) refl) in
    seen_sees c.args.place.now.seat.me c.draw-won.new.place.seat.me _ won
