use Rattle.std.proofs.Common.{[], ap, refl, subst, sym, ◌∙◌, ℕ}
use Rattle.link_tables.proofs.Seeing.{seen_changed, seen_one, seen_sees, sees_one}
use Rattle.link_tables.proofs.Standing.{rests_changed}
use Rattle.link_tables.specs.Seats.{saw, word_at}
use Rattle.wire_board.proofs.Places.{at_err, sits_changed, sits_read}
use Rattle.wire_board.proofs.Ruling.{draws_at_once}
use Rattle.wire_board.proofs.Seating.{come_updated_at_once}
use Rattle.wire_board.specs.Freeing.{IsFree}
use Rattle.wire_board.specs.Openings.{standing_parts}
use Rattle.wire_board.specs.Seats.{Member, Node}
use Rattle.wire_board.specs.Standings.{owing_at_once}
use Rattle.wire_board.proofs.boards.Board.draw_at_once.Goals as goal

pub draw-won-requires-clause-rests : goal.draw-won-requires-clause-rests
draw-won-requires-clause-rests g c =
    let represents = g.M.SavingMachine.represents in
    let s = c.requires.sits in
    let about = c.args.self.now.table.table.shared.key.about in (
      Node (owing_at_once c.args.member.now c.args.v c.args.ticket),
      Node s.was,
      [],
      refl,
      s.rests,
      s.number,
      draws_at_once represents about.failures.value.items about.done.value.items (standing_parts about.machines about.opening.value) about.machines s.was c.args.member.now s.number s.peers s.come
          (subst (λ (k : ℕ). IsFree represents about.failures.value.items about.done.value.items c.args.member.now.machine k) s.number c.requires.free) c.args.ticket c.args.v c.requires.can,
    )

pub returns-then-not-won-clause-sits : goal.returns-then-not-won-clause-sits
returns-then-not-won-clause-sits g c =
    let s = c.requires.sits in
    let late = c.draw-won.ensures.late c.if-not-won.true in
    sits_read g.M.SavingMachine.represents c.args.member.now c.args.place.now.seat.me c.draw-won.new.place.seat.me (word_at c.args.self.now.table.many) late.0 s
    (late.2 ∙ (λ i. (saw c.args.place.now.seat.me.0 (word_at c.args.self.now.table.many) late.0, sym s.rests.slots i)))

pub returns-then-not-won-clause-late : goal.returns-then-not-won-clause-late
returns-then-not-won-clause-late g c = λ is. let late = c.draw-won.ensures.late c.if-not-won.true in (refl, late.0, late.1, seen_one c.args.place.now.seat.me c.draw-won.new.place.seat.me _ (ap (λ me. me.0.seen) late.2))

pub returns-in_err-update_now-clause-owes : goal.returns-in_err-update_now-clause-owes
returns-in_err-update_now-clause-owes g c =
    let s = c.requires.sits in
    let owed = owing_at_once c.args.member.now c.args.v c.args.ticket in
    at_err c.from_residual.result (
      c.in_err-update_now.ensures.unchanged,
      rests_changed c.args.place.now.seat.me c.draw-won.new.place.seat.me (Node s.was) (Node owed) [] _ s.rests (c.draw-won.ensures.drawn c.if-not-won.false (Node owed) refl),
    )

pub returns-clause-sits : goal.returns-clause-sits
returns-clause-sits g c =
    let represents = g.M.SavingMachine.represents in
    let s = c.requires.sits in
    let member = c.args.member.now in
    let made : Member g.row.M.Denot = record { number = member.number; peers = member.peers; machine = c.update_now.new.self } in
    let owed = owing_at_once member c.args.v c.args.ticket in
    sits_changed represents made c.args.place.now.seat.me c.draw-won.new.place.seat.me (Node s.was) owed _ s.rests (c.draw-won.ensures.drawn c.if-not-won.false (Node owed) refl) refl refl
    (come_updated_at_once represents member c.args.v c.args.ticket made.machine c.in_ok-update_now.ensures.updated)

pub returns-clause-made : goal.returns-clause-made
returns-clause-made g c =
    λ is.
    (c.in_ok-update_now.ensures.updated, seen_changed c.args.place.now.seat.me c.draw-won.new.place.seat.me (Node (owing_at_once c.args.member.now c.args.v c.args.ticket)) _ _ (c.draw-won.ensures.drawn c.if-not-won.false (Node (owing_at_once c.args.member.now c.args.v c.args.ticket)) refl))

pub returns-then-not-won-clause-sees : goal.returns-then-not-won-clause-sees
returns-then-not-won-clause-sees g c = sees_one c.args.place.now.seat.me c.draw-won.new.place.seat.me _ (ap (λ me. me.0.seen) (c.draw-won.ensures.late c.if-not-won.true).2)

pub returns-clause-sees : goal.returns-clause-sees
returns-clause-sees g c =
    let won = seen_changed c.args.place.now.seat.me c.draw-won.new.place.seat.me (Node (owing_at_once c.args.member.now c.args.v c.args.ticket)) _ _ (c.draw-won.ensures.drawn c.if-not-won.false (Node (owing_at_once c.args.member.now c.args.v c.args.ticket)) refl) in
    seen_sees c.args.place.now.seat.me c.draw-won.new.place.seat.me _ won

pub returns-in_err-update_now-clause-sees : goal.returns-in_err-update_now-clause-sees
returns-in_err-update_now-clause-sees g c =
    let won = seen_changed c.args.place.now.seat.me c.draw-won.new.place.seat.me (Node (owing_at_once c.args.member.now c.args.v c.args.ticket)) _ _ (c.draw-won.ensures.drawn c.if-not-won.false (Node (owing_at_once c.args.member.now c.args.v c.args.ticket)) refl) in
    seen_sees c.args.place.now.seat.me c.draw-won.new.place.seat.me _ won
