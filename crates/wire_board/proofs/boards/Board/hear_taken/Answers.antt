use Rattle.std.proofs.Common.{List, [], ap, append-nil, length, refl, subst, sym, ◌++◌, ◌∙◌, ◌≡◌, ℕ}
use Rattle.link_tables.specs.Rule.{CarriesLink}
use Rattle.coordinator.specs.machine_api.Promises.{MessageView}
use Rattle.link_tables.proofs.Seeing.{sees_same, sees_then}
use Rattle.wire_board.proofs.HearingOn.{none_heard}
use Rattle.wire_board.proofs.Places.{holds_now, no_length, not_empty, queue_is}
use Rattle.wire_board.proofs.Ruling.{carries_heard}
use Rattle.wire_board.proofs.Sighting.{then_had}
use Rattle.wire_board.specs.Hearing.{CanHear, HasHeardAll}
use Rattle.wire_board.specs.Led.{HasBeenLed, LinkView, number_of}
use Rattle.wire_board.specs.Openings.{standing_parts}
use Rattle.wire_board.specs.Seats.{Member, Node, at_rest}
use Rattle.wire_board.proofs.boards.Board.hear_taken.Goals as goal

pub give_back-requires-clause-holds : goal.give_back-requires-clause-holds
give_back-requires-clause-holds g c =
    let represents = g.M.SavingMachine.represents in
    let about = c.args.self.now.table.table.shared.key.about in
    let member = c.args.member.now in
    let t = c.requires.holds in
    let is : t.queue ≡ c.exchange-queue.result = queue_is represents member c.args.place.now.seat.me c.exchange-queue.new.place.seat.me c.args.link _ c.exchange-queue.result t c.exchange-queue.ensures.now c.exchange-queue.ensures.was in (
      member,
      t.queue,
      _,
      holds_now represents member c.args.place.now.seat.me c.exchange-queue.new.place.seat.me c.args.link _ c.exchange-queue.result t c.exchange-queue.ensures.now c.exchange-queue.ensures.was,
      refl,
      subst (λ (i : ℕ). CarriesLink number_of (HasBeenLed represents about.failures.value.items about.done.value.items (standing_parts about.machines about.opening.value) about.machines) i (Node (at_rest member)) t.queue (Node (at_rest member)) c.exchange-queue.result) (sym c.requires.link.1)
          (carries_heard represents about.failures.value.items about.done.value.items (standing_parts about.machines about.opening.value) about.machines member member refl refl t.queue c.exchange-queue.result c.args.from.0 c.requires.link.2 []
          (ap (λ (l : LinkView). l.messages) is) (none_heard represents c.args.from.0 member.number member.machine c.exchange-queue.result.messages)),
    )

pub hear_all-heard-requires : goal.hear_all-heard-requires
hear_all-heard-requires g c =
    let represents = g.M.SavingMachine.represents in
    let member = c.args.member.now in
    let t = c.requires.holds in
    let is : t.queue ≡ c.exchange-queue.result = queue_is represents member c.args.place.now.seat.me c.exchange-queue.new.place.seat.me c.args.link _ c.exchange-queue.result t c.exchange-queue.ensures.now c.exchange-queue.ensures.was in
    subst (λ (l : LinkView). CanHear represents member.machine c.args.from.0 member.number l.messages) is (t.learns.0 c.args.from.0 c.requires.link.2 c.requires.link.1)

pub give_back-requires-2-clause-holds : goal.give_back-requires-2-clause-holds
give_back-requires-2-clause-holds g c =
    let represents = g.M.SavingMachine.represents in
    let about = c.args.self.now.table.table.shared.key.about in
    let member = c.args.member.now in
    let t = c.requires.holds in
    let is : t.queue ≡ c.exchange-queue.result = queue_is represents member c.args.place.now.seat.me c.exchange-queue.new.place.seat.me c.args.link _ c.exchange-queue.result t c.exchange-queue.ensures.now c.exchange-queue.ensures.was in
    let heard = c.hear_all-heard.ensures.heard in
    let after : Member g.row.M.Denot = record { number = member.number; peers = member.peers; machine = c.hear_all-heard.new.machine } in (
      member,
      t.queue,
      _,
      holds_now represents member c.args.place.now.seat.me c.exchange-queue.new.place.seat.me c.args.link _ c.exchange-queue.result t c.exchange-queue.ensures.now c.exchange-queue.ensures.was,
      refl,
      subst (λ (i : ℕ). CarriesLink number_of (HasBeenLed represents about.failures.value.items about.done.value.items (standing_parts about.machines about.opening.value) about.machines) i (Node (at_rest member)) t.queue (Node (at_rest after)) c.hear_all-heard.new.queue) (sym c.requires.link.1)
          (carries_heard represents about.failures.value.items about.done.value.items (standing_parts about.machines about.opening.value) about.machines member after refl refl t.queue c.hear_all-heard.new.queue c.args.from.0 c.requires.link.2 heard.0
          (ap (λ (l : LinkView). l.messages) is ∙ heard.1) heard.2),
    )

pub returns-clause-applied : goal.returns-clause-applied
returns-clause-applied g c =
    λ same.
    let represents = g.M.SavingMachine.represents in
    let member = c.args.member.now in
    let heard = c.hear_all-heard.ensures.heard in
    let whole : c.hear_all-heard.new.queue.messages ≡ [] = c.in_ok-heard.ensures.whole in
    let all : c.exchange-queue.result.messages ≡ heard.0 ++ [] = heard.1 ∙ ap (λ (ms : List MessageView). heard.0 ++ ms) whole in
    let t = c.requires.holds in
    let is : t.queue ≡ c.exchange-queue.result = queue_is represents member c.args.place.now.seat.me c.exchange-queue.new.place.seat.me c.args.link _ c.exchange-queue.result t c.exchange-queue.ensures.now c.exchange-queue.ensures.was in
    let messages : t.queue.messages ≡ heard.0 = ap (λ (l : LinkView). l.messages) is ∙ all ∙ append-nil heard.0 in (
      heard.0,
      not_empty c.exchange-queue.result.messages heard.0 (sym c.is_empty.ensures ∙ c.if-is_empty.false) all,
      subst (λ (ms : List MessageView). CanHear represents member.machine c.args.from.0 member.number ms) messages (t.learns.0 c.args.from.0 c.requires.link.2 c.requires.link.1),
      subst (λ (ms : List MessageView). HasHeardAll represents member.machine c.args.from.0 member.number heard.0 ms c.hear_all-heard.new.machine) whole heard.2,
      t.queue,
      messages,
      then_had c.args.place.now.seat.me c.exchange-queue.new.place.seat.me c.give_back-2.new.place.seat.me c.args.link t.queue
          (sees_same c.args.place.now.seat.me c.exchange-queue.new.place.seat.me (ap (λ me. me.0.seen) c.exchange-queue.ensures.now))
          (c.give_back-2.ensures.gave member t.queue _
          (holds_now represents member c.args.place.now.seat.me c.exchange-queue.new.place.seat.me c.args.link _ c.exchange-queue.result t c.exchange-queue.ensures.now c.exchange-queue.ensures.was)),
    )

pub returns-then-is_empty-clause-empty : goal.returns-then-is_empty-clause-empty
returns-then-is_empty-clause-empty g c =
    λ same.
    let represents = g.M.SavingMachine.represents in
    let member = c.args.member.now in
    let t = c.requires.holds in
    let is : t.queue ≡ c.exchange-queue.result = queue_is represents member c.args.place.now.seat.me c.exchange-queue.new.place.seat.me c.args.link _ c.exchange-queue.result t c.exchange-queue.ensures.now c.exchange-queue.ensures.was in (
      refl,
      t.queue,
      ap (λ (l : LinkView). length l.messages) is ∙ no_length c.exchange-queue.result.messages (sym c.is_empty.ensures ∙ c.if-is_empty.true),
      then_had c.args.place.now.seat.me c.exchange-queue.new.place.seat.me c.give_back.new.place.seat.me c.args.link t.queue
          (sees_same c.args.place.now.seat.me c.exchange-queue.new.place.seat.me (ap (λ me. me.0.seen) c.exchange-queue.ensures.now))
          (c.give_back.ensures.gave member t.queue _
          (holds_now represents member c.args.place.now.seat.me c.exchange-queue.new.place.seat.me c.args.link _ c.exchange-queue.result t c.exchange-queue.ensures.now c.exchange-queue.ensures.was)),
    )

pub returns-then-is_empty-clause-sees : goal.returns-then-is_empty-clause-sees
returns-then-is_empty-clause-sees g c =
    sees_then c.args.place.now.seat.me c.exchange-queue.new.place.seat.me c.give_back.new.place.seat.me
    (sees_same c.args.place.now.seat.me c.exchange-queue.new.place.seat.me (ap (λ me. me.0.seen) c.exchange-queue.ensures.now)) c.give_back.ensures.sees

pub returns-clause-sees : goal.returns-clause-sees
returns-clause-sees g c =
    sees_then c.args.place.now.seat.me c.exchange-queue.new.place.seat.me c.give_back-2.new.place.seat.me
    (sees_same c.args.place.now.seat.me c.exchange-queue.new.place.seat.me (ap (λ me. me.0.seen) c.exchange-queue.ensures.now)) c.give_back-2.ensures.sees

pub returns-in_err-heard-clause-sees : goal.returns-in_err-heard-clause-sees
returns-in_err-heard-clause-sees g c =
    sees_then c.args.place.now.seat.me c.exchange-queue.new.place.seat.me c.give_back-2.new.place.seat.me
    (sees_same c.args.place.now.seat.me c.exchange-queue.new.place.seat.me (ap (λ me. me.0.seen) c.exchange-queue.ensures.now)) c.give_back-2.ensures.sees
