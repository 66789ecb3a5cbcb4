use Rattle.std.proofs.Common.{ap, arith, refl, subst, suc, sym, ◌-◌, ◌≡◌, ℕ}
use Rattle.link_tables.proofs.Seeing.{sees_same, sees_then}
use Rattle.link_tables.specs.Rule.{CarriesLink}
use Rattle.wire_board.proofs.Places.{holds_now, queue_is}
use Rattle.wire_board.proofs.Ruling.{carries_report}
use Rattle.wire_board.specs.Hearing.{HasToldFirst}
use Rattle.wire_board.specs.Led.{HasBeenLed, LinkView, number_of}
use Rattle.wire_board.specs.Openings.{standing_parts}
use Rattle.wire_board.specs.Seats.{Member, Node, at_rest}
use Rattle.wire_board.specs.Sights.{FoundWord}
use Rattle.wire_board.proofs.boards.Board.tell_report.Goals as goal

pub returns-then-not-take_home-clause-sits : goal.returns-then-not-take_home-clause-sits
returns-then-not-take_home-clause-sits g c = c.take_home.ensures.missed c.if-not-take_home.true

pub give_back-requires-clause-holds : goal.give_back-requires-clause-holds
give_back-requires-clause-holds g c =
    let represents = g.M.SavingMachine.represents in
    let about = c.args.self.now.table.table.shared.key.about in
    let member = c.args.member.now in
    let t = c.take_home.ensures.taken c.if-not-take_home.false in
    let is : t.queue ≡ c.exchange-queue.result = queue_is represents member c.take_home.new.place.seat.me c.exchange-queue.new.place.seat.me c.link-link.result _ c.exchange-queue.result t c.exchange-queue.ensures.now c.exchange-queue.ensures.was in
    let after : Member g.row.M.Denot = record { number = member.number; peers = member.peers; machine = c.tell_first-told.new.machine } in
    let inside = c.requires.inside in
    let last : suc (member.peers - 1) ≡ member.peers = omega arith in (
      member,
      t.queue,
      _,
      holds_now represents member c.take_home.new.place.seat.me c.exchange-queue.new.place.seat.me c.link-link.result _ c.exchange-queue.result t c.exchange-queue.ensures.now c.exchange-queue.ensures.was,
      refl,
      subst (λ (i : ℕ). CarriesLink number_of (HasBeenLed represents about.failures.value.items about.done.value.items (standing_parts about.machines about.opening.value) about.machines) i (Node (at_rest member)) t.queue (Node (at_rest after)) c.tell_first-told.new.queue) (sym c.link-link.ensures.number)
          (carries_report represents about.failures.value.items about.done.value.items (standing_parts about.machines about.opening.value) about.machines member after refl refl t.queue c.tell_first-told.new.queue (member.peers - 1) last
          (subst (λ (l : LinkView). HasToldFirst represents member.machine l.messages c.tell_first-told.new.queue.messages after.machine) (sym is) c.tell_first-told.ensures.both)),
    )

pub returns-then-not-has_report-clause-sees : goal.returns-then-not-has_report-clause-sees
returns-then-not-has_report-clause-sees g c = sees_same c.args.place.now.seat.me c.args.place.now.seat.me refl

pub returns-then-not-take_home-clause-sees : goal.returns-then-not-take_home-clause-sees
returns-then-not-take_home-clause-sees g c = c.take_home.ensures.sees

pub returns-then-not-take_home-clause-busy : goal.returns-then-not-take_home-clause-busy
returns-then-not-take_home-clause-busy g c =
    λ same.
    let f = c.take_home.ensures.found c.if-not-take_home.true in
    (refl, f.0, f.1, subst (λ (i : ℕ). FoundWord c.args.place.now.seat.me c.take_home.new.place.seat.me i f.0) c.link-link.ensures.number f.2)

pub returns-in_err-told-clause-sees : goal.returns-in_err-told-clause-sees
returns-in_err-told-clause-sees g c =
    let old = c.args.place.now.seat.me in
    let taken = c.take_home.new.place.seat.me in
    let out = c.exchange-queue.new.place.seat.me in
    let new = c.give_back.new.place.seat.me in
    sees_then old taken new c.take_home.ensures.sees (sees_then taken out new (sees_same taken out (ap (λ me. me.0.seen) c.exchange-queue.ensures.now)) c.give_back.ensures.sees)

pub returns-then-branch-clause-sees : goal.returns-then-branch-clause-sees
returns-then-branch-clause-sees g c =
    let old = c.args.place.now.seat.me in
    let taken = c.take_home.new.place.seat.me in
    let out = c.exchange-queue.new.place.seat.me in
    let new = c.give_back.new.place.seat.me in
    sees_then old taken new c.take_home.ensures.sees (sees_then taken out new (sees_same taken out (ap (λ me. me.0.seen) c.exchange-queue.ensures.now)) c.give_back.ensures.sees)

pub returns-else-branch-clause-sees : goal.returns-else-branch-clause-sees
returns-else-branch-clause-sees g c =
    let old = c.args.place.now.seat.me in
    let taken = c.take_home.new.place.seat.me in
    let out = c.exchange-queue.new.place.seat.me in
    let new = c.give_back.new.place.seat.me in
    sees_then old taken new c.take_home.ensures.sees (sees_then taken out new (sees_same taken out (ap (λ me. me.0.seen) c.exchange-queue.ensures.now)) c.give_back.ensures.sees)
