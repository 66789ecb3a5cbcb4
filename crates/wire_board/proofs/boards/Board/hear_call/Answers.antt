use Rattle.std.proofs.Common.{ap, arith, inl, inr, refl, subst, suc, sym, ◌-◌, ◌∙◌, ◌≡◌, ℕ}
use Rattle.link_tables.proofs.Seeing.{sees_same, sees_then}
use Rattle.link_tables.specs.Rule.{CarriesLink}
use Rattle.link_tables.specs.declared.words.LinkWord.TheVariants.{Bare, Out}
use Rattle.link_tables.specs.declared.words.LinkWord.{LinkWord}
use Rattle.wire_board.proofs.Places.{holds_now, queue_is}
use Rattle.wire_board.proofs.Ruling.{carries_call}
use Rattle.wire_board.proofs.Sighting.{bare_then, looked_sees, looked_then, then_had}
use Rattle.wire_board.specs.Hearing.{HasHeardFirst, MayHearFirst}
use Rattle.wire_board.specs.Led.{HasBeenLed, LinkView, number_of}
use Rattle.wire_board.specs.Openings.{standing_parts}
use Rattle.wire_board.specs.Seats.{Member, Node, at_rest}
use Rattle.wire_board.specs.Sights.{FoundWord, HadQueue, HasLooked}
use Rattle.wire_board.proofs.boards.Board.hear_call.Goals as goal

pub returns-in-Bare-clause-sits : goal.returns-in-Bare-clause-sits
returns-in-Bare-clause-sits g c = let is = c.in-Bare.is in c.take_laden.ensures.missed (λ e. cc)

pub returns-in-Out-clause-sits : goal.returns-in-Out-clause-sits
returns-in-Out-clause-sits g c = let is = c.in-Out.is in c.take_laden.ensures.missed (λ e. cc)

pub hear_first-heard-requires : goal.hear_first-heard-requires
hear_first-heard-requires g c =
    let represents = g.M.SavingMachine.represents in
    let member = c.args.member.now in
    let t = c.take_laden.ensures.taken c.in-Laden.is in
    let is : t.queue ≡ c.exchange-queue.result = queue_is represents member c.take_laden.new.place.seat.me c.exchange-queue.new.place.seat.me c.link-link.result _ c.exchange-queue.result t c.exchange-queue.ensures.now c.exchange-queue.ensures.was in
    let inside = c.requires.inside in
    let last : suc (member.peers - 1) ≡ member.peers = omega arith in
    subst (λ (l : LinkView). MayHearFirst represents member.machine l.messages) is (t.learns.1 (member.peers - 1) last c.link-link.ensures.number)

pub give_back-requires-clause-holds : goal.give_back-requires-clause-holds
give_back-requires-clause-holds g c =
    let represents = g.M.SavingMachine.represents in
    let about = c.args.self.now.table.table.shared.key.about in
    let member = c.args.member.now in
    let t = c.take_laden.ensures.taken c.in-Laden.is in
    let is : t.queue ≡ c.exchange-queue.result = queue_is represents member c.take_laden.new.place.seat.me c.exchange-queue.new.place.seat.me c.link-link.result _ c.exchange-queue.result t c.exchange-queue.ensures.now c.exchange-queue.ensures.was in
    let after : Member g.row.M.Denot = record { number = member.number; peers = member.peers; machine = c.hear_first-heard.new.machine } in
    let inside = c.requires.inside in
    let last : suc (member.peers - 1) ≡ member.peers = omega arith in (
      member,
      t.queue,
      _,
      holds_now represents member c.take_laden.new.place.seat.me c.exchange-queue.new.place.seat.me c.link-link.result _ c.exchange-queue.result t c.exchange-queue.ensures.now c.exchange-queue.ensures.was,
      refl,
      subst (λ (i : ℕ). CarriesLink number_of (HasBeenLed represents about.failures.value.items about.done.value.items (standing_parts about.machines about.opening.value) about.machines) i (Node (at_rest member)) t.queue (Node (at_rest after)) c.hear_first-heard.new.queue) (sym c.link-link.ensures.number)
          (carries_call represents about.failures.value.items about.done.value.items (standing_parts about.machines about.opening.value) about.machines member after refl refl t.queue c.hear_first-heard.new.queue (member.peers - 1) last
          (subst (λ (l : LinkView). HasHeardFirst represents member.machine l.messages c.hear_first-heard.new.queue.messages after.machine) (sym is) c.hear_first-heard.ensures.both) c.requires.free),
    )

pub returns-then-branch-clause-applied : goal.returns-then-branch-clause-applied
returns-then-branch-clause-applied g c =
    λ same.
    let represents = g.M.SavingMachine.represents in
    let member = c.args.member.now in
    let t = c.take_laden.ensures.taken c.in-Laden.is in
    let is : t.queue ≡ c.exchange-queue.result = queue_is represents member c.take_laden.new.place.seat.me c.exchange-queue.new.place.seat.me c.link-link.result _ c.exchange-queue.result t c.exchange-queue.ensures.now c.exchange-queue.ensures.was in
    let inside = c.requires.inside in
    let last : suc (member.peers - 1) ≡ member.peers = omega arith in
    let heard = c.in_ok-heard.ensures.heard c.if-branch.true in
    (heard.0, t.learns.1 (member.peers - 1) last c.link-link.ensures.number heard.0 c.hear_first-heard.new.queue.messages (ap (λ (l : LinkView). l.messages) is ∙ heard.1), heard.2)

pub returns-in-Bare-clause-empty : goal.returns-in-Bare-clause-empty
returns-in-Bare-clause-empty g c =
    λ same.
    let old = c.args.place.now.seat.me in
    let new = c.take_laden.new.place.seat.me in
    (refl, inl (subst (λ (i : ℕ). FoundWord old new i Bare) c.link-link.ensures.number (subst (λ (w : LinkWord). FoundWord old new c.link-link.result w) c.in-Bare.is c.take_laden.ensures.found)))

pub returns-in-Out-clause-busy : goal.returns-in-Out-clause-busy
returns-in-Out-clause-busy g c =
    λ same.
    let old = c.args.place.now.seat.me in
    let new = c.take_laden.new.place.seat.me in
    (refl, subst (λ (i : ℕ). FoundWord old new i Out) c.link-link.ensures.number (subst (λ (w : LinkWord). FoundWord old new c.link-link.result w) c.in-Out.is c.take_laden.ensures.found))

pub returns-in-Bare-clause-looked : goal.returns-in-Bare-clause-looked
returns-in-Bare-clause-looked g c = subst (λ (i : ℕ). HasLooked c.args.place.now.seat.me c.take_laden.new.place.seat.me i) c.link-link.ensures.number (_, c.take_laden.ensures.found)

pub returns-in-Out-clause-looked : goal.returns-in-Out-clause-looked
returns-in-Out-clause-looked g c = subst (λ (i : ℕ). HasLooked c.args.place.now.seat.me c.take_laden.new.place.seat.me i) c.link-link.ensures.number (_, c.take_laden.ensures.found)

pub returns-else-branch-clause-empty : goal.returns-else-branch-clause-empty
returns-else-branch-clause-empty g c =
    λ same.
    let represents = g.M.SavingMachine.represents in
    let member = c.args.member.now in
    let t = c.take_laden.ensures.taken c.in-Laden.is in
    let old = c.args.place.now.seat.me in
    let taken = c.take_laden.new.place.seat.me in
    let out = c.exchange-queue.new.place.seat.me in
    let new = c.give_back.new.place.seat.me in
    let is : t.queue ≡ c.exchange-queue.result = queue_is represents member taken out c.link-link.result _ c.exchange-queue.result t c.exchange-queue.ensures.now c.exchange-queue.ensures.was in
    let none = c.in_ok-heard.ensures.none c.if-branch.false in
    let sees = sees_then old taken out (looked_sees old taken taken c.link-link.result (_, c.take_laden.ensures.found)) (sees_same taken out (ap (λ me. me.0.seen) c.exchange-queue.ensures.now)) in
    let gave = c.give_back.ensures.gave member t.queue _ (holds_now represents member taken out c.link-link.result _ c.exchange-queue.result t c.exchange-queue.ensures.now c.exchange-queue.ensures.was) in
    (none.0, inr (t.queue, bare_then t.queue c.exchange-queue.result is none.1, subst (λ (i : ℕ). HadQueue old new i t.queue) c.link-link.ensures.number (then_had old out new c.link-link.result t.queue sees gave)))

pub returns-then-branch-clause-looked : goal.returns-then-branch-clause-looked
returns-then-branch-clause-looked g c =
    let old = c.args.place.now.seat.me in
    let taken = c.take_laden.new.place.seat.me in
    let out = c.exchange-queue.new.place.seat.me in
    let new = c.give_back.new.place.seat.me in
    subst (λ (i : ℕ). HasLooked old new i) c.link-link.ensures.number
    (looked_then old taken new c.link-link.result (_, c.take_laden.ensures.found) (sees_then taken out new (sees_same taken out (ap (λ me. me.0.seen) c.exchange-queue.ensures.now)) c.give_back.ensures.sees))

pub returns-else-branch-clause-looked : goal.returns-else-branch-clause-looked
returns-else-branch-clause-looked g c =
    let old = c.args.place.now.seat.me in
    let taken = c.take_laden.new.place.seat.me in
    let out = c.exchange-queue.new.place.seat.me in
    let new = c.give_back.new.place.seat.me in
    subst (λ (i : ℕ). HasLooked old new i) c.link-link.ensures.number
    (looked_then old taken new c.link-link.result (_, c.take_laden.ensures.found) (sees_then taken out new (sees_same taken out (ap (λ me. me.0.seen) c.exchange-queue.ensures.now)) c.give_back.ensures.sees))

pub returns-in_err-heard-clause-looked : goal.returns-in_err-heard-clause-looked
returns-in_err-heard-clause-looked g c =
    let old = c.args.place.now.seat.me in
    let taken = c.take_laden.new.place.seat.me in
    let out = c.exchange-queue.new.place.seat.me in
    let new = c.give_back.new.place.seat.me in
    subst (λ (i : ℕ). HasLooked old new i) c.link-link.ensures.number
    (looked_then old taken new c.link-link.result (_, c.take_laden.ensures.found) (sees_then taken out new (sees_same taken out (ap (λ me. me.0.seen) c.exchange-queue.ensures.now)) c.give_back.ensures.sees))
