use Rattle.std.proofs.Common.{add-one, ap, inl, inr, refl, subst, suc, sym, ⊎_elim, ◌∙◌, ◌∷◌, ◌≡◌, ℕ}
use Rattle.coordinator.specs.coord_core.Calls.{HasTakenReport, StaysCoordinator}
use Rattle.coordinator.specs.machine_api.Promises.{message_view}
use Rattle.link_tables.proofs.Seeing.{seen_one, sees_one, sees_same, sees_then}
use Rattle.link_tables.specs.Rule.{CarriesLink}
use Rattle.link_tables.specs.declared.words.LinkWord.{LinkWord}
use Rattle.wire.specs.declared.wire_msgs.messages.Message.{Message}
use Rattle.wire_board.proofs.LeadPlaces.{lead_holds_now, lead_queue_is}
use Rattle.wire_board.proofs.Leads.{carries_no_report, carries_report_heard}
use Rattle.wire_board.specs.Led.{HasBeenLed, Lead, Leading, LinkView, link_no, number_of}
use Rattle.wire_board.proofs.Sighting.{bare_then, looked_then, then_had}
use Rattle.wire_board.specs.Openings.{standing_parts}
use Rattle.wire_board.specs.Sights.{FoundWord, HadQueue, HasLooked}
use Rattle.wire_board.proofs.boards.Board.hear_report.Goals as goal
use Rattle.link_tables.specs.declared.words.LinkWord.TheVariants.{Bare, Out}

pub returns-in-Bare-clause-sits : goal.returns-in-Bare-clause-sits
returns-in-Bare-clause-sits g c = let is = c.in-Bare.is in λ others s. c.take_lead.ensures.missed (λ e. cc) others s

pub returns-in-Out-clause-sits : goal.returns-in-Out-clause-sits
returns-in-Out-clause-sits g c = let is = c.in-Out.is in λ others s. c.take_lead.ensures.missed (λ e. cc) others s

pub exchange-queue-requires-clause-holds : goal.exchange-queue-requires-clause-holds
exchange-queue-requires-clause-holds g c =
    let t = c.take_lead.ensures.taken c.in-Laden.is c.requires.sits.0 c.requires.sits.1 in
    (t.queue, t.holds.slots)

pub hear_one-some-requires : goal.hear_one-some-requires
hear_one-some-requires g c =
    let represents = g.M.SavingMachine.represents in
    let lead = c.args.lead.now in
    let others = c.requires.sits.0 in
    let t = c.take_lead.ensures.taken c.in-Laden.is others c.requires.sits.1 in
    let is : t.queue ≡ c.exchange-queue.result = lead_queue_is lead others represents c.take_lead.new.place.seat.me c.exchange-queue.new.place.seat.me c.link-link.result _ c.exchange-queue.result t c.exchange-queue.ensures.now c.exchange-queue.ensures.was in
    λ message rest first.
    t.learns c.args.from.0 message rest c.requires.from (c.link-link.ensures.number ∙ ap (λ (k : ℕ). link_no k c.args.from.0 lead.number) (add-one lead.number)) (ap (λ (l : LinkView). l.messages) is ∙ first)

pub give_back_lead-requires-clause-holds : goal.give_back_lead-requires-clause-holds
give_back_lead-requires-clause-holds g c =
    let represents = g.M.SavingMachine.represents in
    let about = c.args.self.now.table.table.shared.key.about in
    let lead = c.args.lead.now in
    let others = c.requires.sits.0 in
    let t = c.take_lead.ensures.taken c.in-Laden.is others c.requires.sits.1 in
    let is : t.queue ≡ c.exchange-queue.result = lead_queue_is lead others represents c.take_lead.new.place.seat.me c.exchange-queue.new.place.seat.me c.link-link.result _ c.exchange-queue.result t c.exchange-queue.ensures.now c.exchange-queue.ensures.was in
    let after : Leading = record { number = lead.number; coordinator = c.hear_one-some.new.coordinator } in
    let r : LinkView = c.hear_one-some.new.queue in
    let carried : CarriesLink number_of (HasBeenLed represents about.failures.value.items about.done.value.items (standing_parts about.machines about.opening.value) about.machines) (link_no (suc lead.number) c.args.from.0 lead.number) (Lead lead) t.queue (Lead after) r =
    ⊎_elim
    (λ (one : (message : Message) × (c.exchange-queue.result.messages ≡ message_view message ∷ r.messages) × HasTakenReport lead.coordinator after.coordinator c.args.from.0 (message_view message)).
    carries_report_heard represents about.failures.value.items about.done.value.items (standing_parts about.machines about.opening.value) about.machines lead after refl c.args.from.0 c.requires.from t.queue r one.0
    (ap (λ (l : LinkView). l.messages) is ∙ one.1) one.2)
    (λ (still : (r.messages ≡ c.exchange-queue.result.messages) × StaysCoordinator lead.coordinator after.coordinator).
    carries_no_report represents about.failures.value.items about.done.value.items (standing_parts about.machines about.opening.value) about.machines lead after refl c.args.from.0 c.requires.from t.queue r
    (still.0 ∙ ap (λ (l : LinkView). l.messages) (sym is)) still.1)
    c.hear_one-some.ensures.both
    in (
      lead,
      others,
      t.queue,
      _,
      lead_holds_now lead others represents c.take_lead.new.place.seat.me c.exchange-queue.new.place.seat.me c.link-link.result _ c.exchange-queue.result t c.exchange-queue.ensures.now c.exchange-queue.ensures.was,
      refl,
      subst (λ (i : ℕ). CarriesLink number_of (HasBeenLed represents about.failures.value.items about.done.value.items (standing_parts about.machines about.opening.value) about.machines) i (Lead lead) t.queue (Lead after) r)
          (sym (c.link-link.ensures.number ∙ ap (λ (k : ℕ). link_no k c.args.from.0 lead.number) (add-one lead.number))) carried,
    )

pub returns-then-some-clause-sits : goal.returns-then-some-clause-sits
returns-then-some-clause-sits g c =
    λ others s.
    let lead = c.args.lead.now in
    let t = c.take_lead.ensures.taken c.in-Laden.is others s in
    c.give_back_lead.ensures.sits lead others t.queue _
    (lead_holds_now lead others g.M.SavingMachine.represents c.take_lead.new.place.seat.me c.exchange-queue.new.place.seat.me c.link-link.result _ c.exchange-queue.result t c.exchange-queue.ensures.now c.exchange-queue.ensures.was)

pub returns-else-some-clause-sits : goal.returns-else-some-clause-sits
returns-else-some-clause-sits g c =
    λ others s.
    let lead = c.args.lead.now in
    let t = c.take_lead.ensures.taken c.in-Laden.is others s in
    c.give_back_lead.ensures.sits lead others t.queue _
    (lead_holds_now lead others g.M.SavingMachine.represents c.take_lead.new.place.seat.me c.exchange-queue.new.place.seat.me c.link-link.result _ c.exchange-queue.result t c.exchange-queue.ensures.now c.exchange-queue.ensures.was)

pub returns-in-Bare-clause-empty : goal.returns-in-Bare-clause-empty
returns-in-Bare-clause-empty g c =
    λ same.
    let old = c.args.place.now.seat.me in
    let new = c.take_lead.new.place.seat.me in
    let number : c.link-link.result ≡ link_no (suc c.args.lead.now.number) c.args.from.0 c.args.lead.now.number =
    c.link-link.ensures.number ∙ ap (λ (k : ℕ). link_no k c.args.from.0 c.args.lead.now.number) (add-one c.args.lead.now.number)
    in
    (refl, inl (subst (λ (i : ℕ). FoundWord old new i Bare) number (subst (λ (w : LinkWord). FoundWord old new c.link-link.result w) c.in-Bare.is (seen_one old new _ c.take_lead.ensures.found))))

pub returns-in-Out-clause-busy : goal.returns-in-Out-clause-busy
returns-in-Out-clause-busy g c =
    λ same.
    let old = c.args.place.now.seat.me in
    let new = c.take_lead.new.place.seat.me in
    let number : c.link-link.result ≡ link_no (suc c.args.lead.now.number) c.args.from.0 c.args.lead.now.number =
    c.link-link.ensures.number ∙ ap (λ (k : ℕ). link_no k c.args.from.0 c.args.lead.now.number) (add-one c.args.lead.now.number)
    in
    (refl, subst (λ (i : ℕ). FoundWord old new i Out) number (subst (λ (w : LinkWord). FoundWord old new c.link-link.result w) c.in-Out.is (seen_one old new _ c.take_lead.ensures.found)))

pub returns-else-some-clause-empty : goal.returns-else-some-clause-empty
returns-else-some-clause-empty g c =
    λ same.
    let number : c.link-link.result ≡ link_no (suc c.args.lead.now.number) c.args.from.0 c.args.lead.now.number =
    c.link-link.ensures.number ∙ ap (λ (k : ℕ). link_no k c.args.from.0 c.args.lead.now.number) (add-one c.args.lead.now.number)
    in
    let represents = g.M.SavingMachine.represents in
    let lead = c.args.lead.now in
    let others = c.requires.sits.0 in
    let old = c.args.place.now.seat.me in
    let taken = c.take_lead.new.place.seat.me in
    let out = c.exchange-queue.new.place.seat.me in
    let new = c.give_back_lead.new.place.seat.me in
    let t = c.take_lead.ensures.taken c.in-Laden.is others c.requires.sits.1 in
    let is : t.queue ≡ c.exchange-queue.result = lead_queue_is lead others represents taken out c.link-link.result _ c.exchange-queue.result t c.exchange-queue.ensures.now c.exchange-queue.ensures.was in
    let none = c.hear_one-some.ensures.none c.if-some.false in
    let sees = sees_then old taken out (sees_one old taken _ c.take_lead.ensures.found) (sees_same taken out (ap (λ me. me.0.seen) c.exchange-queue.ensures.now)) in
    let gave = c.give_back_lead.ensures.gave lead others t.queue _ (lead_holds_now lead others represents taken out c.link-link.result _ c.exchange-queue.result t c.exchange-queue.ensures.now c.exchange-queue.ensures.was) in
    (none.0, inr (t.queue, bare_then t.queue c.exchange-queue.result is none.1, subst (λ (i : ℕ). HadQueue old new i t.queue) number (then_had old out new c.link-link.result t.queue sees gave)))

pub returns-then-some-clause-applied : goal.returns-then-some-clause-applied
returns-then-some-clause-applied g c =
    λ same.
    let number : c.link-link.result ≡ link_no (suc c.args.lead.now.number) c.args.from.0 c.args.lead.now.number =
    c.link-link.ensures.number ∙ ap (λ (k : ℕ). link_no k c.args.from.0 c.args.lead.now.number) (add-one c.args.lead.now.number)
    in
    let represents = g.M.SavingMachine.represents in
    let lead = c.args.lead.now in
    let others = c.requires.sits.0 in
    let old = c.args.place.now.seat.me in
    let taken = c.take_lead.new.place.seat.me in
    let out = c.exchange-queue.new.place.seat.me in
    let new = c.give_back_lead.new.place.seat.me in
    let t = c.take_lead.ensures.taken c.in-Laden.is others c.requires.sits.1 in
    let is : t.queue ≡ c.exchange-queue.result = lead_queue_is lead others represents taken out c.link-link.result _ c.exchange-queue.result t c.exchange-queue.ensures.now c.exchange-queue.ensures.was in
    let sees = sees_then old taken out (sees_one old taken _ c.take_lead.ensures.found) (sees_same taken out (ap (λ me. me.0.seen) c.exchange-queue.ensures.now)) in
    let gave = c.give_back_lead.ensures.gave lead others t.queue _ (lead_holds_now lead others represents taken out c.link-link.result _ c.exchange-queue.result t c.exchange-queue.ensures.now c.exchange-queue.ensures.was) in
    let heard = c.hear_one-some.ensures.heard c.if-some.true in
    let first = ap (λ (l : LinkView). l.messages) is ∙ heard.1 in (
      heard.0,
      t.learns c.args.from.0 heard.0 c.hear_one-some.new.queue.messages c.requires.from number first,
      heard.2,
      t.queue,
      c.hear_one-some.new.queue.messages,
      first,
      subst (λ (i : ℕ). HadQueue old new i t.queue) number (then_had old out new c.link-link.result t.queue sees gave),
    )

pub returns-in-Bare-clause-looked : goal.returns-in-Bare-clause-looked
returns-in-Bare-clause-looked g c =
    let number : c.link-link.result ≡ link_no (suc c.args.lead.now.number) c.args.from.0 c.args.lead.now.number =
    c.link-link.ensures.number ∙ ap (λ (k : ℕ). link_no k c.args.from.0 c.args.lead.now.number) (add-one c.args.lead.now.number)
    in
    let old = c.args.place.now.seat.me in
    let new = c.take_lead.new.place.seat.me in
    subst (λ (i : ℕ). HasLooked old new i) number (_, seen_one old new _ c.take_lead.ensures.found)

pub returns-in-Out-clause-looked : goal.returns-in-Out-clause-looked
returns-in-Out-clause-looked g c =
    let number : c.link-link.result ≡ link_no (suc c.args.lead.now.number) c.args.from.0 c.args.lead.now.number =
    c.link-link.ensures.number ∙ ap (λ (k : ℕ). link_no k c.args.from.0 c.args.lead.now.number) (add-one c.args.lead.now.number)
    in
    let old = c.args.place.now.seat.me in
    let new = c.take_lead.new.place.seat.me in
    subst (λ (i : ℕ). HasLooked old new i) number (_, seen_one old new _ c.take_lead.ensures.found)

pub returns-then-some-clause-looked : goal.returns-then-some-clause-looked
returns-then-some-clause-looked g c =
    let number : c.link-link.result ≡ link_no (suc c.args.lead.now.number) c.args.from.0 c.args.lead.now.number =
    c.link-link.ensures.number ∙ ap (λ (k : ℕ). link_no k c.args.from.0 c.args.lead.now.number) (add-one c.args.lead.now.number)
    in
    let old = c.args.place.now.seat.me in
    let taken = c.take_lead.new.place.seat.me in
    let out = c.exchange-queue.new.place.seat.me in
    let new = c.give_back_lead.new.place.seat.me in
    subst (λ (i : ℕ). HasLooked old new i) number
    (looked_then old taken new c.link-link.result (_, seen_one old taken _ c.take_lead.ensures.found) (sees_then taken out new (sees_same taken out (ap (λ me. me.0.seen) c.exchange-queue.ensures.now)) c.give_back_lead.ensures.sees))

pub returns-else-some-clause-looked : goal.returns-else-some-clause-looked
returns-else-some-clause-looked g c =
    let number : c.link-link.result ≡ link_no (suc c.args.lead.now.number) c.args.from.0 c.args.lead.now.number =
    c.link-link.ensures.number ∙ ap (λ (k : ℕ). link_no k c.args.from.0 c.args.lead.now.number) (add-one c.args.lead.now.number)
    in
    let old = c.args.place.now.seat.me in
    let taken = c.take_lead.new.place.seat.me in
    let out = c.exchange-queue.new.place.seat.me in
    let new = c.give_back_lead.new.place.seat.me in
    subst (λ (i : ℕ). HasLooked old new i) number
    (looked_then old taken new c.link-link.result (_, seen_one old taken _ c.take_lead.ensures.found) (sees_then taken out new (sees_same taken out (ap (λ me. me.0.seen) c.exchange-queue.ensures.now)) c.give_back_lead.ensures.sees))
