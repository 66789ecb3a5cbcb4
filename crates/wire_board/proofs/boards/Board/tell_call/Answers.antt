use Rattle.std.proofs.Common.{inl, inr, add-one, ap, refl, subst, suc, sym, ⊎_elim, ◌++◌, ◌∙◌, ◌∷◌, ◌≡◌, ℕ, [], Some}
use Rattle.coordinator.specs.coord_core.Calls.{HasHandedOver, StaysCoordinator}
use Rattle.coordinator.specs.machine_api.Promises.{message_view}
use Rattle.link_tables.proofs.Seeing.{sees_same, sees_then}
use Rattle.link_tables.specs.Rule.{CarriesLink}
use Rattle.wire.specs.declared.wire_msgs.messages.Message.{Message}
use Rattle.wire_board.proofs.LeadPlaces.{lead_holds_now, lead_queue_is}
use Rattle.wire_board.proofs.Leads.{carries_call_told, carries_no_call}
use Rattle.wire_board.specs.Led.{HasBeenLed, Lead, Leading, LinkView, link_no, number_of}
use Rattle.wire_board.specs.Openings.{standing_parts}
use Rattle.wire_board.specs.Sights.{FoundWord}
use Rattle.wire_board.proofs.boards.Board.tell_call.Goals as goal

pub returns-then-not-take_home_lead-clause-sits : goal.returns-then-not-take_home_lead-clause-sits
returns-then-not-take_home_lead-clause-sits g c = λ others s. c.take_home_lead.ensures.missed c.if-not-take_home_lead.true others s

pub exchange-queue-requires-clause-holds : goal.exchange-queue-requires-clause-holds
exchange-queue-requires-clause-holds g c =
    let t = c.take_home_lead.ensures.taken c.if-not-take_home_lead.false c.requires.sits.0 c.requires.sits.1 in
    (t.queue, t.holds.slots)

pub give_back_lead-requires-clause-holds : goal.give_back_lead-requires-clause-holds
give_back_lead-requires-clause-holds g c =
    let represents = g.M.SavingMachine.represents in
    let about = c.args.self.now.table.table.shared.key.about in
    let lead = c.args.lead.now in
    let others = c.requires.sits.0 in
    let t = c.take_home_lead.ensures.taken c.if-not-take_home_lead.false others c.requires.sits.1 in
    let is : t.queue ≡ c.exchange-queue.result = lead_queue_is lead others represents c.take_home_lead.new.place.seat.me c.exchange-queue.new.place.seat.me c.link-link.result _ c.exchange-queue.result t c.exchange-queue.ensures.now c.exchange-queue.ensures.was in
    let after : Leading = record { number = lead.number; coordinator = c.tell_one-told.new.coordinator } in
    let r : LinkView = c.tell_one-told.new.queue in
    let carried : CarriesLink number_of (HasBeenLed represents about.failures.value.items about.done.value.items (standing_parts about.machines about.opening.value) about.machines) (link_no (suc lead.number) lead.number c.args.to.0) (Lead lead) t.queue (Lead after) r =
    ⊎_elim
    (λ (one : (message : Message) × (r.messages ≡ c.exchange-queue.result.messages ++ message_view message ∷ []) × HasHandedOver lead.coordinator after.coordinator c.args.to.0 (Some message)).
    carries_call_told represents about.failures.value.items about.done.value.items (standing_parts about.machines about.opening.value) about.machines lead after refl c.args.to.0 c.requires.to t.queue r one.0
    (one.1 ∙ ap (λ (l : LinkView). l.messages ++ message_view one.0 ∷ []) (sym is)) one.2)
    (λ (still : (r.messages ≡ c.exchange-queue.result.messages) × StaysCoordinator lead.coordinator after.coordinator).
    carries_no_call represents about.failures.value.items about.done.value.items (standing_parts about.machines about.opening.value) about.machines lead after refl c.args.to.0 c.requires.to t.queue r
    (still.0 ∙ ap (λ (l : LinkView). l.messages) (sym is)) still.1)
    c.tell_one-told.ensures.both
    in (
      lead,
      others,
      t.queue,
      _,
      lead_holds_now lead others represents c.take_home_lead.new.place.seat.me c.exchange-queue.new.place.seat.me c.link-link.result _ c.exchange-queue.result t c.exchange-queue.ensures.now c.exchange-queue.ensures.was,
      refl,
      subst (λ (i : ℕ). CarriesLink number_of (HasBeenLed represents about.failures.value.items about.done.value.items (standing_parts about.machines about.opening.value) about.machines) i (Lead lead) t.queue (Lead after) r)
          (sym (c.link-link.ensures.number ∙ ap (λ (k : ℕ). link_no k lead.number c.args.to.0) (add-one lead.number))) carried,
    )

pub returns-then-branch-clause-sits : goal.returns-then-branch-clause-sits
returns-then-branch-clause-sits g c =
    λ others s.
    let lead = c.args.lead.now in
    let t = c.take_home_lead.ensures.taken c.if-not-take_home_lead.false others s in
    c.give_back_lead.ensures.sits lead others t.queue _
    (lead_holds_now lead others g.M.SavingMachine.represents c.take_home_lead.new.place.seat.me c.exchange-queue.new.place.seat.me c.link-link.result _ c.exchange-queue.result t c.exchange-queue.ensures.now c.exchange-queue.ensures.was)

pub returns-else-branch-clause-sits : goal.returns-else-branch-clause-sits
returns-else-branch-clause-sits g c =
    λ others s.
    let lead = c.args.lead.now in
    let t = c.take_home_lead.ensures.taken c.if-not-take_home_lead.false others s in
    c.give_back_lead.ensures.sits lead others t.queue _
    (lead_holds_now lead others g.M.SavingMachine.represents c.take_home_lead.new.place.seat.me c.exchange-queue.new.place.seat.me c.link-link.result _ c.exchange-queue.result t c.exchange-queue.ensures.now c.exchange-queue.ensures.was)

pub returns-in_err-told-clause-sits : goal.returns-in_err-told-clause-sits
returns-in_err-told-clause-sits g c =
    λ others s.
    let lead = c.args.lead.now in
    let t = c.take_home_lead.ensures.taken c.if-not-take_home_lead.false others s in
    c.give_back_lead.ensures.sits lead others t.queue _
    (lead_holds_now lead others g.M.SavingMachine.represents c.take_home_lead.new.place.seat.me c.exchange-queue.new.place.seat.me c.link-link.result _ c.exchange-queue.result t c.exchange-queue.ensures.now c.exchange-queue.ensures.was)

pub returns-then-not-waits-clause-nothing : goal.returns-then-not-waits-clause-nothing
returns-then-not-waits-clause-nothing g c = λ same. (refl, inl (sym c.waits.ensures ∙ c.if-not-waits.true))

pub returns-else-branch-clause-nothing : goal.returns-else-branch-clause-nothing
returns-else-branch-clause-nothing g c = λ same. let none = c.in_ok-told.ensures.none c.if-branch.false in (none.0, inr none)

pub returns-then-branch-clause-moved : goal.returns-then-branch-clause-moved
returns-then-branch-clause-moved g c = λ same. let told = c.in_ok-told.ensures.told c.if-branch.true in (told.0, told.2)

pub returns-then-not-take_home_lead-clause-busy : goal.returns-then-not-take_home_lead-clause-busy
returns-then-not-take_home_lead-clause-busy g c =
    λ same.
    let f = c.take_home_lead.ensures.found c.if-not-take_home_lead.true in
    let number : c.link-link.result ≡ link_no (suc c.args.lead.now.number) c.args.lead.now.number c.args.to.0 =
    c.link-link.ensures.number ∙ ap (λ (k : ℕ). link_no k c.args.lead.now.number c.args.to.0) (add-one c.args.lead.now.number)
    in
    (refl, f.0, f.1, subst (λ (i : ℕ). FoundWord c.args.place.now.seat.me c.take_home_lead.new.place.seat.me i f.0) number f.2)

pub returns-then-not-waits-clause-sees : goal.returns-then-not-waits-clause-sees
returns-then-not-waits-clause-sees g c = sees_same c.args.place.now.seat.me c.args.place.now.seat.me refl

pub returns-then-not-take_home_lead-clause-sees : goal.returns-then-not-take_home_lead-clause-sees
returns-then-not-take_home_lead-clause-sees g c = c.take_home_lead.ensures.sees

pub returns-in_err-told-clause-sees : goal.returns-in_err-told-clause-sees
returns-in_err-told-clause-sees g c =
    let old = c.args.place.now.seat.me in
    let taken = c.take_home_lead.new.place.seat.me in
    let out = c.exchange-queue.new.place.seat.me in
    let new = c.give_back_lead.new.place.seat.me in
    sees_then old taken new c.take_home_lead.ensures.sees (sees_then taken out new (sees_same taken out (ap (λ me. me.0.seen) c.exchange-queue.ensures.now)) c.give_back_lead.ensures.sees)

pub returns-then-branch-clause-sees : goal.returns-then-branch-clause-sees
returns-then-branch-clause-sees g c =
    let old = c.args.place.now.seat.me in
    let taken = c.take_home_lead.new.place.seat.me in
    let out = c.exchange-queue.new.place.seat.me in
    let new = c.give_back_lead.new.place.seat.me in
    sees_then old taken new c.take_home_lead.ensures.sees (sees_then taken out new (sees_same taken out (ap (λ me. me.0.seen) c.exchange-queue.ensures.now)) c.give_back_lead.ensures.sees)

pub returns-else-branch-clause-sees : goal.returns-else-branch-clause-sees
returns-else-branch-clause-sees g c =
    let old = c.args.place.now.seat.me in
    let taken = c.take_home_lead.new.place.seat.me in
    let out = c.exchange-queue.new.place.seat.me in
    let new = c.give_back_lead.new.place.seat.me in
    sees_then old taken new c.take_home_lead.ensures.sees (sees_then taken out new (sees_same taken out (ap (λ me. me.0.seen) c.exchange-queue.ensures.now)) c.give_back_lead.ensures.sees)
