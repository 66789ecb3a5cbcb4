use Rattle.std.proofs.Common.{ap, refl, ⊎_elim, ◌≡◌, ◌≢◌}
use Rattle.wire_board.proofs.Places.{word_cases}
use Rattle.wire_board.proofs.LeadPlaces.{lead_has_taken, leads_read}
use Rattle.wire_board.proofs.Leads.{carries_stays, learnt_lead}
use Rattle.wire_board.specs.Led.{Lead}
use Rattle.wire_board.specs.Openings.{standing_parts}
use Rattle.wire_board.proofs.boards.Board.take_lead.Goals as goal

pub take-requires-clause-rests : goal.take-requires-clause-rests
take-requires-clause-rests g c =
    let s = c.requires.sits.1 in
    let lead = c.args.lead.now in
    let about = c.args.self.now.table.table.shared.key.about in
    let represents = g.M.SavingMachine.represents in (
      Lead lead,
      Lead s.was,
      c.requires.sits.0,
      refl,
      s.rests,
      s.number,
      carries_stays represents about.failures.value.items about.done.value.items (standing_parts about.machines about.opening.value) about.machines s.was lead s.number s.stays,
      learnt_lead represents about.failures.value.items about.done.value.items (standing_parts about.machines about.opening.value) about.machines lead c.args.link,
    )

pub returns-clause-taken : goal.returns-clause-taken
returns-clause-taken g c =
    λ same others s.
    let t = c.take.ensures.taken same (Lead c.args.lead.now) refl in
    lead_has_taken c.args.lead.now others g.M.SavingMachine.represents c.args.place.now.seat.me c.take.new.place.seat.me (Lead s.was) c.args.link t.0 _ s.rests t.1 t.2

pub returns-clause-missed : goal.returns-clause-missed
returns-clause-missed g c = λ off others s. leads_read c.args.lead.now others c.args.place.now.seat.me c.take.new.place.seat.me _ _ s (c.take.ensures.missed off)

pub returns-clause-found : goal.returns-clause-found
returns-clause-found g c =
    ⊎_elim
    (λ (same : c.take.result ≡ c.args.expected). ap (λ me. me.0.seen) (c.take.ensures.taken same (Lead c.args.lead.now) refl).1)
    (λ (off : c.take.result ≢ c.args.expected). ap (λ me. me.0.seen) (c.take.ensures.missed off))
    (word_cases c.take.result c.args.expected)
