use Rattle.std.proofs.Common.{ap, refl}
use Rattle.cluster_laws.specs.cluster_model.Events as law
use Rattle.cluster_laws.specs.cluster_model.Leading.{puts_step}
use Rattle.link_tables.proofs.Seeing.{sees_one, sees_same}
use Rattle.wire_board.proofs.LeadPlaces.{leads_changed, leads_still}
use Rattle.wire_board.proofs.Leads.{carries_led}
use Rattle.wire_board.proofs.Sighting.{at_err}
use Rattle.wire_board.specs.Led.{Lead, Leading}
use Rattle.wire_board.specs.Openings.{standing_parts}
use Rattle.wire_board.proofs.boards.Board.step.Goals as goal

pub settle-requires-clause-rests : goal.settle-requires-clause-rests
settle-requires-clause-rests g c =
    let s = c.requires.sits.1 in
    let about = c.args.self.now.table.table.shared.key.about in
    let lead : Leading = record { number = c.args.lead.now.number; coordinator = c.step.new.self } in (
      Lead lead,
      Lead s.was,
      c.requires.sits.0,
      refl,
      s.rests,
      s.number,
      carries_led g.M.SavingMachine.represents about.failures.value.items about.done.value.items (standing_parts about.machines about.opening.value) about.machines s.was lead s.number law.PutStep (λ is. cc, λ base is. cc) (λ st d. tt)
          (puts_step) (λ st d. refl) (λ st d of. c.in_ok-step.ensures.put_out.0 st d (s.stays st d.coordinator of)) (λ st k of. c.in_ok-step.ensures.put_out.1 st k (s.stays st k of)),
    )

pub returns-clause-sits : goal.returns-clause-sits
returns-clause-sits g c =
    let lead : Leading = record { number = c.args.lead.now.number; coordinator = c.step.new.self } in
    λ others s. leads_changed lead others c.args.place.now.seat.me c.settle.new.place.seat.me (Lead s.was) _ s.rests (c.settle.ensures.settled (Lead lead) refl)

pub returns-in_err-step-clause-sits : goal.returns-in_err-step-clause-sits
returns-in_err-step-clause-sits g c = λ others s. leads_still c.args.lead.now others c.args.place.now.seat.me s _ refl (c.in_err-step.ensures.unchanged)

pub returns-clause-sees : goal.returns-clause-sees
returns-clause-sees g c =
    let lead : Leading = record { number = c.args.lead.now.number; coordinator = c.step.new.self } in
    sees_one c.args.place.now.seat.me c.settle.new.place.seat.me _ (ap (λ me. me.0.seen) (c.settle.ensures.settled (Lead lead) refl))

pub returns-in_err-step-clause-sees : goal.returns-in_err-step-clause-sees
returns-in_err-step-clause-sees g c = sees_same c.args.place.now.seat.me c.args.place.now.seat.me refl

pub returns-in_err-step-clause-unchanged : goal.returns-in_err-step-clause-unchanged
returns-in_err-step-clause-unchanged g c = at_err c.from_residual.result c.in_err-step.ensures.unchanged
