use Rattle.std.proofs.Common.{refl}
use Rattle.wire_board.proofs.Directings.{directed_one}
use Rattle.wire_board.proofs.boards.Board.lead.Goals as goal

pub returns-in-Ok-clause-led : goal.returns-in-Ok-clause-led
returns-in-Ok-clause-led g c = directed_one c.args.lead.now.number c.args.lead.now.coordinator c.lead_due.new.lead.coordinator c.args.place.now.seat.me c.lead_due.new.place.seat.me _ _ c.in-Ok.ensures.led (λ none. none refl)
