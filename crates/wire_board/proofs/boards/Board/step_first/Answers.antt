use Rattle.wire_board.proofs.Directings.{call_directed, report_directed}
use Rattle.wire_board.proofs.Sighting.{looked_sees}
use Rattle.wire_board.proofs.boards.Board.step_first.Goals as goal

pub returns-in_ok-how-in-TellCall-clause-led : goal.returns-in_ok-how-in-TellCall-clause-led
returns-in_ok-how-in-TellCall-clause-led g c =
    let first = c.args.first.now in
    let one = (c.in_ok-how-in-TellCall).ensures in
    call_directed first.lead.number first.lead.coordinator c.tell_call.new.lead.coordinator first.place.seat.me c.tell_call.new.place.seat.me c.has_gone.result (c.in-TellCall).to.0 c.tell_call.ensures.sees (c.in_ok-how-in-TellCall).how one.moved
    (λ so. (one.nothing so).0) (λ so. (one.busy so).0) c.has_gone.ensures.some c.has_gone.ensures.none

pub returns-in-HearReport-clause-led : goal.returns-in-HearReport-clause-led
returns-in-HearReport-clause-led g c =
    let first = c.args.first.now in
    let one = c.hear_report-how.ensures in
    report_directed first.lead.number first.lead.coordinator c.hear_report-how.new.lead.coordinator first.place.seat.me c.hear_report-how.new.place.seat.me c.has_come.result (c.in-HearReport).from.0
    (looked_sees first.place.seat.me c.hear_report-how.new.place.seat.me c.hear_report-how.new.place.seat.me _ one.looked) c.hear_report-how.result one.applied (λ so. (one.empty so).0) (λ so. (one.busy so).0) c.has_come.ensures.some c.has_come.ensures.none
