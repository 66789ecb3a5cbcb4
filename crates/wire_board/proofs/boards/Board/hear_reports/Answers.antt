use Rattle.std.proofs.Common.{arith, refl, subst, suc, ◌∙◌, ℕ}
use borrow.Author.Count.{below_more, below_none}
use Rattle.link_tables.proofs.Seeing.{sees_same, sees_then}
use Rattle.wire_board.proofs.Directings.{directed_both, directed_none, lead_stays, report_directed}
use Rattle.wire_board.proofs.Sighting.{looked_sees, looked_then, then_looked}
use Rattle.wire_board.specs.Directing.{HasDirectedIf}
use Rattle.wire_board.specs.Led.{link_no}
use Rattle.wire_board.specs.Sights.{HasLooked}
use Rattle.wire_board.proofs.boards.Board.hear_reports.Goals as goal

pub loop-from-init : goal.loop-from-init
loop-from-init g c =
    record { table = c.requires.table; sits = λ others s. s; same = refl; sees = sees_same c.args.place.now.seat.me c.args.place.now.seat.me refl; looked = below_none _; led = directed_none c.args.lead.now.number c.args.lead.now.coordinator c.args.lead.now.coordinator c.args.place.now.seat.me c.args.place.now.seat.me _ _ (lead_stays c.args.lead.now.coordinator c.args.lead.now.coordinator refl) (sees_same c.args.place.now.seat.me c.args.place.now.seat.me refl) (λ e. absurd (cc)) }

pub loop-from-preserved : goal.loop-from-preserved
loop-from-preserved g c =
    let first = c.args.place.now.seat.me in
    let old = c.loop-from.place.seat.me in
    let new = c.hear_report-how.new.place.seat.me in
    let lead = c.args.lead.now in
    let here = c.loop-from.lead in
    let i = c.loop-from.invariant in
    let at = c.loop-from.from in
    let sees = looked_sees old new new (link_no (suc here.number) at here.number) c.hear_report-how.ensures.looked in
    let looked : HasLooked old new (link_no (suc lead.number) at lead.number) = subst (λ (n : ℕ). HasLooked old new (link_no (suc n) at n)) i.same c.hear_report-how.ensures.looked in
    record {
      table = c.hear_report-how.ensures.table ∙ i.table;
      sits = λ others s. c.hear_report-how.ensures.sits others (i.sits others s);
      same = c.hear_report-how.ensures.number ∙ i.same;
      sees = sees_then first old new i.sees sees;
      looked = below_more (λ k. HasLooked first new (link_no (suc lead.number) k lead.number)) at
          (λ k low. looked_then first old new (link_no (suc lead.number) k lead.number) (i.looked k low) sees)
          (then_looked first old new (link_no (suc lead.number) at lead.number) i.sees looked);
      led =
          let there = c.hear_report-how.new.lead.coordinator in
          let one = c.hear_report-how.ensures in
          directed_both lead.number lead.coordinator here.coordinator there first old new _ _ _ _ _ _ i.led
          (subst (λ (n : ℕ). HasDirectedIf n here.coordinator old there new c.has_come.result) i.same
          (report_directed here.number here.coordinator there old new c.has_come.result at sees c.hear_report-how.result one.applied (λ so. (one.empty so).0) (λ so. (one.busy so).0) c.has_come.ensures.some c.has_come.ensures.none))
          c.either-moved.ensures.some c.either-moved.ensures.none;
    }

pub returns-clause-looked : goal.returns-clause-looked
returns-clause-looked g c = λ from inside. c.loop-from.invariant.looked from (let last = c.loop-from.auto.from-end in let done = c.loop-from-test.false in omega (arith, last, done))
