use Rattle.std.proofs.Common.{false, subst, suc, sym, ◌<◌, ◌∙◌, ◌≡◌, ◌≢◌, ℕ}
use Rattle.wire_board.proofs.Acting.{if_ok_both}
use Rattle.wire_board.proofs.Directings.{directed_both, passed_or}
use Rattle.wire_board.proofs.Sighting.{at_ok, looked_then, then_looked}
use Rattle.wire_board.specs.Directing.{HasDirected, HasDirectedIf}
use Rattle.wire_board.specs.Led.{link_no}
use Rattle.wire_board.specs.Sights.{HasLooked}
use Rattle.wire_board.specs.declared.directing.Directed.TheVariants as Directed
use Rattle.wire_board.proofs.boards.Board.direct.Goals as goal

pub returns-clause-looked : goal.returns-clause-looked
returns-clause-looked g c =
    at_ok c.lead.result
    (λ from low.
    let old = c.args.place.now.seat.me in
    let told = c.tell_calls.new.place.seat.me in
    let heard = c.hear_reports-heard.new.place.seat.me in
    let new = c.lead.new.place.seat.me in
    let same = c.tell_calls.ensures.number in
    let looked : HasLooked told heard (link_no (suc c.args.lead.now.number) from c.args.lead.now.number) =
    subst (λ (n : ℕ). HasLooked told heard (link_no (suc n) from n)) same (c.hear_reports-heard.ensures.looked from (subst (λ (n : ℕ). from < n) (sym same) low))
    in
    let link : ℕ = link_no (suc c.args.lead.now.number) from c.args.lead.now.number in
    looked_then old heard new link (then_looked old told heard link c.in_ok-told.ensures.sees looked) c.lead.ensures.sees)

pub returns-clause-led : goal.returns-clause-led
returns-clause-led g c =
    let lead = c.args.lead.now in
    let told = c.tell_calls.new.lead in
    let heard = c.hear_reports-heard.new.lead in
    let old = c.args.place.now.seat.me in
    let mid = c.tell_calls.new.place.seat.me in
    let here = c.hear_reports-heard.new.place.seat.me in
    let new = c.lead.new.place.seat.me in
    let second : HasDirectedIf lead.number told.coordinator mid heard.coordinator here c.hear_reports-heard.result =
    subst (λ (n : ℕ). HasDirectedIf n told.coordinator mid heard.coordinator here c.hear_reports-heard.result) c.tell_calls.ensures.number c.hear_reports-heard.ensures.led
    in
    let passed : HasDirectedIf lead.number lead.coordinator old heard.coordinator here c.either-passed.result =
    directed_both lead.number lead.coordinator told.coordinator heard.coordinator old mid here _ _ _ _ _ _ c.in_ok-told.ensures.led second c.either-passed.ensures.some c.either-passed.ensures.none
    in
    let number : heard.number ≡ lead.number = c.hear_reports-heard.ensures.number ∙ c.tell_calls.ensures.number in
    if_ok_both c.lead.result _ _ _
    (λ how led none. directed_both lead.number lead.coordinator heard.coordinator c.lead.new.lead.coordinator old here new _ _ _ _ _ _ passed
    (subst (λ (n : ℕ). HasDirected n heard.coordinator here c.lead.new.lead.coordinator new ((how ≡ Directed.Moved) × (c.either-any.result ≡ false)) (how ≢ Directed.Moved)) number led)
    (passed_or c.either-any.result c.args.moved c.either-passed.result (how ≡ Directed.Moved) c.either-any.ensures.some)
    (λ so. ((c.either-any.ensures.none (none so)).1, λ is. let e = sym so ∙ is in cc)))
    c.lead.ensures.led c.lead.ensures.nothing
