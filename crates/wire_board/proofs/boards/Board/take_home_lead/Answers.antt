use Rattle.std.proofs.Common.{rules, subst, ◌≢◌}
use Rattle.link_tables.proofs.Seeing.{seen_one, sees_one, sees_then, then_seen}
use Rattle.link_tables.specs.declared.words.LinkWord.{LinkWord}
use Rattle.wire_board.specs.Sights.{FoundWord}
use Rattle.link_tables.specs.declared.words.LinkWord.TheVariants.{Laden, Out}
use Rattle.wire_board.proofs.boards.Board.take_home_lead.Goals as goal

pub returns-in_default : goal.returns-in_default
returns-in_default g c =
    let is = c.in-Laden.is in
    let not_laden : c.take_lead-in-Laden.result ≢ Laden = search rules in
    let old = c.args.place.now.seat.me in
    let mid = c.take_lead.new.place.seat.me in
    let new = c.take_lead-in-Laden.new.place.seat.me in
    let first = sees_one old mid _ c.take_lead.ensures.found in
    record {
      table = search rules;
      taken = λ e. absurd (cc);
      missed = λ e others s. c.take_lead-in-Laden.ensures.missed not_laden others (c.take_lead.ensures.missed (λ same. cc) others s);
      found = λ e. (c.take_lead-in-Laden.result, not_laden, then_seen old mid new _ first (seen_one mid new _ c.take_lead-in-Laden.ensures.found));
      sees = sees_then old mid new first (sees_one mid new _ c.take_lead-in-Laden.ensures.found);
    }

pub returns-in-Bare-clause-sees : goal.returns-in-Bare-clause-sees
returns-in-Bare-clause-sees g c = sees_one c.args.place.now.seat.me c.take_lead.new.place.seat.me _ c.take_lead.ensures.found

pub returns-in-Out-clause-sees : goal.returns-in-Out-clause-sees
returns-in-Out-clause-sees g c = sees_one c.args.place.now.seat.me c.take_lead.new.place.seat.me _ c.take_lead.ensures.found

pub returns-in-Out-clause-found : goal.returns-in-Out-clause-found
returns-in-Out-clause-found g c =
    λ no.
    let old = c.args.place.now.seat.me in
    let new = c.take_lead.new.place.seat.me in
    (Out, (λ e. cc), subst (λ (w : LinkWord). FoundWord old new c.args.link w) c.in-Out.is (seen_one old new _ c.take_lead.ensures.found))

pub returns-in-Laden-take_lead-clause-sees : goal.returns-in-Laden-take_lead-clause-sees
returns-in-Laden-take_lead-clause-sees g c =
    let old = c.args.place.now.seat.me in
    let mid = c.take_lead.new.place.seat.me in
    let new = c.take_lead-in-Laden.new.place.seat.me in
    sees_then old mid new (sees_one old mid _ c.take_lead.ensures.found) (sees_one mid new _ c.take_lead-in-Laden.ensures.found)
