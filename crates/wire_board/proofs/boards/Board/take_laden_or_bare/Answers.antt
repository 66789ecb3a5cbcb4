use Rattle.std.proofs.Common.{rules, subst, ◌≢◌}
use Rattle.link_tables.proofs.Seeing.{seen_one, sees_one, sees_then, then_seen}
use Rattle.link_tables.specs.declared.words.LinkWord.{LinkWord}
use Rattle.wire_board.specs.Sights.{FoundWord}
use Rattle.link_tables.specs.declared.words.LinkWord.TheVariants.{Bare, Out}
use Rattle.wire_board.proofs.boards.Board.take_laden_or_bare.Goals as goal

pub take-requires-in-Bare-clause-sits : goal.take-requires-in-Bare-clause-sits
take-requires-in-Bare-clause-sits g c = let is = c.in-Bare.is in c.take.ensures.missed (λ e. cc)

pub returns-in-Out-clause-missed : goal.returns-in-Out-clause-missed
returns-in-Out-clause-missed g c = let is = c.in-Out.is in λ no. c.take.ensures.missed (λ e. cc)

pub returns-in_default : goal.returns-in_default
returns-in_default g c =
    let not_bare : c.take-in-Bare.result ≢ Bare = search rules in
    let old = c.args.place.now.seat.me in
    let mid = c.take.new.place.seat.me in
    let new = c.take-in-Bare.new.place.seat.me in
    let first = sees_one old mid _ c.take.ensures.found in
    record {
      table = search rules;
      taken = λ e. absurd (cc);
      missed = λ e. c.take-in-Bare.ensures.missed not_bare;
      found = λ e. (c.take-in-Bare.result, not_bare, then_seen old mid new _ first (seen_one mid new _ c.take-in-Bare.ensures.found));
      sees = sees_then old mid new first (sees_one mid new _ c.take-in-Bare.ensures.found);
    }

pub returns-in-Laden-clause-sees : goal.returns-in-Laden-clause-sees
returns-in-Laden-clause-sees g c = sees_one c.args.place.now.seat.me c.take.new.place.seat.me _ c.take.ensures.found

pub returns-in-Out-clause-sees : goal.returns-in-Out-clause-sees
returns-in-Out-clause-sees g c = sees_one c.args.place.now.seat.me c.take.new.place.seat.me _ c.take.ensures.found

pub returns-in-Out-clause-found : goal.returns-in-Out-clause-found
returns-in-Out-clause-found g c =
    λ no.
    let old = c.args.place.now.seat.me in
    let new = c.take.new.place.seat.me in
    (Out, (λ e. cc), subst (λ (w : LinkWord). FoundWord old new c.args.link w) c.in-Out.is (seen_one old new _ c.take.ensures.found))

pub returns-in-Bare-take-clause-sees : goal.returns-in-Bare-take-clause-sees
returns-in-Bare-take-clause-sees g c =
    let old = c.args.place.now.seat.me in
    let mid = c.take.new.place.seat.me in
    let new = c.take-in-Bare.new.place.seat.me in
    sees_then old mid new (sees_one old mid _ c.take.ensures.found) (sees_one mid new _ c.take-in-Bare.ensures.found)
