use Rattle.std.proofs.Common.{subst}
use Rattle.link_tables.proofs.Seeing.{seen_one, sees_one, sees_then, then_seen}
use Rattle.link_tables.specs.declared.words.LinkWord.TheVariants.{Out}
use Rattle.link_tables.specs.declared.words.LinkWord.{LinkWord}
use Rattle.wire_board.specs.Sights.{FoundWord}
use Rattle.wire_board.proofs.boards.Board.take_home.Goals as goal

pub take_laden_or_bare-requires-clause-sits : goal.take_laden_or_bare-requires-clause-sits
take_laden_or_bare-requires-clause-sits g c = let is = c.in-Laden.is in c.take-found.ensures.missed (λ e. cc)

pub returns-in-Out-clause-missed : goal.returns-in-Out-clause-missed
returns-in-Out-clause-missed g c = let is = c.in-Out.is in λ no. c.take-found.ensures.missed (λ e. cc)

pub returns-in-Bare-clause-sees : goal.returns-in-Bare-clause-sees
returns-in-Bare-clause-sees g c = sees_one c.args.place.now.seat.me c.take-found.new.place.seat.me _ c.take-found.ensures.found

pub returns-in-Out-clause-sees : goal.returns-in-Out-clause-sees
returns-in-Out-clause-sees g c = sees_one c.args.place.now.seat.me c.take-found.new.place.seat.me _ c.take-found.ensures.found

pub returns-in-Out-clause-found : goal.returns-in-Out-clause-found
returns-in-Out-clause-found g c =
    λ no.
    let old = c.args.place.now.seat.me in
    let new = c.take-found.new.place.seat.me in
    (Out, (λ e. cc), subst (λ (w : LinkWord). FoundWord old new c.args.link w) c.in-Out.is (seen_one old new _ c.take-found.ensures.found))

pub returns-in-Laden-clause-found : goal.returns-in-Laden-clause-found
returns-in-Laden-clause-found g c =
    λ no.
    let old = c.args.place.now.seat.me in
    let mid = c.take-found.new.place.seat.me in
    let f = c.take_laden_or_bare.ensures.found no in
    (f.0, f.1, then_seen old mid c.take_laden_or_bare.new.place.seat.me _ (sees_one old mid _ c.take-found.ensures.found) f.2)

pub returns-in-Laden-clause-sees : goal.returns-in-Laden-clause-sees
returns-in-Laden-clause-sees g c =
    let old = c.args.place.now.seat.me in
    let mid = c.take-found.new.place.seat.me in
    sees_then old mid c.take_laden_or_bare.new.place.seat.me (sees_one old mid _ c.take-found.ensures.found) c.take_laden_or_bare.ensures.sees
