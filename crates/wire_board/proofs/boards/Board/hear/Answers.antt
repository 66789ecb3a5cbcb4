use Rattle.std.proofs.Common.{inl, inr, refl, subst, ℕ}
use Rattle.link_tables.specs.declared.words.LinkWord.TheVariants.{Bare, Out}
use Rattle.link_tables.specs.declared.words.LinkWord.{LinkWord}
use Rattle.wire_board.proofs.Sighting.{if_ok_to, looked_sees, looked_then, then_had}
use Rattle.wire_board.specs.Sights.{FoundWord, HadQueue, HasLooked}
use Rattle.wire_board.proofs.boards.Board.hear.Goals as goal

pub returns-in-Bare-clause-sits : goal.returns-in-Bare-clause-sits
returns-in-Bare-clause-sits g c = let is = c.in-Bare.is in c.take_laden.ensures.missed (λ e. cc)

pub returns-in-Out-clause-sits : goal.returns-in-Out-clause-sits
returns-in-Out-clause-sits g c = let is = c.in-Out.is in c.take_laden.ensures.missed (λ e. cc)

pub returns-in-Bare-clause-empty : goal.returns-in-Bare-clause-empty
returns-in-Bare-clause-empty g c =
    λ same.
    let old = c.args.place.now.seat.me in
    let new = c.take_laden.new.place.seat.me in
    (refl, inl (subst (λ (i : ℕ). FoundWord old new i Bare) c.link-link.ensures.number (subst (λ (w : LinkWord). FoundWord old new c.link-link.result w) c.in-Bare.is c.take_laden.ensures.found)))

pub returns-in-Out-clause-busy : goal.returns-in-Out-clause-busy
returns-in-Out-clause-busy g c =
    λ same.
    let old = c.args.place.now.seat.me in
    let new = c.take_laden.new.place.seat.me in
    (refl, subst (λ (i : ℕ). FoundWord old new i Out) c.link-link.ensures.number (subst (λ (w : LinkWord). FoundWord old new c.link-link.result w) c.in-Out.is c.take_laden.ensures.found))

pub returns-in-Bare-clause-looked : goal.returns-in-Bare-clause-looked
returns-in-Bare-clause-looked g c = subst (λ (i : ℕ). HasLooked c.args.place.now.seat.me c.take_laden.new.place.seat.me i) c.link-link.ensures.number (_, c.take_laden.ensures.found)

pub returns-in-Out-clause-looked : goal.returns-in-Out-clause-looked
returns-in-Out-clause-looked g c = subst (λ (i : ℕ). HasLooked c.args.place.now.seat.me c.take_laden.new.place.seat.me i) c.link-link.ensures.number (_, c.take_laden.ensures.found)

pub returns-in-Laden-clause-looked : goal.returns-in-Laden-clause-looked
returns-in-Laden-clause-looked g c =
    let old = c.args.place.now.seat.me in
    let mid = c.take_laden.new.place.seat.me in
    let new = c.hear_taken.new.place.seat.me in
    subst (λ (i : ℕ). HasLooked old new i) c.link-link.ensures.number (looked_then old mid new c.link-link.result (_, c.take_laden.ensures.found) c.hear_taken.ensures.sees)

pub returns-in-Laden-clause-empty : goal.returns-in-Laden-clause-empty
returns-in-Laden-clause-empty g c =
    let old = c.args.place.now.seat.me in
    let mid = c.take_laden.new.place.seat.me in
    let new = c.hear_taken.new.place.seat.me in
    let sees = looked_sees old mid mid c.link-link.result (_, c.take_laden.ensures.found) in
    if_ok_to c.hear_taken.result _ _
    (λ how so same. let e = so same in (
      e.0,
      inr (e.1, e.2, subst (λ (i : ℕ). HadQueue old new i e.1) c.link-link.ensures.number (then_had old mid new c.link-link.result e.1 sees e.3)),
    ))
    c.hear_taken.ensures.empty

pub returns-in-Laden-clause-applied : goal.returns-in-Laden-clause-applied
returns-in-Laden-clause-applied g c =
    let old = c.args.place.now.seat.me in
    let mid = c.take_laden.new.place.seat.me in
    let new = c.hear_taken.new.place.seat.me in
    let sees = looked_sees old mid mid c.link-link.result (_, c.take_laden.ensures.found) in
    if_ok_to c.hear_taken.result _ _
    (λ how so same. let e = so same in (
      e.0,
      e.1,
      e.2,
      e.3,
      e.4,
      e.5,
      subst (λ (i : ℕ). HadQueue old new i e.4) c.link-link.ensures.number (then_had old mid new c.link-link.result e.4 sees e.6),
    ))
    c.hear_taken.ensures.applied
