use Rattle.std.proofs.Common.{rules, ◌≡◌, ℕ, ◌<◌, [], Option, Some, IfSome, refl, ap}
use Rattle.link_tables.specs.Seats.{Sat}
use Rattle.link_tables.specs.declared.tests.Node.{Node}
use Rattle.link_tables.proofs.Lists.{all_put}
use Rattle.link_tables.proofs.Standing.{rests_on, rests_given, holds_taken, holds_another}
use Rattle.link_tables.proofs.tests.send.Goals as goal

pub take-requires-clause-rests : goal.take-requires-clause-rests
take-requires-clause-rests g c = let node = c.args.node.now in
    (node, node, [], refl, rests_on _ _ node [] _ _ c.loop.invariant.rests c.look-word.ensures.found, refl, (λ parts links next left at all. all), (λ parts links next left q at there all. all 0 q there))

pub exchange-requires-clause-holds : goal.exchange-requires-clause-holds
exchange-requires-clause-holds g c =
    let same : c.take.result ≡ c.look-word.result = search rules in
    let t = c.take.ensures.taken same c.args.node.now refl in
    (t.0, ap (λ (me : Sat Node (Option ℕ)). me.1) t.1)

pub give-requires-clause-holds : goal.give-requires-clause-holds
give-requires-clause-holds g c =
    let node = c.args.node.now in
    let same : c.take.result ≡ c.look-word.result = search rules in
    let t = c.take.ensures.taken same node refl in
    let rest = rests_on _ _ node [] _ _ c.loop.invariant.rests c.look-word.ensures.found in
    let taken = holds_taken _ _ node node [] 0 t.0 _ rest t.1 in (
      node,
      node,
      [],
      t.0,
      Some c.args.message,
      refl,
      holds_another _ _ node [] 0 t.0 _ _ taken c.exchange.ensures.now,
      (λ bare. cc),
      refl,
      (λ parts links next left at there all. all_put (λ (mail : Option ℕ). IfSome mail (λ message. message < 100)) links 0 (Some c.args.message) c.requires.few all),
    )

pub returns-then-eq-clause-rests : goal.returns-then-eq-clause-rests
returns-then-eq-clause-rests g c =
    let node = c.args.node.now in
    let same : c.take.result ≡ c.look-word.result = search rules in
    let t = c.take.ensures.taken same node refl in
    let rest = rests_on _ _ node [] _ _ c.loop.invariant.rests c.look-word.ensures.found in
    let taken = holds_taken _ _ node node [] 0 t.0 _ rest t.1 in
    rests_given _ _ node node [] 0 t.0 _ _ (holds_another _ _ node [] 0 t.0 _ _ taken c.exchange.ensures.now) (c.give.ensures.given node refl)
