use Rattle.std.proofs.Common.{rules, ◌≡◌, ◌≢◌, [], refl, ap}
use Rattle.link_tables.proofs.Standing.{rests_on, rests_given, holds_taken, holds_another}
use Rattle.link_tables.proofs.posting.put.Goals as goal

pub take-requires-clause-rests : goal.take-requires-clause-rests
take-requires-clause-rests c = let node = c.args.node.now in
    (node, node, [], refl, rests_on _ _ node [] _ _ c.requires.rests c.look-word.ensures.found, refl, (λ parts links next left at all. tt), (λ parts links next left q at there all. tt))

pub exchange-queue-requires-clause-holds : goal.exchange-queue-requires-clause-holds
exchange-queue-requires-clause-holds c =
    let same : c.take.result ≡ c.look-word.result = search rules in
    let t = c.take.ensures.taken same c.args.node.now refl in
    (t.0, ap (λ me. me.1) t.1)

pub exchange-requires-clause-holds : goal.exchange-requires-clause-holds
exchange-requires-clause-holds c = (_, ap (λ me. me.1) c.exchange-queue.ensures.now)

pub give-requires-clause-holds : goal.give-requires-clause-holds
give-requires-clause-holds c =
    let node = c.args.node.now in
    let same : c.take.result ≡ c.look-word.result = search rules in
    let t = c.take.ensures.taken same node refl in
    let rest = rests_on _ _ node [] _ _ c.requires.rests c.look-word.ensures.found in
    let taken = holds_taken _ _ node node [] c.args.link t.0 _ rest t.1 in
    let first = holds_another _ _ node [] c.args.link t.0 _ _ taken c.exchange-queue.ensures.now in
    (node, node, [], t.0, _, refl, holds_another _ _ node [] c.args.link t.0 _ _ first c.exchange.ensures.now, (λ bare. tt), refl, (λ parts links next left at there all. tt))

pub returns-then-eq-clause-rests : goal.returns-then-eq-clause-rests
returns-then-eq-clause-rests c = rests_on _ _ c.args.node.now [] _ _ c.requires.rests c.look-word.ensures.found

pub returns-then-ne-clause-rests : goal.returns-then-ne-clause-rests
returns-then-ne-clause-rests c =
    let other : c.take.result ≢ c.look-word.result = search rules in
    rests_on _ _ c.args.node.now [] _ _ (rests_on _ _ c.args.node.now [] _ _ c.requires.rests c.look-word.ensures.found) (c.take.ensures.missed other)

pub returns-in_err-filled-clause-rests : goal.returns-in_err-filled-clause-rests
returns-in_err-filled-clause-rests c =
    let node = c.args.node.now in
    let same : c.take.result ≡ c.look-word.result = search rules in
    let t = c.take.ensures.taken same node refl in
    let rest = rests_on _ _ node [] _ _ c.requires.rests c.look-word.ensures.found in
    let taken = holds_taken _ _ node node [] c.args.link t.0 _ rest t.1 in
    let first = holds_another _ _ node [] c.args.link t.0 _ _ taken c.exchange-queue.ensures.now in
    rests_given _ _ node node [] c.args.link t.0 _ _ (holds_another _ _ node [] c.args.link t.0 _ _ first c.exchange.ensures.now) (c.give.ensures.given node refl)

pub returns-clause-rests : goal.returns-clause-rests
returns-clause-rests c =
    let node = c.args.node.now in
    let same : c.take.result ≡ c.look-word.result = search rules in
    let t = c.take.ensures.taken same node refl in
    let rest = rests_on _ _ node [] _ _ c.requires.rests c.look-word.ensures.found in
    let taken = holds_taken _ _ node node [] c.args.link t.0 _ rest t.1 in
    let first = holds_another _ _ node [] c.args.link t.0 _ _ taken c.exchange-queue.ensures.now in
    rests_given _ _ node node [] c.args.link t.0 _ _ (holds_another _ _ node [] c.args.link t.0 _ _ first c.exchange.ensures.now) (c.give.ensures.given node refl)
