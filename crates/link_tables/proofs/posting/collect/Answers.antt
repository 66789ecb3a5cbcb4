use Rattle.std.proofs.Common.{rules, ◌≡◌, ◌≢◌, [], refl, ap}
use Rattle.link_tables.specs.declared.words.LinkWord.TheVariants.{Laden}
use Rattle.link_tables.proofs.Standing.{rests_on, rests_given, holds_taken, holds_another}
use Rattle.link_tables.proofs.posting.collect.Goals as goal

pub take-word-requires-clause-rests : goal.take-word-requires-clause-rests
take-word-requires-clause-rests c = let node = c.args.node.now in
    (node, node, [], refl, c.requires.rests, refl, (λ parts links next left at all. tt), (λ parts links next left q at there all. tt))

pub exchange-queue-requires-clause-holds : goal.exchange-queue-requires-clause-holds
exchange-queue-requires-clause-holds c =
    let same : c.take-word.result ≡ Laden = search rules in
    let t = c.take-word.ensures.taken same c.args.node.now refl in
    (t.0, ap (λ me. me.1) t.1)

pub give-requires-clause-holds : goal.give-requires-clause-holds
give-requires-clause-holds c =
    let node = c.args.node.now in
    let same : c.take-word.result ≡ Laden = search rules in
    let t = c.take-word.ensures.taken same node refl in
    let taken = holds_taken _ _ node node [] c.args.link t.0 _ c.requires.rests t.1 in
    (node, node, [], t.0, _, refl, holds_another _ _ node [] c.args.link t.0 _ _ taken c.exchange-queue.ensures.now, (λ bare. tt), refl, (λ parts links next left at there all. tt))

pub returns-then-ne-clause-rests : goal.returns-then-ne-clause-rests
returns-then-ne-clause-rests c =
    let other : c.take-word.result ≢ Laden = search rules in
    rests_on _ _ c.args.node.now [] _ _ c.requires.rests (c.take-word.ensures.missed other)

pub returns-clause-rests : goal.returns-clause-rests
returns-clause-rests c =
    let node = c.args.node.now in
    let same : c.take-word.result ≡ Laden = search rules in
    let t = c.take-word.ensures.taken same node refl in
    let taken = holds_taken _ _ node node [] c.args.link t.0 _ c.requires.rests t.1 in
    rests_given _ _ node node [] c.args.link t.0 _ _ (holds_another _ _ node [] c.args.link t.0 _ _ taken c.exchange-queue.ensures.now) (c.give.ensures.given node refl)
