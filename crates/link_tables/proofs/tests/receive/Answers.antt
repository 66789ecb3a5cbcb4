use Rattle.std.proofs.Common.{rules, ◌≡◌, ◌∙◌, ℕ, ◌<◌, [], Option, None, IfSome, refl, sym, ap, subst}
use Rattle.link_tables.specs.Seats.{Sat}
use Rattle.link_tables.specs.declared.tests.Node.{Node}
use Rattle.link_tables.specs.declared.words.LinkWord.TheVariants.{Laden}
use Rattle.link_tables.proofs.Lists.{all_put}
use Rattle.link_tables.proofs.Standing.{rests_given, holds_taken, holds_another, same_queue}
use Rattle.link_tables.proofs.tests.receive.Goals as goal

pub take-word-requires-clause-rests : goal.take-word-requires-clause-rests
take-word-requires-clause-rests g c = let node = c.args.node.now in
    (node, node, [], refl, c.loop.invariant.rests, refl, (λ parts links next left at all. all), (λ parts links next left q at there all. all 0 q there))

pub exchange-mail-requires-clause-holds : goal.exchange-mail-requires-clause-holds
exchange-mail-requires-clause-holds g c =
    let same : c.take-word.result ≡ Laden = search rules in
    let t = c.take-word.ensures.taken same c.args.node.now refl in
    (t.0, ap (λ (me : Sat Node (Option ℕ)). me.1) t.1)

pub give-requires-clause-holds : goal.give-requires-clause-holds
give-requires-clause-holds g c =
    let node = c.args.node.now in
    let same : c.take-word.result ≡ Laden = search rules in
    let t = c.take-word.ensures.taken same node refl in
    let taken = holds_taken _ _ node node [] 0 t.0 _ c.loop.invariant.rests t.1 in (
      node,
      node,
      [],
      t.0,
      None,
      refl,
      holds_another _ _ node [] 0 t.0 _ _ taken c.exchange-mail.ensures.now,
      (λ bare. refl),
      refl,
      (λ parts links next left at there all. all_put (λ (mail : Option ℕ). IfSome mail (λ message. message < 100)) links 0 None tt all),
    )

pub returns-in-Some-mail-clause-rests : goal.returns-in-Some-mail-clause-rests
returns-in-Some-mail-clause-rests g c =
    let node = c.args.node.now in
    let same : c.take-word.result ≡ Laden = search rules in
    let t = c.take-word.ensures.taken same node refl in
    let taken = holds_taken _ _ node node [] 0 t.0 _ c.loop.invariant.rests t.1 in
    rests_given _ _ node node [] 0 t.0 _ _ (holds_another _ _ node [] 0 t.0 _ _ taken c.exchange-mail.ensures.now) (c.give.ensures.given node refl)

pub returns-in-Some-mail-clause-few : goal.returns-in-Some-mail-clause-few
returns-in-Some-mail-clause-few g c =
    let same : c.take-word.result ≡ Laden = search rules in
    let t = c.take-word.ensures.taken same c.args.node.now refl in
    let mail = same_queue 0 t.0 c.exchange-mail.result (sym (ap (λ (me : Sat Node (Option ℕ)). me.1) t.1) ∙ c.exchange-mail.ensures.was) in
    subst (λ (q : Option ℕ). IfSome q (λ message. message < 100)) (mail ∙ c.in-Some-mail.is) t.2

pub loop-preserved-in_default : goal.loop-preserved-in_default
loop-preserved-in_default g c =
    let node = c.args.node.now in
    let same : c.take-word.result ≡ Laden = search rules in
    let t = c.take-word.ensures.taken same node refl in
    let taken = holds_taken _ _ node node [] 0 t.0 _ c.loop.invariant.rests t.1 in
    record {
      table = search rules;
      rests = rests_given _ _ node node [] 0 t.0 _ _ (holds_another _ _ node [] 0 t.0 _ _ taken c.exchange-mail.ensures.now) (c.give.ensures.given node refl);
    }
