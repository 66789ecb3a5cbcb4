use Rattle.std.proofs.Common.{◌≡◌, ◌+◌, ◌++◌, [], ◌∷◌, ◌∙◌, ℕ, length, subst, sym, ap}
use Rattle.std.proofs.lemmas.Iterator.Adapters.{YieldsList-from_vec}
use Rattle.std.proofs.lemmas.Iterator.Consumers.{YieldsList-end, YieldsList-turn}
use Rattle.std.proofs.lemmas.List.{length-append}
use Rattle.placement.proofs.graphs.AllLemmas.{BeginSoFar, all_begin, begins_more, can_begin}
use Rattle.placement.proofs.graphs.beginning.first_numbers_of_all.Goals as goal

pub first_numbers-requires : goal.first_numbers-requires
first_numbers-requires c =
    let gives = c.into_iter-local-iterator.ensures.into_iter_gives in
    let turn =
    YieldsList-turn (YieldsList-from_vec {s = c.into_iter-local-iterator.result} c.args.parts.items gives.0 (gives.1 ∙ c.args.parts.ok.0))
    c.loop-local.yielded c.loop-local.local-iterator c.loop-local.yielded_by c.next.result c.next.new.self c.in-Some.local c.in-Some.is c.next.ensures.steps in
    can_begin c.args.parts.items c.args.base.now (length c.loop-local.yielded) c.in-Some.local c.requires turn.0 turn.1

pub loop-local-preserved : goal.loop-local-preserved
loop-local-preserved c =
    let gives = c.into_iter-local-iterator.ensures.into_iter_gives in
    let turn =
    YieldsList-turn (YieldsList-from_vec {s = c.into_iter-local-iterator.result} c.args.parts.items gives.0 (gives.1 ∙ c.args.parts.ok.0))
    c.loop-local.yielded c.loop-local.local-iterator c.loop-local.yielded_by c.next.result c.next.new.self c.in-Some.local c.in-Some.is c.next.ensures.steps in
    let n = c.in_ok-first_numbers.field-0 in
    let made = c.in_ok-first_numbers.ensures in
    let pushed : c.push.new.self.items ≡ c.loop-local.all.items ++ n ∷ [] = c.in_ok-push.ensures.items in
    record {
      count = ap length pushed ∙ length-append c.loop-local.all.items (n ∷ []) ∙ ap (λ (m : ℕ). m + 1) c.loop-local.invariant.count ∙ sym (length-append c.loop-local.yielded (c.in-Some.local ∷ []));
      begun =
          subst (BeginSoFar c.args.parts.items c.args.base.now c.args.window) (sym pushed)
          (begins_more c.args.parts.items c.args.base.now c.args.window c.loop-local.all.items (length c.loop-local.yielded) c.in-Some.local n
          c.loop-local.invariant.count turn.0 turn.1 made.numbers made.part made.tasks c.loop-local.invariant.begun);
    }

pub returns : goal.returns
returns c =
    let gives = c.into_iter-local-iterator.ensures.into_iter_gives in
    let end =
    YieldsList-end (YieldsList-from_vec {s = c.into_iter-local-iterator.result} c.args.parts.items gives.0 (gives.1 ∙ c.args.parts.ok.0))
    c.loop-local.yielded c.loop-local.local-iterator c.loop-local.yielded_by c.next.result c.next.new.self c.in-None.is c.next.ensures.steps in
    all_begin c.args.parts.items c.args.base.now c.args.window c.loop-local.all.items (c.loop-local.invariant.count ∙ end.1) c.loop-local.invariant.begun
