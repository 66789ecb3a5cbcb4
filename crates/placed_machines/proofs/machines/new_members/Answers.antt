use Rattle.std.proofs.Common.{◌≡◌, ◌+◌, ◌<◌, ◌++◌, [], ◌∷◌, ◌∙◌, ℕ, length, slice_index, subst, sym, ap, arith}
use Rattle.std.proofs.lemmas.Iterator.Adapters.{YieldsList-from_vec}
use Rattle.std.proofs.lemmas.Iterator.Consumers.{YieldsList-end, YieldsList-turn}
use Rattle.std.proofs.lemmas.List.{length-append}
use Rattle.placed_machines.proofs.ManyLemmas.{StandSoFar, all_stand, can_save, stand_more, with_serial}
use Rattle.placed_machines.proofs.machines.new_members.Goals as goal

pub bounds-serials-len : goal.bounds-serials-len
bounds-serials-len g c =
    let gives = c.into_iter-local-iterator.ensures.into_iter_gives in
    let turn =
    YieldsList-turn (YieldsList-from_vec {s = c.into_iter-local-iterator.result} c.args.parts.items gives.0 (gives.1 ∙ c.args.parts.ok.0))
    c.loop-local.yielded c.loop-local.local-iterator c.loop-local.yielded_by c.next.result c.next.new.self c.in-Some.local c.in-Some.is c.next.ensures.steps in
    let low : length c.loop-local.yielded < length c.args.parts.items = turn.0 in
    omega (arith, low, c.loop-local.invariant.count, c.requires.serials, c.len-in-loop-local.ensures)

pub offset_bounds-serials-len : goal.offset_bounds-serials-len
offset_bounds-serials-len g c =
    let gives = c.into_iter-local-iterator.ensures.into_iter_gives in
    let turn =
    YieldsList-turn (YieldsList-from_vec {s = c.into_iter-local-iterator.result} c.args.parts.items gives.0 (gives.1 ∙ c.args.parts.ok.0))
    c.loop-local.yielded c.loop-local.local-iterator c.loop-local.yielded_by c.next.result c.next.new.self c.in-Some.local c.in-Some.is c.next.ensures.steps in
    let low : length c.loop-local.yielded < length c.args.parts.items = turn.0 in
    let inside : c.len-in-loop-local.result < length c.args.serials.now = omega (arith, low, c.loop-local.invariant.count, c.requires.serials, c.len-in-loop-local.ensures) in
    grind arith

pub new_locking-requires : goal.new_locking-requires
new_locking-requires g c =
    let gives = c.into_iter-local-iterator.ensures.into_iter_gives in
    let turn =
    YieldsList-turn (YieldsList-from_vec {s = c.into_iter-local-iterator.result} c.args.parts.items gives.0 (gives.1 ∙ c.args.parts.ok.0))
    c.loop-local.yielded c.loop-local.local-iterator c.loop-local.yielded_by c.next.result c.next.new.self c.in-Some.local c.in-Some.is c.next.ensures.steps in
    can_save c.args.parts.items (g.P.Program.meaning c.args.program) c.args.by.now.base.now c.args.by.now.terms c.with_serial-own.result c.args.by.now.places.now (length c.loop-local.yielded) _ c.in-Some.local c.requires.can turn.0 turn.1 c.with_serial-own.ensures

pub loop-local-preserved : goal.loop-local-preserved
loop-local-preserved g c =
    let gives = c.into_iter-local-iterator.ensures.into_iter_gives in
    let turn =
    YieldsList-turn (YieldsList-from_vec {s = c.into_iter-local-iterator.result} c.args.parts.items gives.0 (gives.1 ∙ c.args.parts.ok.0))
    c.loop-local.yielded c.loop-local.local-iterator c.loop-local.yielded_by c.next.result c.next.new.self c.in-Some.local c.in-Some.is c.next.ensures.steps in
    let x = c.in_ok-new_locking.field-0 in
    let pushed : c.push.new.self.items ≡ c.loop-local.placed.items ++ x ∷ [] = c.in_ok-push.ensures.items in
    let place : c.len-in-loop-local.result ≡ length c.loop-local.yielded = c.len-in-loop-local.ensures ∙ c.loop-local.placed.ok.0 ∙ c.loop-local.invariant.count in
    let own : c.with_serial-own.result ≡ with_serial c.args.by.now.terms (slice_index c.args.serials.now (length c.loop-local.yielded)) =
    c.with_serial-own.ensures ∙ ap (λ (k : ℕ). with_serial c.args.by.now.terms (slice_index c.args.serials.now k)) place in
    record {
      count = ap length pushed ∙ length-append c.loop-local.placed.items (x ∷ []) ∙ ap (λ (n : ℕ). n + 1) c.loop-local.invariant.count ∙ sym (length-append c.loop-local.yielded (c.in-Some.local ∷ []));
      stand =
          subst (StandSoFar g.P.Program.meaning c.args.program c.args.parts.items c.args.by.now.base.now c.args.by.now.terms c.args.by.now.places.now c.args.serials.now) (sym pushed)
          (stand_more g.P.Program.meaning c.args.program c.args.parts.items c.args.by.now.base.now c.args.by.now.terms c.args.by.now.places.now c.args.serials.now c.loop-local.placed.items (length c.loop-local.yielded) c.in-Some.local c.with_serial-own.result x
          c.loop-local.invariant.count turn.0 turn.1 own c.in_ok-new_locking.ensures c.loop-local.invariant.stand);
    }

pub returns-clause-stand : goal.returns-clause-stand
returns-clause-stand g c =
    let gives = c.into_iter-local-iterator.ensures.into_iter_gives in
    let end =
    YieldsList-end (YieldsList-from_vec {s = c.into_iter-local-iterator.result} c.args.parts.items gives.0 (gives.1 ∙ c.args.parts.ok.0))
    c.loop-local.yielded c.loop-local.local-iterator c.loop-local.yielded_by c.next.result c.next.new.self c.in-None.is c.next.ensures.steps in
    all_stand g.P.Program.meaning c.args.program c.args.parts.items c.args.by.now.base.now c.args.by.now.terms c.args.by.now.places.now c.args.serials.now c.loop-local.placed.items (c.loop-local.invariant.count ∙ end.1) c.loop-local.invariant.stand

pub returns-clause-many : goal.returns-clause-many
returns-clause-many g c =
    let gives = c.into_iter-local-iterator.ensures.into_iter_gives in
    let end =
    YieldsList-end (YieldsList-from_vec {s = c.into_iter-local-iterator.result} c.args.parts.items gives.0 (gives.1 ∙ c.args.parts.ok.0))
    c.loop-local.yielded c.loop-local.local-iterator c.loop-local.yielded_by c.next.result c.next.new.self c.in-None.is c.next.ensures.steps in
    c.loop-local.invariant.count ∙ end.1
