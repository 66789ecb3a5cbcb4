-- One machine more was told; in the end none is left.
use Rattle.std.proofs.Common.{◌≡◌, ◌⊎◌, true, List, ◌∷◌, [], length, sym, ap, ◌∙◌, subst, arith}
use Rattle.std.specs.Vec.Iter.{into_iter_items}
use Rattle.machine_core.specs.declared.machine_updates.reserving.Prepared.{Prepared}
use Rattle.machine_core.specs.machine_updates.Reserving.{is_to_be_told}
use Rattle.machine_core.specs.machine_updates.Telling.{HasWord}
use Rattle.machine_core.proofs.machine_updates.TellLemmas.{telling_on, nothing_left, word_of}
use Rattle.machine_core.proofs.machine_updates.telling.tell_all.Goals as goal

pub loop-one-preserved : goal.loop-one-preserved
loop-one-preserved c =
    let at = c.loop-one in
    let steps : into_iter_items at.one-iterator ≡ c.in-Some.one ∷ into_iter_items c.next.new.self = c.in-Some.ensures.steps.0 in
    record {
      telling =
          telling_on c.args.out.now at.out c.put.new.self c.args.numbers.now c.args.outcome.now (into_iter_items c.into_iter-one-iterator.result) (into_iter_items at.one-iterator)
          c.in-Some.one (into_iter_items c.next.new.self) c.tell.new.done at.invariant.telling steps c.tell.ensures c.put.ensures;
      many =
          let was = at.invariant.many in
          let gone = c.in-Some.ensures.steps.1 in
          let short = ap length steps in
          omega arith;
    }

pub returns-clause-words : goal.returns-clause-words
returns-clause-words c q is_one =
    let at = c.loop-one in
    let empty : into_iter_items at.one-iterator ≡ [] = nothing_left (into_iter_items at.one-iterator) (sym at.invariant.many ∙ c.in-None.ensures.steps.0) in
    let all = c.into_iter-one-iterator.ensures.into_iter_gives.0 in
    let is_told_one = subst (λ (ps : List Prepared). is_to_be_told ps q ≡ true) (sym all) is_one in
    word_of c.args.numbers.now c.args.outcome.now q
    (subst (λ (ps : List Prepared). (is_to_be_told ps q ≡ true) ⊎ HasWord c.args.numbers.now c.args.outcome.now q) empty (at.invariant.telling.words q is_told_one))
