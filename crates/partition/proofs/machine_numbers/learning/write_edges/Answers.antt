use Rattle.std.proofs.Common.{◌≡◌, ℕ, ◌+◌, ◌-◌, ◌<◌, length, subst, arith}
use Rattle.std.proofs.lemmas.List.{get_or_default}
use Rattle.partition.proofs.machine_numbers.LearnLemmas.{AreLearned, learned_more}
use Rattle.partition.proofs.machine_numbers.learning.write_edges.Goals as goal

pub loop-place-preserved : goal.loop-place-preserved
loop-place-preserved c =
    let edges = c.args.edges.now in
    let p = c.loop-place.place in
    let some = c.loop-place-test.true in
    let within = c.loop-place.invariant.inside in
    let inside : p - 1 < length edges = omega arith in
    let whole : p ≡ p - 1 + 1 = omega arith in
    let are : AreLearned c.args.local.now c.loop-place.local edges (p - 1 + 1) = subst (λ (n : ℕ). AreLearned c.args.local.now c.loop-place.local edges n) whole c.loop-place.invariant in
    learned_more c.args.local.now c.loop-place.local c.set_number.new.self edges (p - 1) _ inside (get_or_default edges (p - 1) _ _ inside) are c.set_number.ensures.number c.set_number.ensures.edges c.set_number.ensures.many c.set_number.ensures.rest
