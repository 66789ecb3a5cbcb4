use Rattle.std.proofs.Common.{◌+◌, sym, ap, ◌∙◌, subst, arith}
use Rattle.graph_core.specs.Halves.{halves_of}
use Rattle.graph_core.specs.color_steps.Inner.Stamps.{AreStamped, IsFirstWithout}
use Rattle.graph_core.proofs.color_steps.GreedyLaws.{greedy_proper}
use Rattle.graph_core.proofs.color_steps.TakenLemmas.{AreTurns, some_free, turned}
use Rattle.graph_core.proofs.color_steps.greedy.greedy_colouring.Goals as goal

pub first_without-requires-clause-some : goal.first_without-requires-clause-some
first_without-requires-clause-some c =
    let g = c.args.graph.now in
    let colours = c.loop-v.colours.items in
    let new = c.stamp_taken.new.stamps.items in
    let halves = c.halves.result.now in
    let stamped : AreStamped (c.loop-v.v + 1) colours halves c.loop-v.stamps.items new = subst (λ xs. AreStamped (c.loop-v.v + 1) xs halves c.loop-v.stamps.items new) c.deref.ensures.value c.stamp_taken.ensures.stamps in
    let free = some_free g colours c.loop-v.stamps.items new halves c.n-count.ensures.graph (c.halves.ensures ∙ ap (halves_of g) (sym c.loop-v.invariant.count)) (omega (arith, c.loop-v.invariant.count, c.n-count.ensures.count, c.loop-v-test.true)) c.loop-v.invariant.turns c.stamp_taken.ensures.len (c.loop-v.v + 1) (omega (arith, c.loop-v.invariant.count)) stamped in
    rw c.deref-in-loop-v.ensures.value free

pub loop-v-preserved : goal.loop-v-preserved
loop-v-preserved c =
    let g = c.args.graph.now in
    let colours = c.loop-v.colours.items in
    let new = c.stamp_taken.new.stamps.items in
    let halves = c.halves.result.now in
    let at = c.loop-v.invariant.count in
    let stamped : AreStamped (c.loop-v.v + 1) colours halves c.loop-v.stamps.items new = subst (λ xs. AreStamped (c.loop-v.v + 1) xs halves c.loop-v.stamps.items new) c.deref.ensures.value c.stamp_taken.ensures.stamps in
    let first : IsFirstWithout new (c.loop-v.v + 1) c.first_without.result = subst (λ xs. IsFirstWithout xs (c.loop-v.v + 1) c.first_without.result) c.deref-in-loop-v.ensures.value c.first_without.ensures in
    let turns = turned g colours c.loop-v.stamps.items new halves c.n-count.ensures.graph (c.halves.ensures ∙ ap (halves_of g) (sym at)) (omega (arith, at, c.n-count.ensures.count, c.loop-v-test.true)) c.loop-v.invariant.turns c.stamp_taken.ensures.len (c.loop-v.v + 1) (omega (arith, at)) stamped c.first_without.result first in
    record {
      count = omega (arith, c.push_reserved.ensures.len, at);
      room = omega (arith, c.push_reserved.ensures.capacity, c.loop-v.invariant.room);
      turns = subst (λ xs. AreTurns g xs new) (sym c.push_reserved.ensures.items) turns;
    }

pub returns-clause-proper : goal.returns-clause-proper
returns-clause-proper c =
    greedy_proper c.args.graph.now _ c.n-count.ensures.graph (λ v l. c.loop-v.invariant.turns.greedy v (omega (arith, c.loop-v.invariant.count, c.n-count.ensures.count, c.loop-v-test.false, l)))
