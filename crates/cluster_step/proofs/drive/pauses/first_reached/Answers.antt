-- All machines so far have reached no count.
use Rattle.std.proofs.Common.{◌≡◌, ℕ, ◌<◌, ◌∙◌, arith, false, length, sym}
use Rattle.call_laws.specs.whole_calls.Following.{has_reached}
use Rattle.cluster_step.specs.drive.Pauses.{InEachTrace}
use Rattle.cluster_step.proofs.drive.pauses.first_reached.Given as given
use Rattle.cluster_step.proofs.drive.pauses.first_reached.Goals as goal
use borrow.Author.Count.{below_more}

pub loop-m-preserved : goal.loop-m-preserved
loop-m-preserved g c =
    below_more (λ a. InEachTrace g.M.SavingMachine.represents c.args.trace.now (λ st o events x. has_reached c.args.trace.now.failures x a ≡ false)) c.loop-m.m c.loop-m.invariant
    (λ st o events x is. sym (c.has_reached.ensures st o events x is) ∙ c.if-has_reached.false)

below : (g : given.Over) (c : goal.After-loop-m g) (a : ℕ) → a < length c.args.trace.now.now.machines.items → a < c.loop-m.m
below g c a low = omega (arith, c.machines-m-end.ensures.count, c.loop-m-test.false)

pub returns-clause-none : goal.returns-clause-none
returns-clause-none g c = λ a low. c.loop-m.invariant a (below g c a low)
