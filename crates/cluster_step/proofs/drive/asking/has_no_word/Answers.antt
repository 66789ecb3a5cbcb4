-- Of no machine so far is word on its way.
use Rattle.std.proofs.Common.{ℕ, ◌<◌, arith, length}
use Rattle.call_laws.specs.whole_calls.Telling.{HasNoWordAt}
use Rattle.cluster_step.proofs.drive.SnapshotLemmas.{machine_low}
use Rattle.cluster_step.specs.drive.Pauses.{InEachTrace}
use Rattle.cluster_step.proofs.drive.asking.has_no_word.Given as given
use Rattle.cluster_step.proofs.drive.asking.has_no_word.Goals as goal
use Rattle.cluster_step.proofs.drive.asking.has_no_word.Goals.{After-loop-m}
use borrow.Author.Count.{below_more}

pub loop-m-preserved : goal.loop-m-preserved
loop-m-preserved g c =
    below_more (λ a. InEachTrace g.M.SavingMachine.represents c.args.trace.now (λ st o events x. HasNoWordAt x a)) c.loop-m.m c.loop-m.invariant
    (λ st o events x is. (c.has_word.ensures st o events x is).0 c.if-has_word.false)

below : (g : given.Over) (c : After-loop-m g) (a : ℕ) → a < length c.args.trace.now.now.machines.items → a < c.loop-m.m
below g c a low = omega (arith, c.machines-m-end.ensures.count, c.loop-m-test.false)

pub returns : goal.returns
returns g c = λ yes st o events x is a low. c.loop-m.invariant a (below g c a (machine_low g.M.SavingMachine.represents c.args.trace.now st o events x is a low)) st o events x is
