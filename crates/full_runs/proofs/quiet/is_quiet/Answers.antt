use Rattle.std.proofs.Common.{◌≡◌, ℕ, ◌<◌, [], arith}
use Rattle.full_laws.specs.FullWorlds.{full_way}
use Rattle.full_runs.proofs.QuietLemmas.{all_given}
use Rattle.full_runs.proofs.quiet.is_quiet.Goals as goal
use borrow.Author.Count.{below_more}

pub loop-a-preserved : goal.loop-a-preserved
loop-a-preserved c = λ st p w are.
    below_more (λ a. (q : ℕ) → q < c.args.machines → full_way w a q ≡ []) c.loop-a.a (c.loop-a.invariant st p w are) (c.is_silent.ensures st p w are c.if-not-is_silent.false)

pub returns : goal.returns
returns c = λ st p w are many quiet.
    all_given st p w c.args.cluster.now are (λ a q low inside. c.loop-a.invariant st p w are a (omega (arith, low, many, c.loop-a-test.false)) q (omega (arith, inside, many)))
