use Rattle.std.proofs.Common.{◌≡◌, [], arith}
use Rattle.full_laws.specs.FullWorlds.{full_way}
use Rattle.full_runs.proofs.quiet.is_silent.Goals as goal
use borrow.Author.Count.{below_more}

pub loop-q-preserved : goal.loop-q-preserved
loop-q-preserved c = λ st p w are.
    below_more (λ q. full_way w c.args.a.0 q ≡ []) c.loop-q.q (c.loop-q.invariant st p w are) (c.has_message.ensures st p w are c.if-has_message.false)

pub returns : goal.returns
returns c = λ st p w are silent q low. c.loop-q.invariant st p w are q (omega (arith, low, c.loop-q-test.false))
