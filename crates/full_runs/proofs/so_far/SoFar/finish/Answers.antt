use Rattle.std.proofs.Common.{◌≡◌, ◌≤◌, ◌+◌, length, ap, ◌∙◌, arith}
use Rattle.full_cluster.specs.Owners.{owner_in}
use Rattle.full_runs.proofs.EndLemmas.{none_left, spent_so}
use Rattle.full_runs.proofs.so_far.SoFar.finish.Goals as goal

pub loop-made-init : goal.loop-made-init
loop-made-init g c = record { so_far = c.requires.so_far; long = let there = c.args.self.order.ok in omega (arith, c.len-first.ensures, there) }

pub loop-made-preserved : goal.loop-made-preserved
loop-made-preserved g c =
    record {
      so_far = c.in_ok-update.ensures.so_far c.loop-made.invariant.so_far;
      long = c.in_ok-update.ensures.longer ∙ ap (λ n. n + 1) c.loop-made.invariant.long;
    }

pub returns-in_default : goal.returns-in_default
returns-in_default g c =
    let run = c.loop-made.run in
    let few : length run.order.items ≤ c.args.budget = omega (arith, c.loop-made.invariant.long, c.loop-made-test.true) in
    rw (c.ended.ensures.order, c.ended.ensures.values, c.ended.ensures.edges, c.ended.ensures.left)
    (none_left c.args.division.now.graph.now (g.P.FullProgram.meaning c.args.program.now) (owner_in c.args.division.now.owner.now) c.args.budget run.order.items run.values.items run.edges.items run.tasks c.loop-made.invariant.so_far few c.in_default.ensures)

pub returns : goal.returns
returns g c =
    let run = c.loop-made.run in
    let spent : length run.order.items ≡ c.args.budget = omega (arith, c.loop-made.invariant.long, c.loop-made-test.false, c.loop-made.auto._made-end) in
    rw (c.ended-2.ensures.order, c.ended-2.ensures.values, c.ended-2.ensures.edges, c.ended-2.ensures.left)
    (spent_so c.args.division.now.graph.now (g.P.FullProgram.meaning c.args.program.now) (owner_in c.args.division.now.owner.now) c.args.budget run.order.items run.values.items run.edges.items run.tasks c.loop-made.invariant.so_far spent c.front-left.result c.front-left.ensures)
