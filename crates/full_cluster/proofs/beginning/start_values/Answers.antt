use Rattle.std.proofs.Common.{◌≡◌, ◌∙◌, ap, arith, subst}
use Rattle.graph_core.specs.DataGraph.{size}
use Rattle.seq_run.specs.Runs.{AreNumbers}
use Rattle.full_scope.specs.FullStates.{full_start}
use Rattle.seq_run.proofs.Playing.{numbers_more}
use Rattle.full_cluster.proofs.beginning.start_values.Goals as goal

pub loop-v-preserved : goal.loop-v-preserved
loop-v-preserved g c =
    let meaning = g.P.FullProgram.meaning c.args.program.now in
    rw c.in_ok-push.ensures.items (numbers_more c.loop-v.v c.start.result (full_start c.args.graph.now meaning).vertex c.loop-v.values.items c.loop-v.invariant (c.start.ensures ∙ ap meaning.start c.id.ensures))

pub returns : goal.returns
returns g c =
    let end : c.loop-v.v ≡ size c.args.graph.now = omega (arith, c.n-v-end.ensures.count, c.loop-v.auto.v-end) in
    subst (λ k. AreNumbers k (full_start c.args.graph.now (g.P.FullProgram.meaning c.args.program.now)).vertex c.loop-v.values.items) end c.loop-v.invariant
