use Rattle.std.proofs.Common.{◌≡◌, ℕ, arith, subst}
use Rattle.graph_core.specs.DataGraph.{size}
use Rattle.seq_run.specs.Runs.{AreNumbers}
use Rattle.seq_run.proofs.Playing.{numbers_more}
use Rattle.full_laws.specs.Items.{AVertex}
use Rattle.full_runs.proofs.ReadLemmas.{none_yet}
use Rattle.full_runs.proofs.gathering.vertex_numbers.Goals as goal

pub loop-v-init : goal.loop-v-init
loop-v-init c = λ st p w divided are. rw c.in_ok-all.ensures.items (none_yet (λ v. (w.part (st.owner v)).number (AVertex v)))

pub loop-v-preserved : goal.loop-v-preserved
loop-v-preserved c = λ st p w divided are.
    rw c.in_ok-push.ensures.items
    (numbers_more c.loop-v.v c.number_of.result (λ v. (w.part (st.owner v)).number (AVertex v)) c.loop-v.all.items (c.loop-v.invariant st p w divided are) (c.number_of.ensures st p w divided are))

pub returns : goal.returns
returns c = λ st p w divided are.
    let end : c.loop-v.v ≡ size c.args.division.now.graph.now = omega (arith, c.n-v-end.ensures.count, c.loop-v.auto.v-end) in
    let numbers : AreNumbers (size c.args.division.now.graph.now) (λ v. (w.part (st.owner v)).number (AVertex v)) c.loop-v.all.items =
    subst (λ (k : ℕ). AreNumbers k (λ v. (w.part (st.owner v)).number (AVertex v)) c.loop-v.all.items) end (c.loop-v.invariant st p w divided are) in
    rw divided.graph numbers
