use Rattle.std.proofs.Common.{◌≡◌, ◌∙◌, ℕ, length, ap, arith, subst, sym}
use Rattle.cluster_laws.specs.cluster_core.Copies.{from_owner}
use Rattle.graph_core.specs.DataGraph.{DataGraph}
use Rattle.seq_run.specs.Runs.{AreNumbers}
use Rattle.seq_run.proofs.Playing.{numbers_more}
use Rattle.full_laws.specs.Items.{AnEdge}
use Rattle.full_runs.proofs.ReadLemmas.{none_yet}
use Rattle.full_runs.proofs.gathering.edge_numbers.Goals as goal

pub loop-e-init : goal.loop-e-init
loop-e-init c = λ st p w divided are. rw c.in_ok-all.ensures.items (none_yet (λ e. (w.part (from_owner st e)).number (AnEdge e)))

pub loop-e-preserved : goal.loop-e-preserved
loop-e-preserved c = λ st p w divided are.
    rw c.in_ok-push.ensures.items
    (numbers_more c.loop-e.e c.edge_of.result (λ e. (w.part (from_owner st e)).number (AnEdge e)) c.loop-e.all.items (c.loop-e.invariant st p w divided are) (c.edge_of.ensures st p w divided are))

pub returns : goal.returns
returns c = λ st p w divided are.
    let end : c.loop-e.e ≡ length c.args.division.now.graph.now.edges = omega (arith, c.m-e-end.ensures.count, c.loop-e.auto.e-end) in
    let many : length c.args.division.now.graph.now.edges ≡ length st.graph.edges = ap (λ (g : DataGraph). length g.edges) (sym divided.graph) in
    subst (λ (k : ℕ). AreNumbers k (λ e. (w.part (from_owner st e)).number (AnEdge e)) c.loop-e.all.items) (end ∙ many) (c.loop-e.invariant st p w divided are)
