use Rattle.std.proofs.Common.{◌≡◌, ◌∙◌, ℕ, List, replicate, sym, ap, subst, arith}
use Rattle.graph_core.specs.DataGraph.{size}
use Rattle.seq_run.specs.Runs.{AreNumbers}
use Rattle.full_cluster.proofs.StartLemmas.{lists_at_start}
use Rattle.full_cluster.proofs.kept.KeptNumbers.new.Goals as goal

pub returns : goal.returns
returns c = λ st s divided numbers none.
    let d = c.args.division.now in
    let copied : c.in_ok-numbers.numbers.items ≡ c.args.values.now = c.in_ok-numbers.ensures.items in
    let zeros : c.in_ok-edges.edges.items ≡ replicate c.m.result 0 = c.in_ok-edges.ensures.items_if_clones_equal (λ y clone. clone) in
    let long = c.in_ok-edges.edges.ok.0 in
    let many = c.in_ok-edges.ensures.len in
    let edges = c.m.ensures.count in
    lists_at_start st d s c.args.me.0 c.in_ok-numbers.numbers.items c.in_ok-edges.edges.items c.in_ok-tasks.tasks.items divided
    (subst (λ (xs : List ℕ). AreNumbers (size st.graph) s.vertex xs) (sym copied) numbers) none
    (zeros ∙ ap (λ (n : ℕ). replicate n 0) edges) (omega (arith, long, many, edges)) c.in_ok-tasks.ensures
