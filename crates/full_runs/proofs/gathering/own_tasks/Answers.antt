use Rattle.std.proofs.Common.{◌≡◌, ℕ, ◌<◌, ◌&&◌, ◌||◌, ◌==◌, ◌∙◌, Bool, ap, arith, subst}
use Rattle.graph_core.specs.DataGraph.{DataGraph, size}
use Rattle.full_runs.proofs.ReadLemmas.{flag_at_end, flag_more, flag_none}
use Rattle.full_runs.proofs.gathering.own_tasks.Goals as goal

pub loop-v-init : goal.loop-v-init
loop-v-init c =
    record {
      count = let many = c.in_ok-tasks.ensures.count in let all = c.n.ensures.count in omega (arith, many, all);
      flags = λ st p w divided are u. c.in_ok-tasks.ensures.none u ∙ flag_none (λ u. (w.part (st.owner u)).task u) u;
    }

pub loop-v-preserved : goal.loop-v-preserved
loop-v-preserved c =
    record {
      count = c.add_if.ensures.count ∙ c.loop-v.invariant.count;
      flags = λ st p w divided are u.
          let f : ℕ → Bool = λ u. (w.part (st.owner u)).task u in
          c.add_if.ensures.tasks u ∙ ap (λ (b : Bool). (c.is_own_task-is_own.result && c.loop-v.v == u) || b) (c.loop-v.invariant.flags st p w divided are u)
          ∙ flag_more f c.loop-v.v u c.is_own_task-is_own.result (c.is_own_task-is_own.ensures st p w divided are);
    }

pub returns-clause-each : goal.returns-clause-each
returns-clause-each c = λ st p w divided are u low.
    let end : c.loop-v.v ≡ size c.args.division.now.graph.now = omega (arith, c.n-v-end.ensures.count, c.loop-v.auto.v-end) in
    let inside : u < size c.args.division.now.graph.now = subst (λ (g : DataGraph). u < size g) divided.graph low in
    c.loop-v.invariant.flags st p w divided are u ∙ flag_at_end (λ u. (w.part (st.owner u)).task u) u c.loop-v.v (omega (arith, end, inside))
