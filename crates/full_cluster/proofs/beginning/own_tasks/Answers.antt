use Rattle.std.proofs.Common.{◌≡◌, ◌∙◌, ◌+◌, ◌==◌, ℕ, List, Bool, ap, arith, subst, sym}
use Rattle.graph_core.specs.DataGraph.{size}
use Rattle.full_cluster.specs.FullStarts.{AreOwnTasks}
use Rattle.full_cluster.specs.Owners.{owner_in}
use Rattle.full_cluster.proofs.StartLemmas.{own_more}
use Rattle.full_cluster.proofs.beginning.own_tasks.Goals as goal

pub loop-v-preserved : goal.loop-v-preserved
loop-v-preserved c =
    let owner : ℕ → ℕ = owner_in c.args.division.now.owner.now in
    record {
      marks = subst (λ (marks : List Bool). AreOwnTasks owner c.args.me.0 (c.loop-v.v + 1) marks) (sym c.push_reserved.ensures.items)
          (own_more owner c.args.me.0 c.loop-v.v c.loop-v.tasks.items (c.owner_of-owner.result.0 == c.args.me.0) c.loop-v.invariant.marks (ap (λ (a : ℕ). a == c.args.me.0) c.owner_of-owner.ensures));
      room = c.push_reserved.ensures.capacity ∙ c.loop-v.invariant.room;
    }

pub returns : goal.returns
returns c =
    let end : c.loop-v.v ≡ size c.args.division.now.graph.now = omega (arith, c.n-n.ensures.count, c.loop-v.auto.v-end) in
    subst (λ (k : ℕ). AreOwnTasks (owner_in c.args.division.now.owner.now) c.args.me.0 k c.loop-v.tasks.items) end c.loop-v.invariant.marks
