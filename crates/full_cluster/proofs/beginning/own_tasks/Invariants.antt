use Rattle.std.proofs.Common.{◌≡◌, vec_capacity}
use Rattle.full_cluster.specs.FullStarts.{AreOwnTasks}
use Rattle.full_cluster.specs.Owners.{owner_in}
use Rattle.full_cluster.proofs.beginning.own_tasks.Given as goal

abbrev pub invariant-loop-v : goal.invariant-loop-v
invariant-loop-v l =
    record {
      marks : AreOwnTasks (owner_in l.division.owner.now) l.me.0 l.v l.tasks.items;
      room : vec_capacity l.tasks ≡ l.n;
    }
