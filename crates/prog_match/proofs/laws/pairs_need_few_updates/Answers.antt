-- At first every vertex is a task.
use Rattle.std.proofs.Common.{arith, ltb-true}
use Rattle.graph_core.specs.DataGraph.{size}
use Rattle.seq_run.specs.Orders.{all_tasks}
use Rattle.seq_run.proofs.Sums.{count_below-le}
use Rattle.full_scope.specs.FullStates.{full_start}
use Rattle.prog_match.specs.Pairs.{update_of_pairs}
use Rattle.prog_match.proofs.FewUpdates.{few_from}
use Rattle.prog_match.proofs.laws.pairs_need_few_updates.Goals as goal

pub returns : goal.returns
returns c = λ g order valid.
    let all = count_below-le (all_tasks g) (size g) in
    few_from g (full_start g update_of_pairs) (all_tasks g) 0 order (λ u task. ltb-true u (size g) task) valid (omega arith)
