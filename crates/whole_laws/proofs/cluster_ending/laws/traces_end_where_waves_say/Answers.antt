-- Event after event from a start.
use Rattle.std.proofs.Common.{le_antisymm, le_trans, ◌≤◌, ℕ, subst, sym}
use Rattle.cluster_laws.specs.cluster_core.Recovering.{going_on}
use Rattle.whole_laws.specs.cluster_whole.Whole.{setting_behind}
use Rattle.whole_laws.proofs.cluster_ending.Traces.{start_followed}
use Rattle.whole_laws.proofs.cluster_ending.Finding.{at_rest, left_finished, no_task_left, rest_ends}
use Rattle.whole_laws.proofs.cluster_ending.laws.traces_end_where_waves_say.Goals as goal

pub returns-clause-order : goal.returns-clause-order
returns-clause-order c = λ st base first events cluster is coloured trace end.
    let later = setting_behind (going_on st base.numbers base.number) events in
    let kept = start_followed st is coloured base first events cluster trace in
    left_finished later kept.is cluster kept.followed.0 (no_task_left later cluster kept.followed.1 kept.followed.2 end)

pub returns-clause-ended : goal.returns-clause-ended
returns-clause-ended c = λ st base first events cluster is coloured trace end none.
    let later = setting_behind (going_on st base.numbers base.number) events in
    let kept = start_followed st is coloured base first events cluster trace in
    let watch = kept.followed.1 in
    let was = kept.followed.2 in
    rest_ends later cluster kept.followed.0
    (at_rest later cluster watch was end (le_antisymm (le_trans was.numbers.1 was.numbers.2) (subst (λ (n : ℕ). n ≤ watch.begun_before) (sym none) was.numbers.0)))
