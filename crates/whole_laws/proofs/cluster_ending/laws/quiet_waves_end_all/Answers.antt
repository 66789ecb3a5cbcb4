-- An idle machine does nothing before it receives something or hears of a snapshot.
use Rattle.std.proofs.Common.{le_antisymm, le_trans, ◌≤◌, ℕ, subst, sym}
use Rattle.whole_laws.proofs.cluster_ending.Traces.{since_ends}
use Rattle.whole_laws.proofs.cluster_ending.Finding.{at_rest, rest_ends}
use Rattle.whole_laws.proofs.cluster_ending.laws.quiet_waves_end_all.Goals as goal

pub returns-clause-watched : goal.returns-clause-watched
returns-clause-watched c = λ st cluster watch whole was end none. rest_ends st cluster whole (at_rest st cluster watch was end none)

pub returns-clause-since : goal.returns-clause-since
returns-clause-since c = λ st events old new is followed others no_begins trace two end. since_ends st is events others no_begins old new followed trace two end

pub returns-clause-no_snapshot : goal.returns-clause-no_snapshot
returns-clause-no_snapshot c = λ st cluster followed end none.
    let watch = followed.1 in
    let was = followed.2 in
    rest_ends st cluster followed.0
    (at_rest st cluster watch was end (le_antisymm (le_trans was.numbers.1 was.numbers.2) (subst (λ (n : ℕ). n ≤ watch.begun_before) (sym none) was.numbers.0)))
