-- Action after action.
use Rattle.std.proofs.Common.{[], ◌++◌}
use Rattle.cluster_laws.proofs.cluster_numbers.Starting.{copies_start, replay_start, run_goes_on}
use Rattle.cluster_laws.proofs.cluster_numbers.laws.runs_keep_numbers.Goals as goal

pub returns : goal.returns
returns c = λ st start actions new is starts run.
    let gone = run_goes_on st is actions start new [] (copies_start st is start starts) (replay_start st is start starts) run in
    (gone.copies, [] ++ gone.rest, gone.replay)
