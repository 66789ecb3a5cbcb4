-- It holds the wave or not, and its share is done or not.
use Rattle.snapshot_machines.proofs.wave_counts.CountLemmas.{prompt_counts, prompt_is}
use Rattle.snapshot_machines.proofs.wave_counts.laws.answers_are_prompt.Goals as goal

pub returns : goal.returns
returns c = λ st a sent updates idle old new answer m is can sum made rests has.
    (prompt_is st a sent updates idle old new answer m is can sum made rests has, prompt_counts st a sent updates idle old new answer m is can sum made rests has)
