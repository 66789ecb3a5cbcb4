use Rattle.machine_core.proofs.machine_scopes.LawLemmas.{word_comes}
use Rattle.machine_core.proofs.machine_scopes.laws.words_come_home.Goals as goal

pub returns : goal.returns
returns c = word_comes
