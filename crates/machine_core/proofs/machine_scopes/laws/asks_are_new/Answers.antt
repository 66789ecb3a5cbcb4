use Rattle.machine_core.proofs.machine_scopes.LawLemmas.{ask_is_new, ask_goes_on, home_within}
use Rattle.machine_core.proofs.machine_scopes.laws.asks_are_new.Goals as goal

pub returns-clause-is_new : goal.returns-clause-is_new
returns-clause-is_new c = ask_is_new

pub returns-clause-machines : goal.returns-clause-machines
returns-clause-machines c = ask_goes_on

pub returns-clause-home : goal.returns-clause-home
returns-clause-home c = home_within
