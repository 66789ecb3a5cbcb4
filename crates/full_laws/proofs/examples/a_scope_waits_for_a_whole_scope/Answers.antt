-- Each action, computed.
use Rattle.full_laws.proofs.WorkedScopes.{both_may, edges, first_may, held, matched, not_now, numbers, third_may, updates}
use Rattle.full_laws.proofs.examples.a_scope_waits_for_a_whole_scope.Goals as goal

pub returns-clause-both_may : goal.returns-clause-both_may
returns-clause-both_may c = both_may

pub returns-clause-held : goal.returns-clause-held
returns-clause-held c = held

pub returns-clause-not_now : goal.returns-clause-not_now
returns-clause-not_now c = not_now

pub returns-clause-third_may : goal.returns-clause-third_may
returns-clause-third_may c = third_may

pub returns-clause-matched : goal.returns-clause-matched
returns-clause-matched c = matched

pub returns-clause-first_may : goal.returns-clause-first_may
returns-clause-first_may c = first_may

pub returns-clause-numbers : goal.returns-clause-numbers
returns-clause-numbers c = numbers

pub returns-clause-edges : goal.returns-clause-edges
returns-clause-edges c = edges

pub returns-clause-updates : goal.returns-clause-updates
returns-clause-updates c = updates
