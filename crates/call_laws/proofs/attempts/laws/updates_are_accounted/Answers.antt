-- Attempt after attempt, what was held and what was not.
use Rattle.call_laws.proofs.attempts.Accounting.{call_accounted, call_kept}
use Rattle.call_laws.proofs.attempts.Pieces.{call_between}
use Rattle.call_laws.proofs.attempts.laws.updates_are_accounted.Goals as goal

pub returns-clause-together : goal.returns-clause-together
returns-clause-together c = λ shared call is. call_accounted shared call is

pub returns-clause-between : goal.returns-clause-between
returns-clause-between c = λ shared call is. call_between shared call is

pub returns-clause-kept : goal.returns-clause-kept
returns-clause-kept c = λ shared call is. call_kept shared call is
