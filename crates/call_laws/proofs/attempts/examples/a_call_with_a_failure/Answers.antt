-- By computation.
use Rattle.std.proofs.Common.{refl}
use Rattle.call_laws.proofs.attempts.Worked.{call_is}
use Rattle.call_laws.proofs.attempts.examples.a_call_with_a_failure.Goals as goal

pub returns-clause-premises : goal.returns-clause-premises
returns-clause-premises c = call_is

pub returns-clause-order : goal.returns-clause-order
returns-clause-order c = refl

pub returns-clause-lost : goal.returns-clause-lost
returns-clause-lost c = refl

pub returns-clause-fired : goal.returns-clause-fired
returns-clause-fired c = refl

pub returns-clause-snapshots : goal.returns-clause-snapshots
returns-clause-snapshots c = refl
