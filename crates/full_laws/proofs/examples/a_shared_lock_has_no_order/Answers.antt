-- Two holders, and two numbers for one vertex.
use Rattle.full_laws.proofs.WorkedScopes.{no_order, shared_may, two_hold}
use Rattle.full_laws.proofs.examples.a_shared_lock_has_no_order.Goals as goal

pub returns-clause-holders : goal.returns-clause-holders
returns-clause-holders c = two_hold

pub returns-clause-may : goal.returns-clause-may
returns-clause-may c = shared_may

pub returns-clause-order : goal.returns-clause-order
returns-clause-order c = no_order
