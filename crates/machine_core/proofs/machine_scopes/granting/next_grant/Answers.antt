use Rattle.machine_core.proofs.machine_scopes.GrantLemmas.{next_none, next_some}
use Rattle.machine_core.proofs.machine_scopes.granting.next_grant.Goals as goal

pub returns-clause-some : goal.returns-clause-some
returns-clause-some c = next_some c.args.core.now c.next_grant.result c.requires c.next_grant.ensures.next

pub returns-clause-none : goal.returns-clause-none
returns-clause-none c = next_none c.args.core.now c.next_grant.result c.requires c.next_grant.ensures.next
