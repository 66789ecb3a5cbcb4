use Rattle.scope_locks.proofs.vertex_locks.LockLemmas.{alone_at, reads_at, not_at}
use Rattle.scope_locks.proofs.vertex_locks.locks.first_waiting.Goals as goal

pub returns-then-held-eq0-clause-next : goal.returns-then-held-eq0-clause-next
returns-then-held-eq0-clause-next c = alone_at c.args.claims.now c.args.held _ c.if-held-eq0.true c.if-held-claims.false

pub returns-then-go_together-clause-next : goal.returns-then-go_together-clause-next
returns-then-go_together-clause-next c = reads_at c.args.claims.now c.args.held _ _ c.requires c.if-held-eq0.false c.if-held-claims.false (c.go_together.ensures.yes c.if-go_together.true)

pub returns-else-go_together-clause-none : goal.returns-else-go_together-clause-none
returns-else-go_together-clause-none c = λ is next says. not_at c.args.claims.now c.args.held _ _ next c.requires c.if-held-eq0.false c.if-held-claims.false (c.go_together.ensures.not c.if-go_together.false) says
