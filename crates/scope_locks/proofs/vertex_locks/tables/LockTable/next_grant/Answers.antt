use Rattle.std.proofs.Common.{◌≡◌, ◌∙◌, ℕ, List, Option, MatchOption, subst}
use Rattle.scope_locks.specs.vertex_locks.Locks.{LockView}
use Rattle.scope_locks.specs.vertex_locks.Inner.KeptTables.{table_of}
use Rattle.scope_locks.specs.vertex_locks.Inner.KeptLists.{locks_in}
use Rattle.scope_locks.specs.vertex_locks.Tables.{IsGrantable}
use Rattle.scope_locks.proofs.vertex_locks.tables.LockTable.next_grant.Goals as goal

pub returns-clause-next : goal.returns-clause-next
returns-clause-next c =
    let seen : table_of c.deref.result.now (locks_in c.self.inside.locks) ≡ c.args.self.now = (λ i. table_of (c.deref.ensures.value i) (locks_in c.self.inside.locks)) ∙ c.self.view_is in
    subst (λ (t : List (Option LockView)). MatchOption c.first_listed.result ((x : ℕ) → IsGrantable t x → ⊥) (λ x. IsGrantable t x.0)) seen c.first_listed.ensures.next
