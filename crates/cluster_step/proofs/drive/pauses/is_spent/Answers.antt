-- The budget is the updates that were made and the tickets that are left.
use Rattle.std.proofs.Common.{◌≡◌, ℕ, ◌+◌, ◌≤◌, arith, length}
use Rattle.call_laws.specs.attempts.EngineCalls.{made_of}
use Rattle.cluster_step.proofs.drive.pauses.is_spent.Goals as goal

all_made : (made left budget : ℕ) → made + left ≡ budget → left ≤ 0 → made ≡ budget
all_made made left budget is none = omega arith

pub returns-clause-spent : goal.returns-clause-spent
returns-clause-spent g c = λ yes st o events x is call makes. (
  all_made (length (made_of call)) c.left.result o.first.left (c.left.ensures st o events x is call makes) c.if-left-gt0.false,
  c.has_task.ensures.left c.if-not-has_task.false st o events x is call makes,
  c.lacks_no_snapshot.ensures yes st o events x is call makes,
)
