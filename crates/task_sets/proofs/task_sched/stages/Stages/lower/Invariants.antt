use Rattle.std.proofs.Common.{◌≡◌, ℕ}
use Rattle.task_sets.specs.task_sched.Inner.Stages.{is_staged, stage_count}
use Rattle.task_sets.proofs.task_sched.stages.Stages.lower.Given as goal

abbrev pub invariant-near : goal.invariant-near
invariant-near l = record { count : stage_count l.self ≡ stage_count l.initial.self; waits : (u : ℕ) → is_staged l.self u ≡ is_staged l.initial.self u }
