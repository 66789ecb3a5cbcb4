use Rattle.std.proofs.Common.{◌≡◌, ◌<◌, ℕ, length}
use Rattle.task_sets.specs.task_sched.Tasks.{is_flagged}
use Rattle.task_sets.proofs.task_sched.task_sets.set_all.Given as goal

abbrev pub invariant-loop-place : goal.invariant-loop-place
invariant-loop-place l = record { count : length l.flags.items ≡ length l.initial.flags.items; low : (u : ℕ) → u < l.place → is_flagged l.flags.items u ≡ l.flag }
