use Rattle.std.proofs.Common.{drop}
use Rattle.partition.specs.machine_numbers.Views.{is_in_update}
use Rattle.partition.proofs.machine_numbers.WakeLemmas.{IsWaking}
use Rattle.partition.proofs.machine_numbers.waking.wake_named.Given as goal

abbrev pub invariant-loop-place : goal.invariant-loop-place
invariant-loop-place l = IsWaking l.local (is_in_update l.wakes) (is_in_update (drop l.place l.wakes)) l.fn.tasks l.tasks
