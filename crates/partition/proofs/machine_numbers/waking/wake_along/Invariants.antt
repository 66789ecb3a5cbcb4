use Rattle.std.proofs.Common.{◌≡◌, drop}
use Rattle.partition.specs.machine_numbers.Steps.{wakes_of, woken_flags}
use Rattle.partition.proofs.machine_numbers.WakeLemmas.{IsWaking}
use Rattle.partition.proofs.machine_numbers.waking.wake_along.Given as goal

abbrev pub invariant-loop-place : goal.invariant-loop-place
invariant-loop-place l = record {
  waking : IsWaking l.local (wakes_of l.local.me.0 l.woken l.sides l.links) (wakes_of l.local.me.0 l.woken (drop l.place l.sides) (drop l.place l.links)) l.fn.tasks l.tasks;
  left : woken_flags l.local.me.0 l.woken (drop l.place l.sides) (drop l.place l.links) l.tasks.task ≡ woken_flags l.local.me.0 l.woken l.sides l.links l.fn.tasks.task;
}
