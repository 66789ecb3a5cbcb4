use Rattle.std.proofs.Common.{drop}
use Rattle.partition.specs.machine_numbers.Views.{is_in_update}
use Rattle.snapshot_machines.proofs.marking.PendLemmas.{IsPending}
use Rattle.snapshot_machines.proofs.marking.pending.pend_named.Given as goal

abbrev pub invariant-loop-place : goal.invariant-loop-place
invariant-loop-place l = IsPending l.local (is_in_update l.vertices) (is_in_update (drop l.place l.vertices)) l.fn.tasks l.tasks
