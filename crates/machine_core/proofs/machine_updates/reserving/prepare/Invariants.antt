use Rattle.std.proofs.Common.{take}
use Rattle.machine_core.proofs.machine_updates.PrepareLemmas.{IsPreparing}
use Rattle.machine_core.proofs.machine_updates.reserving.prepare.Given as goal

abbrev pub invariant-loop-place : goal.invariant-loop-place
invariant-loop-place l = IsPreparing l.initial.out l.out l.flight.scope l.flight.centre l.degree l.me.0 (take l.place l.parts) l.prepared.items
