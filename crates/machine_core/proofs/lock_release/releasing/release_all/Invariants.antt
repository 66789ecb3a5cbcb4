use Rattle.machine_core.proofs.lock_release.ReleaseLemmas.{AreReleased}
use Rattle.machine_core.proofs.lock_release.releasing.release_all.Given as goal

abbrev pub invariant-loop-place : goal.invariant-loop-place
invariant-loop-place l = AreReleased l.fn.locks l.locks l.vertices l.scope l.place
