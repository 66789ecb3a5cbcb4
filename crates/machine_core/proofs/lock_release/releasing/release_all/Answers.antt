use Rattle.std.proofs.Common.{◌<◌, length, arith}
use Rattle.std.proofs.lemmas.List.{get_or_default}
use Rattle.machine_core.proofs.lock_release.ReleaseLemmas.{released_more}
use Rattle.machine_core.proofs.lock_release.releasing.release_all.Goals as goal

pub loop-place-preserved : goal.loop-place-preserved
loop-place-preserved c =
    let vertices = c.args.vertices.now in
    let i = c.loop-place.place in
    let inside : i < length vertices = omega arith in
    released_more c.args.locks.now c.loop-place.locks c.release.new.self vertices c.args.scope i _ inside (get_or_default vertices i _ _ inside) c.loop-place.invariant c.release.ensures.released c.release.ensures.exact
