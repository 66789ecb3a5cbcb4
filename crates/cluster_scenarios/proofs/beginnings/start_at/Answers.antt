-- The machines begin an attempt of the law.
use Rattle.std.proofs.Common.{refl}
use Rattle.cluster_scenarios.proofs.StartLemmas.{start_of}
use Rattle.cluster_scenarios.proofs.beginnings.start_at.Goals as goal

pub returns-clause-start : goal.returns-clause-start
returns-clause-start g c next left =
    start_of _ c.args.beginning.now.graph.now _ c.args.places.now c.args.base.now c.args.serials.now c.in_ok-machines.machines.items _ next left
    c.requires.graph c.requires.places c.args.beginning.now.window c.requires.window (c.if-not-has_numbers.ensures refl) c.in_ok-machines.ensures.stand
    c.store_of-store.ensures.vertices c.store_of-store.ensures.edges c.store_of-store.ensures.newest
