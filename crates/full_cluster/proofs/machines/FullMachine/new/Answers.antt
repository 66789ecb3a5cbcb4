use Rattle.std.proofs.Common.{◌∙◌, refl, sym, ap}
use Rattle.graph_core.specs.DataGraph.{DataGraph, size}
use Rattle.full_cluster.proofs.StartLemmas.{seat_at_start}
use Rattle.full_cluster.proofs.machines.FullMachine.new.Goals as goal

pub returns : goal.returns
returns c = λ st s divided many numbers none.
    seat_at_start st s _ (c.in_ok-kept.ensures st s divided numbers none) c.in_ok-locks.ensures.free
    (c.in_ok-locks.ensures.count ∙ c.n.ensures.count ∙ ap (λ (g : DataGraph). size g) (sym divided.graph)) c.new-2.ensures.items refl refl
    c.new-3.ensures c.new-4.ensures c.new-5.ensures (c.in_ok-out.ensures.none st) (c.in_ok-out.ensures.count ∙ sym many)
