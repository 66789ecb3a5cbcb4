use Rattle.std.proofs.Common.{List, subst, sym}
use Rattle.gl_base.specs.declared.numbers.AtomNo.{AtomNo}
use Rattle.gl_base.specs.declared.numbers.MachineNo.{MachineNo}
use Rattle.placement.specs.graphs.Placed.{IsOwnedBy, placed_owner}
use Rattle.placement.proofs.graphs.cutting.placed_by_cut.Goals as goal

pub returns-clause-parts : goal.returns-clause-parts
returns-clause-parts c = λ st for.
    let owner = subst (λ (owner : List MachineNo). IsOwnedBy c.args.graph.now c.args.machines (placed_owner c.in_ok-of.of.items owner) st) (sym c.deref-3.ensures.value) for in
    c.in_ok-parts.ensures st (subst (λ (of : List AtomNo). IsOwnedBy c.args.graph.now c.args.machines (placed_owner of c.deref-3.result.now) st) (sym c.deref-2.ensures.value) owner)
