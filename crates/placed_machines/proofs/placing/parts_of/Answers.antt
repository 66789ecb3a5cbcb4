use Rattle.std.proofs.Common.{List, subst, sym}
use Rattle.gl_base.specs.declared.numbers.AtomNo.{AtomNo}
use Rattle.gl_base.specs.declared.numbers.MachineNo.{MachineNo}
use Rattle.placed_machines.specs.Beginning.{IsOwnedBy, placed_owner}
use Rattle.placed_machines.proofs.placing.parts_of.Goals as goal

pub returns : goal.returns
returns c = λ st owned.
    let graph = c.args.graph.now in
    let places = c.args.places.now in
    c.placed.ensures st
    (subst (λ (of : List AtomNo). IsOwnedBy graph places.run.machines (placed_owner of c.deref-2.result.now) st) (sym c.deref.ensures.value)
    (subst (λ (owner : List MachineNo). IsOwnedBy graph places.run.machines (placed_owner places.of.items owner) st) (sym c.deref-2.ensures.value) owned))
