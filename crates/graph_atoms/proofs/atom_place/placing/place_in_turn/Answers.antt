use Rattle.std.proofs.Common.{◌≡◌, ◌<◌, ℕ, length, map, get_or, slice_index, subst, arith}
use Rattle.std.proofs.lemmas.List.{map-set}
use Rattle.gl_base.specs.declared.numbers.MachineNo.{MachineNo}
use Rattle.graph_atoms.specs.atom_place.Placing.{IsLeastLoaded}
use Rattle.graph_atoms.proofs.atom_place.LoadLemmas.{order-below, load-fits, Placed-more, IsPlacing-from_placed, IsBalanced-from_placing}
use Rattle.graph_atoms.proofs.atom_place.placing.place_in_turn.Goals as goal

pub bounds-owners-atom : goal.bounds-owners-atom
bounds-owners-atom c =
    omega (arith, order-below c.args.weights.now c.args.order.now c.loop-atom.atom-index c.requires.falling c.loop-atom-test.true, c.requires.each)

pub bounds-weights-atom : goal.bounds-weights-atom
bounds-weights-atom c =
    order-below c.args.weights.now c.args.order.now c.loop-atom.atom-index c.requires.falling c.loop-atom-test.true

pub offset_bounds-owners-atom : goal.offset_bounds-owners-atom
offset_bounds-owners-atom c =
    let inside : get_or c.args.order.now c.loop-atom.atom-index 0 < length c.args.weights.now = order-below c.args.weights.now c.args.order.now c.loop-atom.atom-index c.requires.falling c.loop-atom-test.true in
    grind arith

pub offset_bounds-weights-atom : goal.offset_bounds-weights-atom
offset_bounds-weights-atom c =
    let inside : get_or c.args.order.now c.loop-atom.atom-index 0 < length c.args.weights.now = order-below c.args.weights.now c.args.order.now c.loop-atom.atom-index c.requires.falling c.loop-atom-test.true in
    grind arith

pub overflow_add-loads : goal.overflow_add-loads
overflow_add-loads c =
    let owners = map (λ (m : MachineNo). m.0) c.loop-atom.owners in
    let below : c.least_loaded-machine.result < length c.args.loads.now = omega (arith, c.least_loaded-machine.ensures.below) in
    omega (arith, load-fits c.args.weights.now c.args.order.now owners c.loop-atom.loads (length c.args.loads.now) c.loop-atom.atom-index c.least_loaded-machine.result c.requires.falling c.loop-atom.invariant c.loop-atom-test.true below, c.requires.fits)

pub loop-atom-preserved : goal.loop-atom-preserved
loop-atom-preserved c =
    let weights = c.args.weights.now in
    let order = c.args.order.now in
    let i = c.loop-atom.atom-index in
    let machine = c.least_loaded-machine.result in
    let number : MachineNo → ℕ = λ m. m.0 in
    let count : length c.loop-atom.loads ≡ length c.args.loads.now = omega arith in
    let least = subst (λ (n : ℕ). IsLeastLoaded (slice_index c.loop-atom.loads) n machine) count c.least_loaded-machine.ensures in
    rw (map-set number c.loop-atom.owners (get_or order i 0) (record { 0 = machine }))
    (Placed-more weights order (map number c.loop-atom.owners) c.loop-atom.loads (length c.args.loads.now) i machine c.requires.falling c.loop-atom.invariant c.loop-atom-test.true (order-below weights order i c.requires.falling c.loop-atom-test.true) least)

pub returns-clause-balanced : goal.returns-clause-balanced
returns-clause-balanced c =
    let owners = map (λ (m : MachineNo). m.0) c.loop-atom.owners in
    IsBalanced-from_placing c.args.weights.now (length c.args.loads.now) owners (IsPlacing-from_placed c.args.weights.now c.args.order.now owners c.loop-atom.loads (length c.args.loads.now) c.loop-atom.atom-index c.requires.falling c.loop-atom.invariant c.loop-atom-test.false)
