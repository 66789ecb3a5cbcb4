use Rattle.std.proofs.Common.{◌≡◌, length}
use Rattle.placement.specs.graphs.Placed.{AreUnsetParts}
use Rattle.placement.specs.graphs.Inner.Making.{AreAllMade}
use Rattle.placement.proofs.graphs.PartLemmas.{all_can_be_made, both_ok, parts_are}
use Rattle.placement.proofs.graphs.parts.parts_by_owner.Goals as goal

pub make_all-requires-clause-lines : goal.make_all-requires-clause-lines
make_all-requires-clause-lines c =
    all_can_be_made c.args.graph.now c.args.machines c.args.owners.now c.in_ok-lines.ensures.graph c.requires.each c.requires.below c.in_ok-lines.lines.items c.in_ok-lines.ensures.lines

pub returns : goal.returns
returns c = λ st for.
    let lines = c.in_ok-lines.lines.items in
    both_ok c.make_all.result (λ locals. length locals.items ≡ length lines) (λ locals. AreAllMade c.args.graph.now c.args.machines lines locals.items) (λ locals. AreUnsetParts st locals.items)
    (λ locals many made.
    parts_are c.args.graph.now c.args.machines c.args.owners.now c.in_ok-lines.ensures.graph c.requires.each c.requires.below lines c.in_ok-lines.ensures.lines locals.items many made st for)
    c.make_all.ensures.count c.make_all.ensures.made
