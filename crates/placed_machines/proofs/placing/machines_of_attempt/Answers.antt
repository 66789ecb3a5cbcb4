use Rattle.std.proofs.Common.{◌≡◌, ◌∙◌, length, sym}
use Rattle.std.proofs.lemmas.Result.{IfOk-weaker}
use Rattle.placed_machines.specs.Beginning.{AreAnyMachinesOf, placed_owner}
use Rattle.placed_machines.specs.Inner.Making.{StandFirst, with_locking}
use Rattle.placed_machines.proofs.RunLemmas.{can_all_save, onward, placed_locked, runs_on, members_of, saves_by, some_run}
use Rattle.placed_machines.proofs.placing.machines_of_attempt.Goals as goal

pub new_members-requires-clause-can : goal.new_members-requires-clause-can
new_members-requires-clause-can g c =
    let program = g.P.Program.meaning c.args.program in
    let places = c.args.places.now in
    let graph = c.args.graph.now in
    let base = c.args.base.now in
    let owner = placed_owner places.of.items places.owner.items in
    let are = c.requires.places in
    let some = some_run graph program places.of.items places.owner.items places.colours.items places.run base c.terms_of-terms.ensures.graph are.each are.atoms are.owners c.requires.base in
    let terms = c.terms_of-terms.result in
    let goes = c.terms_of-terms.ensures.goes some.0 program owner places.colours.items some.1 in
    can_all_save graph program owner base places terms c.terms_of-terms.ensures.locks some.0 some.1 goes are.colours c.in_ok-parts.parts.items
    (c.in_ok-parts.ensures (with_locking some.0) (placed_locked graph program owner base places terms c.terms_of-terms.ensures.locks some.0 some.1 goes))

pub new_members-requires-clause-serials : goal.new_members-requires-clause-serials
new_members-requires-clause-serials g c =
    let program = g.P.Program.meaning c.args.program in
    let places = c.args.places.now in
    let are = c.requires.places in
    let some = some_run c.args.graph.now program places.of.items places.owner.items places.colours.items places.run c.args.base.now c.terms_of-terms.ensures.graph are.each are.atoms are.owners c.requires.base in
    c.requires.serials ∙ sym ((c.in_ok-parts.ensures some.0 some.1.placed).count ∙ some.1.placed.machines)

pub returns-clause-stand : goal.returns-clause-stand
returns-clause-stand g c = λ st view before runs of admitted.
    let meaning = g.P.Program.meaning in
    let program = meaning c.args.program in
    let places = c.args.places.now in
    let graph = c.args.graph.now in
    let base = c.args.base.now in
    let owner = placed_owner places.of.items places.owner.items in
    let on = onward graph program owner places.colours.items places.run base st view runs of in
    let from = runs_on graph program owner places.colours.items places.run base st view runs of in
    let terms = c.terms_of-terms.result in
    let locks = c.terms_of-terms.ensures.locks in
    let goes = c.terms_of-terms.ensures.goes on program owner places.colours.items from in
    let saves = saves_by graph program owner base places terms locks on from goes in
    let unset = c.in_ok-parts.ensures (with_locking on) (placed_locked graph program owner base places terms locks on from goes) in
    IfOk-weaker c.new_members.result (λ placed. StandFirst meaning on before placed.items) (λ placed. AreAnyMachinesOf meaning st view before placed.items)
    (λ placed first. members_of meaning st view before placed.items first)
    (c.new_members.ensures.stand on before saves unset admitted)

pub returns-clause-many : goal.returns-clause-many
returns-clause-many g c =
    let program = g.P.Program.meaning c.args.program in
    let places = c.args.places.now in
    let are = c.requires.places in
    let some = some_run c.args.graph.now program places.of.items places.owner.items places.colours.items places.run c.args.base.now c.terms_of-terms.ensures.graph are.each are.atoms are.owners c.requires.base in
    IfOk-weaker c.new_members.result (λ placed. length placed.items ≡ length c.in_ok-parts.parts.items) (λ placed. length placed.items ≡ places.run.machines)
    (λ placed many. many ∙ (c.in_ok-parts.ensures some.0 some.1.placed).count ∙ some.1.placed.machines)
    c.new_members.ensures.many
