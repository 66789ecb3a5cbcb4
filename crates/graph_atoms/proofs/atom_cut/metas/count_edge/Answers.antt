use Rattle.std.proofs.Common.{◌<◌, length, sym, arith, ◌∙◌}
use Rattle.std.proofs.lemmas.Bool.{eqb-false}
use Rattle.graph_atoms.proofs.atom_cut.CountLemmas.{counted_one}
use Rattle.graph_atoms.proofs.atom_cut.metas.count_edge.Goals as goal

pub returns-clause-each : goal.returns-clause-each
returns-clause-each c =
    let inside : c.place_of.result < length c.args.counts.now = omega (arith, c.place_of.ensures.inside, c.requires.room) in
    counted_one c.args.atoms c.args.from.0 c.args.to.0 c.args.counts.now c.place_of.result (eqb-false c.args.from.0 c.args.to.0 (sym c.eq.ensures ∙ c.if-eq.false)) c.requires.from c.requires.to c.place_of.ensures.place inside
