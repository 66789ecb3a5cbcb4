use Rattle.std.proofs.Common.{◌+◌, ◌-◌, ◌∙◌, arith}
use Rattle.graph_atoms.proofs.atom_gather.MetaLemmas.{metas_next}
use Rattle.graph_atoms.proofs.atom_gather.index_form.check_metas.Goals as goal

pub loop-preserved : goal.loop-preserved
loop-preserved c =
    let i = c.args.count - c.loop.counter in
    let left = c.args.count - (c.loop.counter + 1) in
    record {
      rest = metas_next c.args.bytes.now left i c.loop.least c.loop.at c.in_ok-pair.pair c.from-least.result (omega arith) c.in_ok-pair.ensures.pair c.from-least.ensures c.in_ok-pair.ensures.none ∙ c.loop.invariant.rest;
      within = omega (arith, c.in_ok-pair.ensures.whole);
    }
