use Rattle.placed_machines.proofs.RunLemmas.{goes_by}
use Rattle.placed_machines.proofs.placing.terms_of.Goals as goal

pub returns-clause-goes : goal.returns-clause-goes
returns-clause-goes c = λ st program owner colours is. goes_by c.args.graph.now program owner colours c.args.run c.args.base.now st c.n.result _ c.n.ensures.count is
