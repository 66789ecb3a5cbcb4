use Rattle.graph_core.proofs.NeighbourLemmas.{others_are}
use Rattle.graph_core.proofs.neighbours.list_neighbours.Goals as goal

pub returns-clause-others : goal.returns-clause-others
returns-clause-others c = others_are c.args.halves.now c.list_others.new.list.items c.make_distinct.new.list.items c.in_ok-list_others.ensures.others c.make_distinct.ensures
