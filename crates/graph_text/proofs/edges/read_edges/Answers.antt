use Rattle.graph_text.specs.lines.Found.{found_of}
use Rattle.graph_text.proofs.EdgeTexts.{reader_finds_edges, edges_answered}
use Rattle.graph_text.proofs.edges.read_edges.Goals as goal

pub graph_of-requires : goal.graph_of-requires
graph_of-requires g c =
    reader_finds_edges c.args.list.ids.items c.args.directed c.args.weighted (found_of c.in_ok-found.found) _ c.in_ok-found.ensures.answer

pub returns-clause-answer : goal.returns-clause-answer
returns-clause-answer g c =
    edges_answered c.args.list.ids.items c.args.directed c.args.weighted (found_of c.in_ok-found.found) c.graph_of.result _ _ _
    c.in_ok-found.ensures.answer c.graph_of.ensures
