use Rattle.graph_text.specs.lines.Found.{found_of}
use Rattle.graph_text.proofs.VertexTexts.{reader_finds, vertices_answered}
use Rattle.graph_text.proofs.vertices.read_vertices.Goals as goal

pub list_of-requires : goal.list_of-requires
list_of-requires g c = reader_finds (found_of c.in_ok-found.found) _ c.in_ok-found.ensures.answer

pub returns-clause-answer : goal.returns-clause-answer
returns-clause-answer g c =
    vertices_answered (found_of c.in_ok-found.found) c.list_of.result _ _ _ c.in_ok-found.ensures.answer c.list_of.ensures
