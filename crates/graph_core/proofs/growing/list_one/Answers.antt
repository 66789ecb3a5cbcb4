use Rattle.std.proofs.Common.{ap, ◌∙◌}
use Rattle.std.proofs.lemmas.List.{map_push}
use Rattle.gl_base.specs.declared.numbers.Vertex.{Vertex}
use Rattle.graph_core.specs.Growth.{numbers_of}
use Rattle.graph_core.proofs.GrowthMarks.{AreMarks-more}
use Rattle.graph_core.proofs.growing.list_one.Goals as goal

pub returns-clause-marks : goal.returns-clause-marks
returns-clause-marks c =
    let listed = c.args.listed.now.items in
    let grown = ap numbers_of c.in_ok-push.ensures.items ∙ map_push (λ (v : Vertex). v.0) listed c.args.vertex in
    rw grown (AreMarks-more (numbers_of listed) c.args.marks.now c.args.vertex.0 c.requires.marks c.requires.inside c.if-marks-vertex.false)
