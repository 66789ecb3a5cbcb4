use Rattle.std.proofs.Common.{◌<◌, ◌++◌, ◌∷◌, [], length, sym, ap, ◌∙◌, arith}
use Rattle.std.proofs.lemmas.List.{get_or-map, length-map}
use Rattle.gl_base.specs.declared.numbers.Vertex.{Vertex}
use Rattle.graph_core.specs.Growth.{numbers_of, unlisted}
use Rattle.graph_core.proofs.GrowthMarks.{so_far-step}
use Rattle.graph_core.proofs.growing.list_new.Goals as goal

pub loop-vertex-preserved : goal.loop-vertex-preserved
loop-vertex-preserved c =
    let vertices = c.args.vertices.now in
    let i = c.loop-vertex.vertex-index in
    let listed = numbers_of c.loop-vertex.listed.items in
    let inside : i < length (numbers_of vertices) = omega (arith, length-map vertices (λ (v : Vertex). v.0)) in
    let here = get_or-map (λ (v : Vertex). v.0) vertices i (record { 0 = 0 }) 0 c.loop-vertex-test.true in
    record {
      listed = so_far-step (numbers_of c.args.listed.now.items) (numbers_of vertices) listed (numbers_of c.list_one.new.listed.items) i c.requires.ascending inside c.loop-vertex.invariant.listed (c.in_ok-list_one.ensures.listed ∙ ap (λ v. listed ++ unlisted listed (v ∷ [])) (sym here));
      marks = c.in_ok-list_one.ensures.marks;
      kept = λ v was. c.in_ok-list_one.ensures.kept v (c.loop-vertex.invariant.kept v was);
    }
