use Rattle.std.proofs.Common.{◌<◌, ℕ, List, All, sym, ap, ◌∙◌, subst}
use Rattle.gl_base.specs.declared.atoms.EdgeLine.{EdgeLine}
use Rattle.gl_base.specs.declared.atoms.GhostLine.{GhostLine}
use Rattle.gl_base.specs.declared.atoms.VertexLine.{VertexLine}
use Rattle.graph_core.specs.declared.halves.Half.{Half}
use Rattle.local_graph.specs.Lines.{halves_of_lines}
use Rattle.local_graph.specs.Inner.ByPlace.{IsPlayedBy}
use Rattle.local_graph.specs.Played.{IsMadeOf, IsPlayedFrom}
use Rattle.local_graph.proofs.PlayLemmas.{halves_back, halves_listed, ok_to}
use Rattle.local_graph.proofs.graphs.LocalGraph.play.Goals as goal

pub play_halves-requires-clause-edges : goal.play_halves-requires-clause-edges
play_halves-requires-clause-edges c = λ v low.
    let o = c.args.outline in
    let is = c.in_ok-halves.ensures.each v low ∙ ap (λ (es : List EdgeLine). halves_of_lines o.directed es v) c.deref.ensures.value in
    subst (λ (hs : List Half). All (λ (h : Half). h.edge.0 < o.edges) hs) (sym is) (halves_listed o.directed o.edges v c.args.lines.now.edges.items c.requires.edges)

pub returns : goal.returns
returns c =
    let o = c.args.outline in
    let lines = c.args.lines.now in
    let at : ℕ → List Half = halves_of_lines o.directed lines.edges.items in
    ok_to c.play_halves.result (λ local. IsPlayedBy c.args.me c.deref-2.result.now c.deref-3.result.now c.in_ok-halves.halves o local) (λ local. IsPlayedFrom c.args.me lines o local)
    (λ local made.
    subst (λ (gs : List GhostLine). IsMadeOf c.args.me lines.vertices.items gs at o.machines o.edges local) c.deref-3.ensures.value
    (subst (λ (vs : List VertexLine). IsMadeOf c.args.me vs c.deref-3.result.now at o.machines o.edges local) c.deref-2.ensures.value
    (made at (λ v low. c.in_ok-halves.ensures.each v low ∙ ap (λ (es : List EdgeLine). halves_of_lines o.directed es v) c.deref.ensures.value) (halves_back o.directed lines.edges.items))))
    c.play_halves.ensures
