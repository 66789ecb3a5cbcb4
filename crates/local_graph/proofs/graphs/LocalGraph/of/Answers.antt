use Rattle.std.proofs.Common.{◌<◌, ℕ, [], All, get_or, length, sym, subst, arith}
use Rattle.graph_core.specs.DataGraph.{size}
use Rattle.graph_core.specs.Halves.{halves_of}
use Rattle.local_graph.specs.declared.outlines.Outline.{Outline}
use Rattle.graph_core.specs.declared.halves.Half.{Half}
use Rattle.local_graph.specs.Inner.ByPlace.{IsPlayedBy}
use Rattle.local_graph.specs.Played.{IsMadeOf, graph_halves}
use Rattle.local_graph.proofs.GraphLemmas.{graph_back, graph_listed, rows_are}
use Rattle.local_graph.proofs.PlayLemmas.{ok_to}
use Rattle.local_graph.proofs.graphs.LocalGraph.of.Goals as goal

pub play_halves-requires : goal.play_halves-requires
play_halves-requires c =
    let g = c.args.graph.now in
    let n = c.n.ensures.count in
    record {
      vertices = λ k d inside. let low = c.requires.vertices k d inside in omega arith;
      ghosts = λ k d inside. let low = c.requires.ghosts k d inside in omega arith;
      few = let few = c.requires.few in omega arith;
      limit = let few = c.n.ensures.graph.few in omega arith;
      many = let many = c.half_rows-halves.ensures.0 in omega arith;
      edges = λ v low.
          let inside : v < size g = omega arith in
          subst (All (λ (h : Half). h.edge.0 < c.m.result)) (sym (rows_are (get_or c.half_rows-halves.result.now v []) (halves_of g v) (c.half_rows-halves.ensures.1 v inside)))
          (subst (λ (m : ℕ). All (λ (h : Half). h.edge.0 < m) (graph_halves g v)) (sym c.m.ensures.count) (graph_listed g v));
    }

pub returns : goal.returns
returns c =
    let g = c.args.graph.now in
    let rows = c.half_rows-halves.result.now in
    let outline : Outline = record { machines = c.args.machines; vertices = c.n.result; edges = c.m.result; directed = c.directed.result } in
    ok_to c.play_halves.result (IsPlayedBy c.args.lines.now.me c.args.lines.now.own.now c.args.lines.now.ghosts.now rows outline)
    (IsMadeOf c.args.lines.now.me c.args.lines.now.own.now c.args.lines.now.ghosts.now (graph_halves g) c.args.machines (length g.edges))
    (λ local made.
    subst (λ (m : ℕ). IsMadeOf c.args.lines.now.me c.args.lines.now.own.now c.args.lines.now.ghosts.now (graph_halves g) c.args.machines m local) c.m.ensures.count
    (made (graph_halves g) (λ v low. let n = c.n.ensures.count in let inside : v < size g = omega arith in rows_are (get_or rows v []) (halves_of g v) (c.half_rows-halves.ensures.1 v inside)) (graph_back g c.n.ensures.graph)))
    c.play_halves.ensures
