-- Part by part.
use Rattle.std.proofs.Common.{◌≡◌, ℕ, List, arith, length, map, subst}
use Rattle.gl_base.specs.declared.numbers.EdgeNo.{EdgeNo}
use Rattle.gl_base.specs.declared.numbers.Vertex.{Vertex}
use Rattle.gl_base.specs.declared.snapshots.SavedPart.{SavedPart}
use Rattle.std.specs.List.{AllByRecursion}
use Rattle.engine_runs.specs.append.Inner.Numbers.{PairFits, edge_pair, part_edges, part_vertices, vertex_pair}
use Rattle.engine_runs.proofs.append.Numbering.{all_joined, all_taken, each_more}
use Rattle.engine_runs.proofs.append.numbers.look_over_parts.Goals as goal

pub loop-part-preserved : goal.loop-part-preserved
loop-part-preserved c =
    let part : SavedPart = c.part-item.result in
    record {
      vertices = each_more (λ p. AllByRecursion PairFits (part_vertices p)) c.args.parts.now c.loop-part.part-index part c.loop-part-test.true c.loop-part.invariant.vertices
          (subst (λ (p : SavedPart). AllByRecursion PairFits (part_vertices p)) c.part-item.is (subst (λ (pairs : List (Vertex × ℕ)). AllByRecursion PairFits (map vertex_pair pairs)) c.deref.ensures.value c.look_over_vertices.ensures));
      edges = each_more (λ p. AllByRecursion PairFits (part_edges p)) c.args.parts.now c.loop-part.part-index part c.loop-part-test.true c.loop-part.invariant.edges
          (subst (λ (p : SavedPart). AllByRecursion PairFits (part_edges p)) c.part-item.is (subst (λ (pairs : List (EdgeNo × ℕ)). AllByRecursion PairFits (map edge_pair pairs)) c.deref-in-loop-part.ensures.value c.look_over_edges.ensures));
    }

pub returns-clause-vertices : goal.returns-clause-vertices
returns-clause-vertices c =
    let end : c.loop-part.part-index ≡ length c.args.parts.now = omega arith in
    all_joined PairFits part_vertices c.args.parts.now (all_taken (λ part. AllByRecursion PairFits (part_vertices part)) c.args.parts.now c.loop-part.part-index end c.loop-part.invariant.vertices)

pub returns-clause-edges : goal.returns-clause-edges
returns-clause-edges c =
    let end : c.loop-part.part-index ≡ length c.args.parts.now = omega arith in
    all_joined PairFits part_edges c.args.parts.now (all_taken (λ part. AllByRecursion PairFits (part_edges part)) c.args.parts.now c.loop-part.part-index end c.loop-part.invariant.edges)
