-- Runs of pairs: how many updates they make, and what they end with.
use Rattle.std.proofs.Common.{◌≡◌, ℕ, suc, ◌+◌, ◌<◌, ◌≤◌, inl, inr, List, [], ◌∷◌, ◌++◌, length, None, Some, sym, ◌∙◌, ⊎_elim, arith, ltb-true}
use Rattle.std.proofs.lemmas.Option.{get_or_from_slice_get, slice_get_within}
use Rattle.gl_base.specs.declared.entries.Entry.{Entry}
use Rattle.gl_base.specs.declared.entries.Entry.TheVariants.{Go, Restart}
use Rattle.gl_base.specs.declared.limits.TheConstants.{INF}
use Rattle.gl_base.specs.declared.numbers.Vertex.{Vertex}
use Rattle.graph_core.specs.DataGraph.{DataGraph, IsDataGraph, size}
use Rattle.graph_core.proofs.HalvesLaws.{edge_is}
use Rattle.seq_run.specs.FirstColours.{AreNeighbours}
use Rattle.seq_run.specs.Orders.{all_tasks}
use Rattle.seq_run.specs.States.{GraphState}
use Rattle.seq_run.specs.StepBound.{updates_from, updates_since_restart}
use Rattle.seq_run.proofs.GoingOn.{updates_from-push}
use Rattle.seq_run.proofs.Sums.{count_below-le}
use Rattle.full_scope.specs.FullOrders.{full_replay, IsFullyValid}
use Rattle.full_scope.specs.FullStates.{full_start}
use Rattle.full_scope.proofs.FullGoingOn.{fully_valid-append}
use Rattle.full_cluster.specs.Written.{state_in}
use Rattle.prog_match.specs.MaximalMatchings.{HasMate, IsMaximalMatching}
use Rattle.prog_match.specs.Pairs.{update_of_pairs}
use Rattle.prog_match.proofs.FewUpdates.{few_from}
use Rattle.prog_match.proofs.Matching.{pairs_at_rest}
use Rattle.full_runs.specs.FullEnds.{AreUpdatesFrom, RunsFullyTo}

-- ---- how many updates there are

-- updates alone are counted one by one
counted : (count ticket : ℕ) (order : List Entry) → AreUpdatesFrom ticket order → updates_from count order ≡ count + length order
counted count ticket [] made = omega arith
counted count ticket (Go machine vertex t ∷ order) made = let rest = counted (count + 1) (suc ticket) order made.1 in omega (arith, rest)
counted count ticket (Restart t ∷ order) made = absurd made

pub unspent : (g : DataGraph) (owner : ℕ → ℕ) (budget : ℕ) (order : List Entry) (values edges : List ℕ) (left : Vertex) → size g ≤ budget →
    RunsFullyTo g update_of_pairs owner budget order values edges (Some left) → ⊥
unspent g owner budget order values edges left enough runs =
    let next : Entry = Go (record { 0 = 0 }) left 0 in
    let longer : IsFullyValid g update_of_pairs (order ++ next ∷ []) =
    fully_valid-append g update_of_pairs (full_start g update_of_pairs) (all_tasks g) order (next ∷ []) runs.play.valid (runs.ended.task, tt) in
    let all = count_below-le (all_tasks g) (size g) in
    let few : updates_since_restart (order ++ next ∷ []) ≤ size g =
    few_from g (full_start g update_of_pairs) (all_tasks g) 0 (order ++ next ∷ []) (λ u task. ltb-true u (size g) task) longer (omega (arith, all)) in
    let many = counted 0 0 order runs.play.tickets in
    let pushed = updates_from-push 0 order 0 (record { 0 = 0 }) left in
    omega (arith, few, many, pushed, runs.ended.spent, enough)

-- ---- numbers of a maximal matching

module _ (g : DataGraph) (is : IsDataGraph g) (s t : GraphState) (vertices : (v : ℕ) → v < size g → t.vertex v ≡ s.vertex v) (marks : (e : ℕ) → e < length g.edges → t.edge e ≡ s.edge e) where
  mate_to : (v u : ℕ) → v < size g → HasMate g s.vertex v u → HasMate g t.vertex v u
  mate_to v u inside has = vertices v inside ∙ has

  mate_back : (v u : ℕ) → v < size g → HasMate g t.vertex v u → HasMate g s.vertex v u
  mate_back v u inside has = sym (vertices v inside) ∙ has

  pub same_matching : IsMaximalMatching g s → IsMaximalMatching g t
  same_matching good =
      record {
        mates = λ v inside. ⊎_elim
            (λ (none : s.vertex v ≡ INF). inl (vertices v inside ∙ none))
            (λ (mate : (u : ℕ) × (u < size g) × AreNeighbours g v u × HasMate g s.vertex v u). inr (mate.0, mate.1, mate.2, mate_to v mate.0 inside mate.3))
            (good.mates v inside);
        both_ways = λ v u v_inside u_inside. (
          λ has. mate_to u v u_inside ((good.both_ways v u v_inside u_inside).0 (mate_back v u v_inside has)),
          λ has. mate_to v u v_inside ((good.both_ways v u v_inside u_inside).1 (mate_back u v u_inside has)),
        );
        edges = λ k e at.
            let within = slice_get_within g.edges k e at in
            let ends = edge_is g is k e within (get_or_from_slice_get g.edges k e e at) in ⊎_elim
            (λ (one : (s.edge k ≡ 1) × (HasMate g s.vertex e.from e.to × HasMate g s.vertex e.to e.from)).
            inl (marks k within ∙ one.0, (mate_to e.from e.to ends.from one.1.0, mate_to e.to e.from ends.to one.1.1)))
            (λ (none : (s.edge k ≡ 0) × (HasMate g s.vertex e.from e.to × HasMate g s.vertex e.to e.from → ⊥)).
            inr (marks k within ∙ none.0, λ both. none.1 (mate_back e.from e.to ends.from both.0, mate_back e.to e.from ends.to both.1)))
            (good.edges k e at);
        maximal = λ k e at from to.
            let ends = edge_is g is k e (slice_get_within g.edges k e at) (get_or_from_slice_get g.edges k e e at) in
            good.maximal k e at (sym (vertices e.from ends.from) ∙ from) (sym (vertices e.to ends.to) ∙ to);
      }

pub matches : (g : DataGraph) → IsDataGraph g → (owner : ℕ → ℕ) (budget : ℕ) (order : List Entry) (values edges : List ℕ) →
    RunsFullyTo g update_of_pairs owner budget order values edges None → IsMaximalMatching g (state_in values edges)
matches g is owner budget order values edges runs =
    same_matching g is (full_replay g update_of_pairs order) (state_in values edges) runs.play.values_are.each runs.play.edges_are.each
    (pairs_at_rest g is order runs.play.valid runs.ended)
