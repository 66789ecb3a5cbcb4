-- Vertex by vertex.
use Rattle.std.proofs.Common.{◌≡◌, ℕ, suc, ◌+◌, ◌<◌, ◌++◌, [], ◌∷◌, ◌∙◌, add-one, ap, arith, length, length-append, subst, sym}
use Rattle.std.specs.Prelude.{slice_index_or}
use Rattle.cluster_step.proofs.trace.Calling.{grown}
use Rattle.engine_runs.specs.finish.Gathered.{InEachTrace, IsAnyMachineOf, placed_owner}
use Rattle.graph_core.specs.DataGraph.{size}
use Rattle.engine_runs.proofs.finish.numbers.vertex_numbers.Given as given
use Rattle.engine_runs.proofs.finish.numbers.vertex_numbers.Goals as goal

abbrev Numbered : (g : given.Over) (c : goal.After-push_reserved g) → ℕ → ℕ → Type 0
Numbered g c u n = InEachTrace (IsAnyMachineOf g.P.Program.meaning) c.args.trace.now (λ st o events x.
    u < size st.graph → st.owner u ≡ placed_owner c.args.places.now.of.items c.args.places.now.owner.items u → n ≡ ((x.machine (st.owner u)).part.datum u).value)

-- the numbers so far and the vertex's
more : (g : given.Over) (c : goal.After-push_reserved g) → (u : ℕ) → u < suc (length c.loop-v.numbers.items) → Numbered g c u (slice_index_or (c.loop-v.numbers.items ++ c.number_of.result ∷ []) u 0)
more g c =
    grown (Numbered g c) c.loop-v.numbers.items c.number_of.result (λ u low. c.loop-v.invariant.each u (subst (λ n. u < n) c.loop-v.invariant.count low))
    (subst (λ n. Numbered g c n c.number_of.result) (sym c.loop-v.invariant.count) (here g c))
  where
    here : (g : given.Over) (c : goal.After-push_reserved g) → Numbered g c c.loop-v.v c.number_of.result
    here g c = c.number_of.ensures

pub loop-v-preserved : goal.loop-v-preserved
loop-v-preserved g c =
    record {
      count = ap length c.push_reserved.ensures.items ∙ length-append c.loop-v.numbers.items (c.number_of.result ∷ []) ∙ ap (λ n. n + 1) c.loop-v.invariant.count;
      each = λ u low. subst (λ xs. Numbered g c u (slice_index_or xs u 0)) (sym c.push_reserved.ensures.items) (more g c u (subst (λ n. u < n) (add-one c.loop-v.v ∙ ap suc (sym c.loop-v.invariant.count)) low));
    }

pub returns-clause-each : goal.returns-clause-each
returns-clause-each g c = λ u low. c.loop-v.invariant.each u (below g c u low)
  where
    below : (g : given.Over) (c : goal.After-loop-v g) (u : ℕ) → u < size c.args.graph.now → u < c.loop-v.v
    below g c u low = omega (arith, c.n-v-end.ensures.count, c.loop-v-test.false)
