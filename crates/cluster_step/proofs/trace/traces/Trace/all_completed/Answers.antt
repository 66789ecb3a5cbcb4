-- Each machine's count is added.
use Rattle.std.proofs.Common.{◌≡◌, ℕ, suc, ◌+◌, ◌<◌, ◌++◌, [], ◌∷◌, ◌∙◌, add-one, ap, arith, length, length-append, subst, sym}
use Rattle.std.specs.Prelude.{slice_index_or}
use Rattle.cluster_laws.specs.cluster_model.Machines.{completed}
use Rattle.cluster_step.specs.trace.Traces.{InEachTrace}
use Rattle.cluster_step.proofs.trace.Calling.{grown}
use Rattle.cluster_step.proofs.trace.traces.Trace.all_completed.Given as given
use Rattle.cluster_step.proofs.trace.traces.Trace.all_completed.Goals as goal

abbrev Counts : (g : given.Over) (c : goal.After-push_reserved g) → ℕ → ℕ → Type 0
Counts g c a n = InEachTrace g.M.SavingMachine.represents c.args.self.now (λ st o events x. n ≡ completed (x.machine a))

-- the counts so far and the machine's
more : (g : given.Over) (c : goal.After-push_reserved g) → (a : ℕ) → a < suc (length c.loop-m.counts.items) → Counts g c a (slice_index_or (c.loop-m.counts.items ++ c.completed.result ∷ []) a 0)
more g c =
    grown (Counts g c) c.loop-m.counts.items c.completed.result (λ a low. c.loop-m.invariant.each a (subst (λ n. a < n) c.loop-m.invariant.many low))
    (subst (λ n. Counts g c n c.completed.result) (sym c.loop-m.invariant.many) (here g c))
  where
    here : (g : given.Over) (c : goal.After-push_reserved g) → Counts g c c.loop-m.m c.completed.result
    here g c = c.completed.ensures.count

pub loop-m-preserved : goal.loop-m-preserved
loop-m-preserved g c =
    record {
      many = ap length c.push_reserved.ensures.items ∙ length-append c.loop-m.counts.items (c.completed.result ∷ []) ∙ ap (λ n. n + 1) c.loop-m.invariant.many;
      each = λ a low. subst (λ xs. Counts g c a (slice_index_or xs a 0)) (sym c.push_reserved.ensures.items) (more g c a (subst (λ n. a < n) (add-one c.loop-m.m ∙ ap suc (sym c.loop-m.invariant.many)) low));
    }

pub returns-clause-each : goal.returns-clause-each
returns-clause-each g c = λ a low.
    c.loop-m.invariant.each a (below g c a (subst (λ v. a < length v.now.machines.items) (sym c.self.view_is) low))
  where
    below : (g : given.Over) (c : goal.After-loop-m g) (a : ℕ) → a < length c.self.inside.cluster.machines.items → a < c.loop-m.m
    below g c a low = omega (arith, c.machines-many.ensures.count, c.loop-m-test.false)
