-- One machine more.
use Rattle.std.proofs.Common.{◌≡◌, Bool, ℕ, suc, ◌+◌, ◌<◌, ◌++◌, [], ◌∷◌, ◌∙◌, add-one, ap, arith, false, length, length-append, subst, sym}
use Rattle.std.specs.Prelude.{slice_index_or}
use Rattle.engine_runs.specs.rollback.Failing.{InEachTrace}
use Rattle.engine_runs.proofs.rollback.Failings.{grown}
use Rattle.engine_runs.proofs.rollback.reading.failed_flags.Given as given
use Rattle.engine_runs.proofs.rollback.reading.failed_flags.Goals as goal

abbrev Read : (g : given.Over) (c : goal.After-push_reserved g) → ℕ → Bool → Type 0
Read g c a n = InEachTrace g.M.SavingMachine.represents c.args.trace.now (λ st o events x. n ≡ (x.machine a).failed)

here : (g : given.Over) (c : goal.After-push_reserved g) → Read g c c.loop-m.m c.has_failed.result
here g c = c.has_failed.ensures

more : (g : given.Over) (c : goal.After-push_reserved g) → (a : ℕ) → a < suc (length c.loop-m.flags.items) → Read g c a (slice_index_or (c.loop-m.flags.items ++ c.has_failed.result ∷ []) a false)
more g c =
    grown (Read g c) false c.loop-m.flags.items c.has_failed.result (λ a low. c.loop-m.invariant.each a (subst (λ n. a < n) c.loop-m.invariant.many low))
    (subst (λ n. Read g c n c.has_failed.result) (sym c.loop-m.invariant.many) (here g c))

pub loop-m-preserved : goal.loop-m-preserved
loop-m-preserved g c =
    record {
      many = ap length c.push_reserved.ensures.items ∙ length-append c.loop-m.flags.items (c.has_failed.result ∷ []) ∙ ap (λ n. n + 1) c.loop-m.invariant.many;
      each = λ a low. subst (λ xs. Read g c a (slice_index_or xs a false)) (sym c.push_reserved.ensures.items) (more g c a (subst (λ n. a < n) (add-one c.loop-m.m ∙ ap suc (sym c.loop-m.invariant.many)) low));
    }

below : (g : given.Over) (c : goal.After-loop-m g) (a : ℕ) → a < length c.args.trace.now.now.machines.items → a < c.loop-m.m
below g c a low = omega (arith, c.machines-many.ensures.count, c.loop-m-test.false)

pub returns-clause-each : goal.returns-clause-each
returns-clause-each g c = λ a low. c.loop-m.invariant.each a (below g c a low)
