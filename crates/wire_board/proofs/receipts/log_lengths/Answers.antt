-- The length of each machine's log is added.
use Rattle.std.proofs.Common.{ℕ, suc, [], ◌+◌, ◌++◌, ◌<◌, ◌∙◌, ◌∷◌, ◌≡◌, add-one, ap, arith, length, length-append, subst, sym}
use Rattle.std.specs.Prelude.{slice_index_or}
use Rattle.cluster_step.proofs.trace.Calling.{grown}
use Rattle.cluster_step.specs.trace.Traces.{InEachTrace}
use Rattle.wire_board.proofs.receipts.log_lengths.Given as given
use Rattle.wire_board.proofs.receipts.log_lengths.Goals as goal

abbrev Lengths : (g : given.Over) (c : goal.After-push_reserved g) → ℕ → ℕ → Type 0
Lengths g c a n = InEachTrace g.M.SavingMachine.represents c.args.trace.now (λ st o events x. n ≡ length (x.machine a).part.log)

-- the lengths so far and the machine's
more : (g : given.Over) (c : goal.After-push_reserved g) → (a : ℕ) → a < suc (length c.loop-m.lengths.items) → Lengths g c a (slice_index_or (c.loop-m.lengths.items ++ (length c.log-log.result.now) ∷ []) a 0)
more g c =
    grown (Lengths g c) c.loop-m.lengths.items (length c.log-log.result.now) (λ a low. c.loop-m.invariant.each a (subst (λ n. a < n) c.loop-m.invariant.many low))
    (subst (λ n. Lengths g c n (length c.log-log.result.now)) (sym c.loop-m.invariant.many) (λ st o events x is. ap length (c.log-log.ensures.log st o events x is)))

pub loop-m-preserved : goal.loop-m-preserved
loop-m-preserved g c = record {
  many = ap length c.push_reserved.ensures.items ∙ length-append c.loop-m.lengths.items ((length c.log-log.result.now) ∷ []) ∙ ap (λ n. n + 1) c.loop-m.invariant.many;
  each = λ a low. subst (λ xs. Lengths g c a (slice_index_or xs a 0)) (sym c.push_reserved.ensures.items) (more g c a (subst (λ n. a < n) (add-one c.loop-m.m ∙ ap suc (sym c.loop-m.invariant.many)) low));
}

pub returns : goal.returns
returns g c = record {
  many = c.loop-m.invariant.many ∙ (let e : c.loop-m.m ≡ length c.args.trace.now.now.machines.items = omega (arith, c.machines-many.ensures.count, c.loop-m-test.false) in e);
  each = λ st o events x is a low. c.loop-m.invariant.each a (let i : a < c.loop-m.m = omega (arith, low, c.machines-many.ensures.count, c.loop-m-test.false) in i) st o events x is;
}
