use Rattle.std.proofs.Common.{◌≡◌, ◌<◌, ◌++◌, ◌^◌, ℕ, List, length, take, drop, sum, subst, sym, ap, ◌∙◌, arith}
use Rattle.std.proofs.Math.Seq.{take-append_seam}
use Rattle.placement.specs.graphs.Placed.{atom_numbers}
use Rattle.placement.proofs.graphs.WeighLemmas.{weights_are, weights_fit}
use Rattle.placement.proofs.graphs.weighing.weights_of.Goals as goal

pub returns : goal.returns
returns c =
    let g = c.args.graph.now in
    let of = atom_numbers c.args.of.now in
    let new = c.weigh.new.weights in
    let rest = drop (length new) c.in_ok-weights.weights.items in
    let many : length new ≡ c.args.atoms = c.weigh.auto.weights ∙ c.deref_mut.ensures.len ∙ c.in_ok-weights.ensures.len in
    let whole : c.in_ok-weights.weights.len ≡ length new = c.in_ok-weights.ensures.len ∙ sym many in
    let same : take c.in_ok-weights.weights.len (new ++ rest) ≡ new = ap (λ (n : ℕ). take n (new ++ rest)) whole ∙ take-append_seam new rest in
    record {
      weights = same ∙ weights_are g of new c.args.atoms c.weigh.ensures.weights many;
      fits = subst (λ (xs : List ℕ). sum xs < 2 ^ 64) (sym same) (weights_fit g of new c.weigh.ensures.graph c.weigh.ensures.weights (omega (arith, many, c.ranges.atoms.fits)));
    }
