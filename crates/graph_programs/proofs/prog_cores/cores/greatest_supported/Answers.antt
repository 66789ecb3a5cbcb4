use Rattle.std.proofs.Common.{◌∙◌, arith}
use Rattle.update_api.specs.Scopes.{nears}
use Rattle.graph_programs.proofs.prog_cores.BoundLaws.{IsBetween, found, met, missed}
use Rattle.graph_programs.proofs.prog_cores.cores.greatest_supported.Goals as goal
use Rattle.graph_programs.proofs.prog_cores.cores.greatest_supported.Goals.{then-count-looked, else-count-looked}

pub loop-low-init : goal.loop-low-init
loop-low-init c = record {
  between = record { within = omega arith; top = omega arith; held = omega arith; none = λ j past inside held. absurd (omega (arith, past, inside)) };
  above = λ less. less;
  below = omega arith;
}

pub loop-low-preserved : goal.loop-low-preserved
loop-low-preserved c =
    let is = c.loop-low.invariant.between in
    let above = c.loop-low.invariant.above c.loop-low-test.true in
    let below = c.loop-low.invariant.below in
    let low = c.if-count-looked.low in
    let high = c.if-count-looked.high in
    let between : IsBetween c.args.most low high (nears c.args.scope.now) =
    elim c.if-count-looked.branch [
      | then-count-looked w ↦ met c.args.most c.loop-low.low c.loop-low.high c.loop-low.looked c.support-count.result low high (nears c.args.scope.now) is above below c.support-count.ensures w.if-count-looked.true w.low-is (w.high-is ∙ w.min-high.ensures)
      | else-count-looked w ↦ missed c.args.most c.loop-low.low c.loop-low.high c.loop-low.looked c.support-count.result low high (nears c.args.scope.now) is above below c.support-count.ensures w.if-count-looked.false (w.low-is ∙ w.max-low.ensures) w.high-is
    ] in
    record {
      between = between;
      above = λ less. omega (arith, less);
      below = omega arith;
    }

pub returns : goal.returns
returns c = found c.args.most c.loop-low.low c.loop-low.high (nears c.args.scope.now) c.loop-low.invariant.between c.loop-low-test.false
