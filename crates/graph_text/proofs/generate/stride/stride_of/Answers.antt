use Rattle.std.proofs.Common.{◌+◌, inl, inr, arith, subst}
use Rattle.std.specs.Int.{IsGcd}
use Rattle.std.proofs.lemmas.Bool.{cases_eq, cases_lt}
use Rattle.graph_text.specs.generate.Making.{IsStep}
use Rattle.graph_text.proofs.generate.Strides.{step_after, not_a_step}
use Rattle.graph_text.proofs.generate.stride.stride_of.Goals as goal

pub loop-stride-init : goal.loop-stride-init
loop-stride-init c = λ u step below. omega (arith, step.some, step.large, below, c.max-low.ensures)

pub loop-stride-preserved : goal.loop-stride-preserved
loop-stride-preserved c = λ u step below. elim (cases_eq u c.loop-stride.stride) [
  | inl e ↦ not_a_step c.args.half c.loop-stride.stride c.greatest_common_divisor.result c.greatest_common_divisor.ensures c.if-greatest_common_divisor-eq1.false (subst (IsStep c.args.half) e step)
  | inr apart ↦ c.loop-stride.invariant u step (omega (arith, below, apart))
]

pub returns-then-greatest_common_divisor-eq1-clause-stride : goal.returns-then-greatest_common_divisor-eq1-clause-stride
returns-then-greatest_common_divisor-eq1-clause-stride c =
    let low = c.loop-stride.auto.stride in
    record {
      step = record {
        some = omega (arith, low, c.max-low.ensures);
        large = omega (arith, low, c.max-low.ensures);
        apart = subst (IsGcd c.loop-stride.stride c.args.half) c.if-greatest_common_divisor-eq1.true c.greatest_common_divisor.ensures;
      };
      least = λ u step. elim (cases_lt u c.loop-stride.stride) [
        | inl below ↦ absurd (c.loop-stride.invariant u step below)
        | inr above ↦ above
      ];
    }

pub unreachable-requires : goal.unreachable-requires
unreachable-requires c =
    let after = step_after c.args.half in
    c.loop-stride.invariant (c.args.half + 1) after (omega (arith, after.large, c.max-low.ensures, c.loop-stride.auto.stride-end))
