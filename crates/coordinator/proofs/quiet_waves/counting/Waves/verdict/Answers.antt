-- Two waves that show the end are of idle machines, and even.
use Rattle.std.proofs.Common.{arith, rules, sym, subst}
use Rattle.coordinator.specs.quiet_waves.Waves.{ShowTheEnd}
use Rattle.coordinator.proofs.quiet_waves.SumLemmas.{even_shown, no_restless}
use Rattle.coordinator.proofs.quiet_waves.counting.Waves.verdict.Goals as goal
use Rattle.coordinator.proofs.quiet_waves.counting.Waves.verdict.Goals.{else-restless_before-eq0-via-then-restless_before-eq0+then-restless-eq0+else-is_even, else-restless_before-eq0-via-then-restless_before-eq0+else-restless-eq0, else-restless_before-eq0-via-else-restless_before-eq0}

pub returns-else-restless_before-eq0 : goal.returns-else-restless_before-eq0
returns-else-restless_before-eq0 c = (
  (λ e. absurd (cc)),
  λ shown. absurd (elim c.else-restless_before-eq0.branch [
    | else-restless_before-eq0-via-then-restless_before-eq0+then-restless-eq0+else-is_even w ↦ let even = w.is_even.ensures.1 (even_shown _ shown) in absurd (search rules)
    | else-restless_before-eq0-via-then-restless_before-eq0+else-restless-eq0 w ↦
        let idle = no_restless _ _ c.sums-restless.ensures (subst ShowTheEnd (sym c.self.view_is) shown).idle in
        grind arith
    | else-restless_before-eq0-via-else-restless_before-eq0 w ↦
        let idle = no_restless _ _ c.sums-restless_before.ensures (subst ShowTheEnd (sym c.self.view_is) shown).idle_before in
        grind arith
  ]),
)
