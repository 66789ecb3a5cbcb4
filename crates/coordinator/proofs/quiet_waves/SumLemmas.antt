-- Answers and their sums.
use Rattle.std.proofs.Common.{◌≡◌, ◌*◌, ◌≤◌, Bool, true, Option, Some, None, List, length, sym, subst, arith}
use Rattle.std.specs.Prelude.{if◌then◌else◌, sum_by}
use Rattle.std.specs.List.{All}
use Rattle.std.proofs.lemmas.List.Sums.{sum_by-le}
use Rattle.gl_base.specs.declared.scopes.Counted.{Counted}
use Rattle.coordinator.specs.declared.quiet_waves.answering.Sums.{Sums}
use Rattle.coordinator.specs.quiet_waves.Inner.Sums.{AreSums, restless_of}
use Rattle.coordinator.specs.quiet_waves.Waves.{AreEvenWaves, IsIdleAnswer, ShowTheEnd, TwoWaves}

-- who answered that it is idle is not restless
not_restless : (count : Option Counted) → IsIdleAnswer count → restless_of count ≤ 0
not_restless None idle = absurd idle
not_restless (Some counted) idle =
    let P : Bool → Type 0 = λ b. (if b then 0 else 1) ≤ 0 in
    let zero_le : P true = omega arith in
    subst P (sym idle) zero_le

-- where all are idle nobody is restless
none_restless : (counts : List (Option Counted)) → All IsIdleAnswer counts → sum_by restless_of counts ≡ 0
none_restless counts idle =
    let le : sum_by restless_of counts ≤ length counts * 0 = sum_by-le restless_of 0 counts (λ k d below. not_restless _ (idle k d below)) in
    omega arith

-- nor do the sums say that somebody is
pub no_restless : (counts : List (Option Counted)) (sums : Sums) → AreSums counts sums → All IsIdleAnswer counts → sums.restless ≡ 0
no_restless counts sums are idle =
    let none : sum_by restless_of counts ≡ 0 = none_restless counts idle in
    omega arith

-- where two waves show the end they are even
pub even_shown : (w : TwoWaves) → ShowTheEnd w → AreEvenWaves w
even_shown w shown = record { received_before = shown.received_before; sent = shown.sent; received = shown.received }
