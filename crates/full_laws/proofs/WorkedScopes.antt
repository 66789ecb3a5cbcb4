-- The worked examples of full scopes, action by action.
use Rattle.std.proofs.Common.{◌≡◌, ℕ, Bool, true, false, if◌then◌else◌, length, List, [], ◌∷◌, refl, ap, arith}
use Rattle.gl_base.specs.declared.entries.Entry.{Entry}
use Rattle.gl_base.specs.declared.limits.TheConstants.{INF}
use Rattle.gl_base.specs.declared.scopes.ScopeId.{ScopeId}
use Rattle.cluster_laws.specs.cluster_core.Ranges.{all_passing, first_passing}
use Rattle.cluster_laws.specs.cluster_core.Scopes.{is_scope}
use Rattle.cluster_laws.proofs.cluster_numbers.Passing.{none_not_some}
use Rattle.full_scope.specs.FullOrders.{full_replay}
use Rattle.prog_match.specs.Pairs.{update_of_pairs}
use Rattle.full_laws.specs.FourInLine.{all_unmatched, both_set_out, both_update, both_updated, each_on_its_own, first_updates, of_first, of_third, once_given, third_updates, two_updated, while_both_wait, with_shared_lock}
use Rattle.full_laws.specs.FullActions.{MayGrantFull}
use Rattle.full_laws.specs.FullPlaces.{HaveOneHolder}
use Rattle.full_laws.specs.FullReplays.{ComesTo, IsFullReplay, gifts_from}
use Rattle.full_laws.specs.FullRuns.{IsFullRun}
use Rattle.full_laws.specs.Items.{AVertex, AnEdge, number_in}

-- a lock that was released
released : (test : Bool) → (if test then false else (if test then true else false)) ≡ false
released true = refl
released false = refl

true_not_false : true ≡ false → ⊥
true_not_false is = cc

pub both_may : IsFullRun each_on_its_own update_of_pairs all_unmatched both_set_out while_both_wait
unfolding first_passing all_passing
both_may = (record { vertex = omega arith; owned = refl; task = refl; fresh = λ s flies. none_not_some 2 flies; room = omega arith }, (record { message = _; behind = _; first = refl }, (record { message = _; behind = _; first = refl }, (record { vertex = omega arith; owned = refl; scope = _; behind = _; first = refl; free = λ s. refl }, (record { message = _; behind = _; first = refl }, (record { message = _; behind = _; first = refl }, (record { vertex = omega arith; owned = refl; scope = _; behind = _; first = refl; free = λ s. refl }, (record { message = _; behind = _; first = refl }, (record { message = _; behind = _; first = refl }, (record { vertex = omega arith; owned = refl; task = refl; fresh = λ s flies. none_not_some 0 flies; room = omega arith }, (record { vertex = omega arith; owned = refl; scope = _; behind = _; first = refl; free = λ s. refl }, (record { message = _; behind = _; first = refl }, (record { message = _; behind = _; first = refl }, refl)))))))))))))

pub held : ((while_both_wait.part 1).holds 1 of_third ≡ true) × ((while_both_wait.part 2).holds 2 of_third ≡ true) × ((while_both_wait.part 3).queue 3 ≡ of_third ∷ []) × ((while_both_wait.part 1).queue 1 ≡ of_first ∷ [])
unfolding first_passing all_passing
held = (refl, refl, refl, refl)

pub not_now : MayGrantFull each_on_its_own 1 1 (while_both_wait.part 1) → ⊥
unfolding first_passing all_passing
not_now may = true_not_false (may.free of_third)

pub third_may : IsFullRun each_on_its_own update_of_pairs while_both_wait third_updates once_given
unfolding first_passing all_passing
third_may = (record { vertex = omega arith; owned = refl; scope = _; behind = _; first = refl; free = λ s. refl }, (record { message = _; behind = _; first = refl }, (record { message = _; behind = _; first = refl }, (record { vertex = _; seen = _; flight = refl; ready = refl; ticket = omega arith }, (record { message = _; behind = _; first = refl }, (record { message = _; behind = _; first = refl }, refl))))))

pub matched : ((once_given.part 1).number (AVertex 1) ≡ 3) × ((once_given.part 2).number (AVertex 2) ≡ 2) × ((once_given.part 1).number (AnEdge 1) ≡ 1) × ((once_given.part 2).number (AnEdge 1) ≡ 1)
unfolding first_passing all_passing
matched = (refl, refl, refl, refl)

pub first_may : IsFullRun each_on_its_own update_of_pairs once_given first_updates two_updated
unfolding first_passing all_passing
first_may = (record { vertex = omega arith; owned = refl; scope = _; behind = _; first = refl; free = λ s. released (is_scope s of_third) }, (record { message = _; behind = _; first = refl }, (record { message = _; behind = _; first = refl }, (record { vertex = _; seen = _; flight = refl; ready = refl; ticket = omega arith }, (record { message = _; behind = _; first = refl }, (record { message = _; behind = _; first = refl }, refl))))))

pub numbers : ((two_updated.part 0).number (AVertex 0) ≡ INF) × ((two_updated.part 1).number (AVertex 1) ≡ 3) × ((two_updated.part 2).number (AVertex 2) ≡ 2) × ((two_updated.part 3).number (AVertex 3) ≡ INF)
unfolding first_passing all_passing
numbers = (refl, refl, refl, refl)

pub edges : ((two_updated.part 0).number (AnEdge 0) ≡ 0) × ((two_updated.part 1).number (AnEdge 0) ≡ 0) × ((two_updated.part 1).number (AnEdge 1) ≡ 1) × ((two_updated.part 2).number (AnEdge 1) ≡ 1) × ((two_updated.part 2).number (AnEdge 2) ≡ 0) × ((two_updated.part 3).number (AnEdge 2) ≡ 0)
unfolding first_passing all_passing
edges = (refl, refl, refl, refl, refl, refl)

pub updates : (length (two_updated.part 2).log ≡ 1) × (length (two_updated.part 0).log ≡ 1) × (two_updated.next ≡ 2)
unfolding first_passing all_passing
updates = (refl, refl, refl)

-- ---- a shared lock

scopes_differ : of_third ≡ of_first → ⊥
scopes_differ same =
    let homes : ◌≡◌ {A = ℕ} 2 0 = ap (λ (s : ScopeId). s.home.0) same in
    omega (arith, homes)

pub two_hold : HaveOneHolder with_shared_lock → ⊥
unfolding first_passing all_passing
two_hold one = scopes_differ (one 1 1 of_third of_first refl refl)

pub shared_may : IsFullRun each_on_its_own update_of_pairs with_shared_lock both_update both_updated
unfolding first_passing all_passing
shared_may = (record { message = _; behind = _; first = refl }, (record { message = _; behind = _; first = refl }, (record { vertex = _; seen = _; flight = refl; ready = refl; ticket = omega arith }, (record { vertex = omega arith; owned = refl; scope = _; behind = _; first = refl; free = λ s. refl }, (record { message = _; behind = _; first = refl }, (record { message = _; behind = _; first = refl }, (record { vertex = _; seen = _; flight = refl; ready = refl; ticket = omega arith }, refl)))))))

-- machine 0 gives vertex 2 the number 1, and machine 2 gives it 3
pub no_order : (order : List Entry) → IsFullReplay each_on_its_own update_of_pairs both_updated order → ⊥
unfolding first_passing all_passing
no_order order replay =
    let comes : ComesTo (λ from. gifts_from both_updated from 1) (AVertex 1) ((both_updated.part 1).number (AVertex 1)) (number_in (full_replay each_on_its_own.graph update_of_pairs order) (AVertex 1)) =
    replay.numbers (AVertex 1) 1 (omega arith) refl in
    let one : 1 ≡ number_in (full_replay each_on_its_own.graph update_of_pairs order) (AVertex 1) = (comes.given 0).0 in
    let three : 3 ≡ number_in (full_replay each_on_its_own.graph update_of_pairs order) (AVertex 1) = (comes.given 2).0 in
    omega (arith, one, three)
