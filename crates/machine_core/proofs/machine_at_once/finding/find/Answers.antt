-- What is found is the pick, and what is not may not be updated at once.
use Rattle.std.proofs.Common.{◌≤◌, subst, ℕ}
use Rattle.machine_core.proofs.machine_scopes.AdmitLemmas.{few_flights}
use Rattle.machine_core.proofs.machine_at_once.Scopes.{crowded_not, crowded_refused, found_pick, held_not, held_refused, own_pick, picks_none, snapshot_not, snapshot_refused}
use Rattle.machine_core.proofs.machine_at_once.finding.find.Goals as goal
use Rattle.machine_core.proofs.machine_at_once.finding.find.Goals.{then-pick-via-then-pick, then-pick-via-else-pick+then-flight_count-core}

pub returns-then-pick-clause-none : goal.returns-then-pick-clause-none
returns-then-pick-clause-none c = λ none.
    let m = c.args.core.now in
    let p = c.in_ok-pick.pick in
    let e = c.in_ok-pick.ensures in
    elim c.then-pick.branch [
      | then-pick-via-then-pick w ↦ snapshot_not m p c.index-vertex.result.now c.requires.orderly c.requires.places e.pick e.within e.asked c.index-vertex.ensures w.if-pick.true
      | then-pick-via-else-pick+then-flight_count-core w ↦
          crowded_not m p c.index-vertex.result.now c.requires.orderly c.requires.places e.pick e.within e.asked c.index-vertex.ensures
          (subst (λ (k : ℕ). m.terms.pipeline ≤ k) w.flight_count.ensures w.if-flight_count-core.true)
    ]

pub is_free_scope-requires-clause-own : goal.is_free_scope-requires-clause-own
is_free_scope-requires-clause-own c =
    let e = c.in_ok-pick.ensures in
    own_pick c.args.core.now c.in_ok-pick.pick c.index-vertex.result.now c.requires.orderly c.requires.places e.pick e.within e.asked c.index-vertex.ensures

pub returns-then-is_free_scope-clause-found : goal.returns-then-is_free_scope-clause-found
returns-then-is_free_scope-clause-found c =
    let m = c.args.core.now in
    let e = c.in_ok-pick.ensures in
    found_pick m c.in_ok-pick.pick c.index-vertex.result.now c.requires.orderly c.requires.places e.pick e.within e.asked c.index-vertex.ensures c.if-pick.false
    (few_flights m c.flight_count.result c.flight_count.ensures c.if-flight_count-core.false) (c.is_free_scope.ensures.free c.if-is_free_scope.true)

pub returns-else-is_free_scope-clause-none : goal.returns-else-is_free_scope-clause-none
returns-else-is_free_scope-clause-none c = λ none.
    let e = c.in_ok-pick.ensures in
    held_not c.args.core.now c.in_ok-pick.pick c.index-vertex.result.now c.requires.orderly c.requires.places e.pick e.within e.asked c.index-vertex.ensures
    (c.is_free_scope.ensures.claimed c.if-is_free_scope.false)

pub returns-in_err-pick-clause-refused : goal.returns-in_err-pick-clause-refused
returns-in_err-pick-clause-refused c = λ none. picks_none c.args.core.now c.requires.orderly c.in_err-pick.ensures.asked c.in_err-pick.ensures.pick

pub returns-then-pick-clause-refused : goal.returns-then-pick-clause-refused
returns-then-pick-clause-refused c = λ none.
    let m = c.args.core.now in
    let p = c.in_ok-pick.pick in
    let e = c.in_ok-pick.ensures in
    elim c.then-pick.branch [
      | then-pick-via-then-pick w ↦ snapshot_refused m p c.index-vertex.result.now c.requires.orderly c.requires.places e.pick e.within e.asked c.index-vertex.ensures w.if-pick.true
      | then-pick-via-else-pick+then-flight_count-core w ↦
          crowded_refused m p c.index-vertex.result.now c.requires.orderly c.requires.places e.pick e.within e.asked c.index-vertex.ensures
          (subst (λ (k : ℕ). m.terms.pipeline ≤ k) w.flight_count.ensures w.if-flight_count-core.true)
    ]

pub returns-else-is_free_scope-clause-refused : goal.returns-else-is_free_scope-clause-refused
returns-else-is_free_scope-clause-refused c = λ none.
    let e = c.in_ok-pick.ensures in
    held_refused c.args.core.now c.in_ok-pick.pick c.index-vertex.result.now c.requires.orderly c.requires.places e.pick e.within e.asked c.index-vertex.ensures
    (c.is_free_scope.ensures.claimed c.if-is_free_scope.false)
