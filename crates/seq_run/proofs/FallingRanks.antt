-- How many updates may follow one another: each lowers the tasks and the ranks of the numbers, taken together.
use Rattle.std.proofs.Common.{◌≡◌, ◌⊎◌, ℕ, suc, ◌+◌, ◌*◌, ◌<◌, ◌≤◌, ◌==◌, ◌&&◌, ◌||◌, not, if◌then◌else◌, Bool, true, false, List, [], ◌∷◌, length, refl, sym, ap, ⊎_elim, true≢false, arith, eq-eqb, ne_eqb, eqb-true, mul-le-mul_left, mul-le-mul_right, length-append}
use Rattle.std.specs.List.{list_any}
use Rattle.std.proofs.lemmas.Bool.{cases_eq, and_parts, and_right, not_from_true}
use Rattle.gl_base.specs.declared.entries.Entry.{Entry}
use Rattle.gl_base.specs.declared.entries.Entry.TheVariants.{Go, Restart}
use Rattle.graph_core.specs.DataGraph.{DataEdge, DataGraph, size, IsDataGraph}
use Rattle.graph_core.specs.Halves.{DataHalf, half_at, halves_from, halves_of}
use Rattle.update_api.specs.declared.woken.Woken.{Woken}
use Rattle.update_api.specs.declared.woken.Woken.TheVariants.{Nobody, Ahead, Around}
use Rattle.update_api.specs.Updates.{Update}
use Rattle.seq_run.specs.States.{GraphState, start_state, new_number, after_update, is_woken, wakes}
use Rattle.seq_run.specs.Orders.{all_tasks, tasks_after_entry, IsValidFrom, IsValidOrder}
use Rattle.seq_run.specs.StepBound.{updates_from, updates_since_restart, steps_at_most}
use Rattle.seq_run.proofs.Sums.{sum_below, count_below, sum_below-mono, sum_below-less, sum_below-add, sum_below-scale, sum_below-le, count_below-le, count_below-mono, count_below-less, count_below-same, count_below-nothing}
use Rattle.seq_run.proofs.Waking.{with_number-same, with_number-holds}
use Rattle.seq_run.proofs.AtRest.{Stands, all_stand, step}

bit_either : (a b : Bool) → (if a || b then 1 else 0) ≤ (if a then 1 else 0) + (if b then 1 else 0)
bit_either true b = omega arith
bit_either false b = omega arith

count_below-either : (p q : ℕ → Bool) (n : ℕ) → count_below (λ u. p u || q u) n ≤ count_below p n + count_below q n
count_below-either p q n =
    let both = sum_below-mono (λ u. if p u || q u then 1 else 0) (λ u. (if p u then 1 else 0) + (if q u then 1 else 0)) n (λ u within. bit_either (p u) (q u)) in
    let sums = sum_below-add (λ u. if p u then 1 else 0) (λ u. if q u then 1 else 0) n in
    omega arith

-- a test that a half passes for its other end alone is passed by no more vertices than there are halves
passed_few : (test : DataHalf → ℕ → Bool) → ((h : DataHalf) (u : ℕ) → test h u ≡ true → h.other ≡ u) → (halves : List DataHalf) (n : ℕ) → count_below (λ u. list_any (λ h. test h u) halves) n ≤ length halves
passed_few test other [] n = let nothing = count_below-nothing n in omega arith
passed_few test other (h ∷ halves) n =
    let rest = passed_few test other halves n in
    let both = count_below-either (λ u. test h u) (λ u. list_any (λ h. test h u) halves) n in
    let one = count_below-mono (λ u. test h u) (λ u. h.other == u) n (λ u within passes. eq-eqb h.other u (other h u passes)) in
    let same = count_below-same h.other n in
    omega arith

woken_few : (woken : Woken) (halves : List DataHalf) (n : ℕ) → count_below (λ u. is_woken woken halves u) n ≤ length halves
woken_few Nobody halves n = let nothing = count_below-nothing n in omega arith
woken_few Ahead halves n = passed_few (λ h u. h.out && h.other == u) (λ h u passes. eqb-true h.other u (and_parts h.out (h.other == u) passes).1) halves n
woken_few Around halves n = passed_few (λ h u. h.other == u) (λ h u passes. eqb-true h.other u passes) halves n

-- an edge has at most two halves
half_at-few : (directed : Bool) (v k : ℕ) (e : DataEdge) → length (half_at directed v k e) ≤ (if e.from == v then 1 else 0) + (if e.to == v then 1 else 0)
half_at-few directed v k e = ⊎_elim
    (λ (from : e.from ≡ v). rw (eq-eqb e.from v from) (omega arith))
    (λ (not_from : e.from ≡ v → ⊥). rw (ne_eqb e.from v not_from) (⊎_elim
    (λ (to : e.to ≡ v). rw (eq-eqb e.to v to) (omega arith))
    (λ (not_to : e.to ≡ v → ⊥). rw (ne_eqb e.to v not_to) (omega arith))
    (cases_eq e.to v)))
    (cases_eq e.from v)

pub halves_few : (directed : Bool) (k n : ℕ) (edges : List DataEdge) → sum_below (λ v. length (halves_from directed v k edges)) n ≤ 2 * length edges
halves_few directed k n [] =
    let none = sum_below-le (λ v. 0) 0 n (λ v within. omega arith) in omega arith
halves_few directed k n (e ∷ edges) =
    let rest = halves_few directed (suc k) n edges in
    let each = sum_below-mono (λ v. length (halves_from directed v k (e ∷ edges))) (λ v. ((if e.from == v then 1 else 0) + (if e.to == v then 1 else 0)) + length (halves_from directed v (suc k) edges)) n
    (λ v within. let front = half_at-few directed v k e in let both = length-append (half_at directed v k e) (halves_from directed v (suc k) edges) in omega arith) in
    let sums = sum_below-add (λ v. (if e.from == v then 1 else 0) + (if e.to == v then 1 else 0)) (λ v. length (halves_from directed v (suc k) edges)) n in
    let ends = sum_below-add (λ v. if e.from == v then 1 else 0) (λ v. if e.to == v then 1 else 0) n in
    let from = count_below-same e.from n in
    let to = count_below-same e.to n in
    omega arith

-- an update wakes nobody, or the rank of its number falls
module _ (g : DataGraph) (is : IsDataGraph g) (p : Update) (Good : GraphState → Type 0) (goes : (s : GraphState) (v : ℕ) → v < size g → Good s → Good (after_update g p s v)) (rank : ℕ → ℕ) (most : ℕ) (capped : (x : ℕ) → rank x ≤ most) (falls : (s : GraphState) (v : ℕ) → v < size g → Good s → ((p.woken (s.vertex v) (new_number g p s v) ≡ Nobody) × (rank (new_number g p s v) ≤ rank (s.vertex v))) ⊎ (rank (new_number g p s v) < rank (s.vertex v))) where
  abbrev AnySettled : ℕ → GraphState → Type 0
  AnySettled w s = Unit {0}

  abbrev AllStand : GraphState → (ℕ → Bool) → Type 0
  AllStand s tasks = Stands g is p Good AnySettled goes (λ s v within good. tt) (λ s v w v_within w_within good other asleep settled. tt) s tasks

  abbrev ranks : GraphState → ℕ
  ranks s = sum_below (λ u. length (halves_of g u) * rank (s.vertex u)) (size g)

  ranks-low : (s : GraphState) → ranks s ≤ 2 * length g.edges * most
  ranks-low s =
      let each = sum_below-mono (λ u. length (halves_of g u) * rank (s.vertex u)) (λ u. length (halves_of g u) * most) (size g) (λ u within. mul-le-mul_left (length (halves_of g u)) (capped (s.vertex u))) in
      let scaled = sum_below-scale (λ u. length (halves_of g u)) most (size g) in
      let few = mul-le-mul_right most (halves_few g.directed 0 (size g) g.edges) in
      omega arith

  -- with every vertex a task
  all_low : (s : GraphState) → count_below (all_tasks g) (size g) + ranks s ≤ steps_at_most g most
  all_low s = let tasks = count_below-le (all_tasks g) (size g) in let low = ranks-low s in omega arith

  -- the tasks that an update leaves
  tasks_left : (s : GraphState) (tasks : ℕ → Bool) (v : ℕ) → v < size g → tasks v ≡ true → count_below (λ u. wakes g p s v u || (tasks u && not (u == v))) (size g) < count_below (λ u. wakes g p s v u) (size g) + count_below tasks (size g)
  tasks_left s tasks v within task =
      let both = count_below-either (λ u. wakes g p s v u) (λ u. tasks u && not (u == v)) (size g) in
      let less = count_below-less (λ u. tasks u && not (u == v)) tasks v (size g) within
      (λ u u_within both. (and_parts (tasks u) (not (u == v)) both).0)
      (and_right (tasks v) (not (v == v)) (not_from_true (v == v) (eq-eqb v v refl)))
      task in
      omega arith

  -- an update lowers tasks and ranks together
  update_lowers : (s : GraphState) (tasks : ℕ → Bool) (v : ℕ) → v < size g → Good s → tasks v ≡ true → count_below (λ u. wakes g p s v u || (tasks u && not (u == v))) (size g) + ranks (after_update g p s v) < count_below tasks (size g) + ranks s
  update_lowers s tasks v within good task =
      let new = new_number g p s v in
      let left = tasks_left s tasks v within task in
      let terms_fall = λ (u : ℕ) (falls_here : rank new ≤ rank (s.vertex v)). mul-le-mul_left (length (halves_of g u)) (with_number-holds (λ u y. rank y ≤ rank (s.vertex u)) s.vertex v new u (λ same. falls_here) (λ other. omega arith)) in ⊎_elim
      (λ (w : (p.woken (s.vertex v) new ≡ Nobody) × (rank new ≤ rank (s.vertex v))).
      let asleep = count_below-mono (λ u. wakes g p s v u) (λ u. false) (size g)
      (λ u u_within woken. absurd (true≢false (sym (rw w.0 at woken)))) in
      let nothing = count_below-nothing (size g) in
      let lower = sum_below-mono (λ u. length (halves_of g u) * rank ((after_update g p s v).vertex u)) (λ u. length (halves_of g u) * rank (s.vertex u)) (size g) (λ u u_within. terms_fall u w.1) in
      omega arith)
      (λ (fall : rank new < rank (s.vertex v)).
      let woken = woken_few (p.woken (s.vertex v) new) (halves_of g v) (size g) in
      let product = mul-le-mul_left (length (halves_of g v)) fall in
      let same : rank ((after_update g p s v).vertex v) ≡ rank new = ap rank (with_number-same s.vertex v new) in
      let here : length (halves_of g v) * rank ((after_update g p s v).vertex v) + length (halves_of g v) ≤ length (halves_of g v) * rank (s.vertex v) = rw (with_number-same s.vertex v new) (omega arith) in
      let lower = sum_below-less (λ u. length (halves_of g u) * rank ((after_update g p s v).vertex u)) (λ u. length (halves_of g u) * rank (s.vertex u)) (length (halves_of g v)) v (size g) within (λ u u_within. terms_fall u (omega arith)) here in
      omega arith)
      (falls s v within good)

  bound_from : (count : ℕ) (s : GraphState) (tasks : ℕ → Bool) (order : List Entry) → IsValidFrom g p s tasks order → AllStand s tasks → count + count_below tasks (size g) + ranks s ≤ steps_at_most g most → updates_from count order ≤ steps_at_most g most
  bound_from count s tasks [] valid stands low = omega arith
  bound_from count s tasks (Restart ticket ∷ order) valid stands low =
      bound_from 0 s (all_tasks g) order valid.1
      (step g is p Good AnySettled goes (λ s v within good. tt) (λ s v w v_within w_within good other asleep settled. tt) s tasks (Restart ticket) valid.0 stands)
      (let all = all_low s in omega arith)
  bound_from count s tasks (Go machine vertex ticket ∷ order) valid stands low =
      let lower = update_lowers s tasks vertex.0 (stands.within vertex.0 valid.0) stands.good valid.0 in
      bound_from (count + 1) (after_update g p s vertex.0) (tasks_after_entry g p s tasks (Go machine vertex ticket)) order valid.1
      (step g is p Good AnySettled goes (λ s v within good. tt) (λ s v w v_within w_within good other asleep settled. tt) s tasks (Go machine vertex ticket) valid.0 stands)
      (omega arith)

  pub bounded : (order : List Entry) → IsValidOrder g p order → Good (start_state g p) → updates_since_restart order ≤ steps_at_most g most
  bounded order valid start =
      bound_from 0 (start_state g p) (all_tasks g) order valid
      (all_stand g is p Good AnySettled goes (λ s v within good. tt) (λ s v w v_within w_within good other asleep settled. tt) (start_state g p) start)
      (let all = all_low (start_state g p) in omega arith)
