-- Levels and distances: numbers that are costs of walks, and fall as far as they can.
use Rattle.std.proofs.Common.{◌≡◌, ◌⊎◌, ℕ, suc, ◌+◌, ◌-◌, ◌*◌, ◌^◌, ◌<◌, ◌≤◌, ◌&&◌, nat_lt, if◌then◌else◌, Bool, true, false, List, [], ◌∷◌, ◌++◌, length, slice_index, slice_index_or, refl, sym, ◌∙◌, subst, ap, inl, inr, ⊎_elim, arith, mul-le-mul, suc-mul, ltb-true, lt-ltb, le-ltb, eq-eqb, ne_eqb}
use Rattle.std.specs.List.{AllByRecursion}
use Rattle.std.proofs.lemmas.Bool.{cases_eq, cases_lt, cases_order, and_parts, and_from}
use Rattle.gl_base.specs.declared.limits.TheConstants.{INF}
use Rattle.gl_base.specs.declared.entries.Entry.{Entry}
use Rattle.graph_core.specs.DataGraph.{DataEdge, DataGraph, size, IsDataGraph}
use Rattle.graph_core.specs.Walks.{Leads, Walk, IsLeastOrInf}
use Rattle.graph_core.specs.Halves.{halves_of}
use Rattle.graph_core.proofs.HalvesLaws.{each-weaker, IsWalk-push, IsHalfAt, halves_are, edge_is, half_other, half_weight, half_in_edges, half_leads, has_half_from}
use Rattle.update_api.specs.Updates.{Update, start_at}
use Rattle.seq_run.specs.States.{GraphState, start_state, new_number, after_update}
use Rattle.seq_run.specs.Orders.{replay, IsValidOrder, IsFinished}
use Rattle.seq_run.proofs.Sums.{sum_below, sum_below-mono, sum_below-less, sum_below-le}
use Rattle.seq_run.proofs.Waking.{with_number-same, with_number-holds}
use Rattle.seq_run.proofs.AtRest.{always_good, at_rest}
use Rattle.seq_run.proofs.Relaxing.{Relaxes, new_number-own, new_number-holds, IsRelaxed, relaxes-settles, relaxes-stays}

-- offers come along edges that lead in, from numbers that were reached
abbrev pub takes_reached : Bool → ℕ → Bool
takes_reached into number = into && nat_lt number INF

-- what the edges of a walk cost, where each costs so much by its weight
abbrev pub cost_of : (ℕ → ℕ) → List DataEdge → ℕ
cost_of cost [] = 0
cost_of cost (e ∷ path) = cost e.weight + cost_of cost path

cost_of-push : (cost : ℕ → ℕ) (path : List DataEdge) (e : DataEdge) → cost_of cost (path ++ e ∷ []) ≡ cost_of cost path + cost e.weight
cost_of-push cost [] e = omega arith
cost_of-push cost (f ∷ path) e = let rest = cost_of-push cost path e in omega arith

-- most for a number that was reached
abbrev pub height : ℕ → ℕ → ℕ
height most number = if nat_lt number INF then most else 0

height-reached : (most number : ℕ) → number < INF → height most number ≡ most
height-reached most number low = rw (lt-ltb number INF low) refl

height-fallen : (most old new : ℕ) → new ≤ old → height most old ≤ height most new
height-fallen most old new fallen = ⊎_elim
    (λ (low : old < INF). rw (lt-ltb old INF low, lt-ltb new INF (omega arith)) (omega arith))
    (λ (high : INF ≤ old). rw (le-ltb old INF high) (omega arith))
    (cases_lt old INF)

height-le : (most number : ℕ) → height most number ≤ most
height-le most number = ⊎_elim
    (λ (low : number < INF). rw (lt-ltb number INF low) (omega arith))
    (λ (high : INF ≤ number). rw (le-ltb number INF high) (omega arith))
    (cases_lt number INF)

ids_differ : (g : DataGraph) → IsDataGraph g → (u v : ℕ) → u < size g → v < size g → slice_index g.ids u ≡ slice_index g.ids v → u ≡ v
ids_differ g is u v u_within v_within same = ⊎_elim
    (λ (equal : u ≡ v). equal)
    (λ (w : (u < v) ⊎ (v < u)). ⊎_elim
    (λ (low : u < v). absurd (let a = is.ascending u v low v_within in omega arith))
    (λ (high : v < u). absurd (let a = is.ascending v u high u_within in omega arith))
    w)
    (cases_order u v)

-- each edge costs at most `most`
module _ (g : DataGraph) (is : IsDataGraph g) (source : ℕ) (source_within : source < size g) (p : Update) (cost : ℕ → ℕ) (most : ℕ) (few : most < 2 ^ 32) (low_cost : (k : ℕ) (e : DataEdge) → k < length g.edges → slice_index_or g.edges k e ≡ e → cost e.weight ≤ most) (starts : (id : ℕ) → p.start id ≡ start_at (slice_index g.ids source) id) (relaxes : Relaxes takes_reached (λ x w. x + cost w) g p) where
  -- `most` for each vertex that was reached
  abbrev pub heights : GraphState → ℕ
  heights s = sum_below (λ u. height most (s.vertex u)) (size g)

  pub heights-low : (s : GraphState) → heights s ≤ size g * most
  heights-low s = sum_below-le (λ u. height most (s.vertex u)) most (size g) (λ u within. height-le most (s.vertex u))

  all_low : size g * most < INF
  all_low =
      let bound : most ≤ 4294967295 = omega arith in
      let product : size g * most ≤ 1048576 * 4294967295 = mul-le-mul is.few bound in omega arith

  pub record Reaches (s : GraphState) : Type 0 where
    pub at_source : s.vertex source ≡ 0
    pub capped : (v : ℕ) → v < size g → s.vertex v ≤ INF
    pub walks : (v : ℕ) → v < size g → s.vertex v < INF → (path : List DataEdge) × Walk g source v path × (cost_of cost path ≡ s.vertex v)
    pub low : (v : ℕ) → v < size g → s.vertex v < INF → s.vertex v + most ≤ heights s

  start_cases : (v : ℕ) → v < size g → ((v ≡ source) × (p.start (slice_index g.ids v) ≡ 0)) ⊎ (p.start (slice_index g.ids v) ≡ INF)
  start_cases v within =
      let mine = slice_index g.ids v in
      let its = slice_index g.ids source in ⊎_elim
      (λ (same : mine ≡ its). inl (ids_differ g is v source within source_within same, starts mine ∙ (rw (eq-eqb mine its same) refl)))
      (λ (other : mine ≡ its → ⊥). inr (starts mine ∙ (rw (ne_eqb mine its other) refl)))
      (cases_eq mine its)

  starts_at_source : p.start (slice_index g.ids source) ≡ 0
  starts_at_source = starts (slice_index g.ids source) ∙ (rw (eq-eqb (slice_index g.ids source) (slice_index g.ids source) refl) refl)

  pub starts_well : Reaches (start_state g p)
  starts_well =
      record {
        at_source = starts_at_source;
        capped = λ v within. ⊎_elim
            (λ (w : (v ≡ source) × (p.start (slice_index g.ids v) ≡ 0)). let zero_is = w.1 in omega arith)
            (λ (far : p.start (slice_index g.ids v) ≡ INF). omega arith)
            (start_cases v within);
        walks = λ v within reached. ⊎_elim
            (λ (w : (v ≡ source) × (p.start (slice_index g.ids v) ≡ 0)). ([], sym w.0, sym w.1))
            (λ (far : p.start (slice_index g.ids v) ≡ INF). absurd (omega arith))
            (start_cases v within);
        low = λ v within reached. ⊎_elim
            (λ (w : (v ≡ source) × (p.start (slice_index g.ids v) ≡ 0)).
            let here : 0 + most ≤ height most (p.start (slice_index g.ids source)) = rw starts_at_source (omega arith) in
            let some = sum_below-less (λ u. 0) (λ u. height most (p.start (slice_index g.ids u))) most source (size g) source_within (λ u low. omega arith) here in
            let zero_is = w.1 in omega arith)
            (λ (far : p.start (slice_index g.ids v) ≡ INF). absurd (omega arith))
            (start_cases v within);
      }

  -- what holds of each number that an update may give
  record MayBe (s : GraphState) (v y : ℕ) : Type 0 where
    capped : y ≤ INF
    walks : y < INF → (path : List DataEdge) × Walk g source v path × (cost_of cost path ≡ y)
    low : y < INF → y ≤ heights s

  offers_may_be : (s : GraphState) (v : ℕ) → Reaches s → AllByRecursion (λ h. takes_reached h.into (s.vertex h.other) ≡ true → MayBe s v (s.vertex h.other + cost h.weight)) (halves_of g v)
  offers_may_be s v good =
      each-weaker (IsHalfAt g is v) (λ h. takes_reached h.into (s.vertex h.other) ≡ true → MayBe s v (s.vertex h.other + cost h.weight))
      (λ h half taken.
      let parts = and_parts h.into (nat_lt (s.vertex h.other) INF) taken in
      let reached = ltb-true (s.vertex h.other) INF parts.1 in
      let within = (half_other g is v h half).0 in
      let weight = half_weight g is v h half in
      let walk = good.walks h.other within reached in
      let low = good.low h.other within reached in
      let costs : cost h.weight ≤ most = rw weight (low_cost half.place half.edge half.within half.at) in
      let sum : s.vertex h.other + cost h.weight ≤ heights s = omega arith in
      record {
        capped = let a = heights-low s in let b = all_low in omega arith;
        walks = λ _. (walk.0 ++ half.edge ∷ [], IsWalk-push g.edges g.directed source h.other v walk.0 half.edge walk.1 (half_in_edges g is v h half) (half_leads g is v h half parts.0), cost_of-push cost walk.0 half.edge ∙ (let same = walk.2 in let costs_same = ap cost weight in omega arith));
        low = λ _. sum;
      })
      (halves_of g v) (halves_are g is v)

  may_be : (s : GraphState) (v : ℕ) → v < size g → Reaches s → MayBe s v (new_number g p s v)
  may_be s v within good =
      new_number-holds takes_reached (λ x w. x + cost w) g is p relaxes (MayBe s v) s v
      (record { capped = good.capped v within; walks = good.walks v within; low = λ reached. let low = good.low v within reached in omega arith })
      (offers_may_be s v good)

  pub fallen : (s : GraphState) (v : ℕ) → new_number g p s v ≤ s.vertex v
  fallen s v = new_number-own takes_reached (λ x w. x + cost w) g is p relaxes s v

  heights-grow : (s : GraphState) (v u : ℕ) → height most (s.vertex u) ≤ height most ((after_update g p s v).vertex u)
  heights-grow s v u =
      with_number-holds (λ u y. height most (s.vertex u) ≤ height most y) s.vertex v (new_number g p s v) u
      (λ same. height-fallen most (s.vertex v) (new_number g p s v) (fallen s v))
      (λ other. omega arith)

  pub new_low : (s : GraphState) (v : ℕ) → v < size g → Reaches s → new_number g p s v < INF → new_number g p s v + most ≤ heights (after_update g p s v)
  new_low s v within good reached = ⊎_elim
      (λ (was : s.vertex v < INF).
      let low = good.low v within was in
      let falls = fallen s v in
      let more = sum_below-mono (λ u. height most (s.vertex u)) (λ u. height most ((after_update g p s v).vertex u)) (size g) (λ u u_within. heights-grow s v u) in
      omega arith)
      (λ (was_not : INF ≤ s.vertex v).
      let low = (may_be s v within good).low reached in
      let now : height most ((after_update g p s v).vertex v) ≡ most = ap (height most) (with_number-same s.vertex v (new_number g p s v)) ∙ height-reached most (new_number g p s v) reached in
      let before : height most (s.vertex v) ≡ 0 = rw (le-ltb (s.vertex v) INF was_not) refl in
      let more = sum_below-less (λ u. height most (s.vertex u)) (λ u. height most ((after_update g p s v).vertex u)) most v (size g) within (λ u u_within. heights-grow s v u) (omega arith) in
      omega arith)
      (cases_lt (s.vertex v) INF)

  pub goes : (s : GraphState) (v : ℕ) → v < size g → Reaches s → Reaches (after_update g p s v)
  goes s v within good =
      let new = new_number g p s v in
      let may = may_be s v within good in
      record {
        at_source = with_number-holds (λ u y. y ≡ 0) s.vertex v new source
            (λ same. let falls = fallen s v in let here = ap s.vertex same in let zero_is = good.at_source in omega arith)
            (λ other. good.at_source);
        capped = λ u u_within. with_number-holds (λ u y. y ≤ INF) s.vertex v new u (λ same. may.capped) (λ other. good.capped u u_within);
        walks = λ u u_within. with_number-holds (λ u y. y < INF → (path : List DataEdge) × Walk g source u path × (cost_of cost path ≡ y)) s.vertex v new u (λ same. may.walks) (λ other. good.walks u u_within);
        low = λ u u_within. with_number-holds (λ u y. y < INF → y + most ≤ heights (after_update g p s v)) s.vertex v new u
            (λ same. new_low s v within good)
            (λ other reached.
            let low = good.low u u_within reached in
            let more = sum_below-mono (λ u. height most (s.vertex u)) (λ u. height most ((after_update g p s v).vertex u)) (size g) (λ u u_within. heights-grow s v u) in
            omega arith);
      }

  -- an edge leads no further than it costs
  edge_low : (s : GraphState) (k : ℕ) (e : DataEdge) (a b : ℕ) → k < length g.edges → slice_index_or g.edges k e ≡ e → Leads g.directed e a b → IsRelaxed takes_reached (λ x w. x + cost w) g is p relaxes b s → s.vertex a < INF → s.vertex b ≤ s.vertex a + cost e.weight
  edge_low s k e a b within at leads relaxed =
      has_half_from g is k e a b (λ u w. s.vertex u < INF → s.vertex b ≤ s.vertex u + cost w) within at leads
      (each-weaker (λ h. takes_reached h.into (s.vertex h.other) ≡ true → s.vertex b ≤ s.vertex h.other + cost h.weight) (λ h. h.into ≡ true → s.vertex h.other < INF → s.vertex b ≤ s.vertex h.other + cost h.weight)
      (λ h low into reached. low (and_from h.into (nat_lt (s.vertex h.other) INF) into (lt-ltb (s.vertex h.other) INF reached)))
      (halves_of g b) relaxed)

  -- so a walk leads no further than it costs, and stays among what was reached
  walk_low : (s : GraphState) → Reaches s → ((w : ℕ) → w < size g → IsRelaxed takes_reached (λ x w. x + cost w) g is p relaxes w s) → (path : List DataEdge) (b c : ℕ) → b < size g → s.vertex b < INF → Walk g b c path → (s.vertex c < INF) × (s.vertex c ≤ s.vertex b + cost_of cost path)
  walk_low s good relaxed [] b c within reached walk = let same = ap s.vertex walk in (omega arith, omega arith)
  walk_low s good relaxed (e ∷ path) b c within reached walk =
      let d = walk.0 in
      let k = walk.1.0 in
      let edge = edge_is g is k e walk.1.1 walk.1.2 in
      let d_within : d < size g = ⊎_elim
      (λ (w : (e.from ≡ b) × (e.to ≡ d)). subst (λ x. x < size g) w.1 edge.to)
      (λ (w : (g.directed ≡ false) × (e.from ≡ d) × (e.to ≡ b)). subst (λ x. x < size g) w.1 edge.from)
      walk.2 in
      let step = edge_low s k e b d walk.1.1 walk.1.2 walk.2 (relaxed d d_within) reached in
      let low = good.low b within reached in
      let costs = low_cost k e walk.1.1 walk.1.2 in
      let bound = heights-low s in
      let small = all_low in
      let d_reached : s.vertex d < INF = omega arith in
      let rest = walk_low s good relaxed path d c d_within d_reached walk.3 in
      (rest.0, omega arith)

  -- once no task is left, each number is the least cost of a walk, or INF
  pub reach : (order : List Entry) → IsValidOrder g p order → IsFinished g p order → (v : ℕ) → v < size g → IsLeastOrInf g (cost_of cost) source v ((replay g p order).vertex v)
  reach order valid finished v within =
      let s = replay g p order in
      let good = always_good g is p Reaches (λ w s. IsRelaxed takes_reached (λ x w. x + cost w) g is p relaxes w s) goes
      (λ s v within good. relaxes-settles takes_reached (λ x w. x + cost w) g is p relaxes s v)
      (λ s v w v_within w_within good other asleep settled. relaxes-stays takes_reached (λ x w. x + cost w) g is p relaxes s v w other asleep settled)
      order valid starts_well in
      let relaxed = at_rest g is p Reaches (λ w s. IsRelaxed takes_reached (λ x w. x + cost w) g is p relaxes w s) goes
      (λ s v within good. relaxes-settles takes_reached (λ x w. x + cost w) g is p relaxes s v)
      (λ s v w v_within w_within good other asleep settled. relaxes-stays takes_reached (λ x w. x + cost w) g is p relaxes s v w other asleep settled)
      order valid finished starts_well in
      let at_source = good.at_source in
      let source_reached : s.vertex source < INF = omega arith in ⊎_elim
      (λ (reached : s.vertex v < INF). inl (
        reached,
        record {
          reached = good.walks v within reached;
          least = λ path walk. let low = walk_low s good relaxed path source v source_within source_reached walk in omega arith;
        },
      ))
      (λ (far : INF ≤ s.vertex v). inr (let cap = good.capped v within in omega arith, λ path walk. let low = walk_low s good relaxed path source v source_within source_reached walk in omega arith))
      (cases_lt (s.vertex v) INF)

  -- an update that changes a number makes it one of a vertex that was reached
  pub new_within : (s : GraphState) (v : ℕ) → v < size g → Reaches s → new_number g p s v < s.vertex v → new_number g p s v ≤ (size g - 1) * most
  new_within s v within good falls =
      let cap = good.capped v within in
      let reached : new_number g p s v < INF = omega arith in
      let low = new_low s v within good reached in
      let bound = heights-low (after_update g p s v) in
      let more : size g ≡ suc (size g - 1) = omega arith in
      let product : size g * most ≡ (size g - 1) * most + most = ap (λ n. n * most) more ∙ suc-mul (size g - 1) most in
      omega arith
