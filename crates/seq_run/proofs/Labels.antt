-- Component labels: numbers that are identifiers of joined vertices, and fall as far as they can.
use Rattle.std.proofs.Common.{◌≡◌, ◌≢◌, ℕ, ◌<◌, ◌≤◌, Bool, true, false, List, [], ◌∷◌, ◌++◌, map, filter, slice_index, refl, sym, subst, ap, ⊎_elim, arith}
use Rattle.gl_base.specs.declared.entries.Entry.{Entry}
use Rattle.graph_core.specs.DataGraph.{DataEdge, DataGraph, size, IsDataGraph}
use Rattle.graph_core.specs.Walks.{IsWalk}
use Rattle.graph_core.specs.Components.{Joined, IsComponentLabel}
use Rattle.graph_core.specs.Halves.{halves_of}
use Rattle.graph_core.proofs.HalvesLaws.{each-weaker, IsWalk-push, IsHalfAt, halves_are, edge_is, half_other, half_in_edges, half_joins, has_half_between}
use Rattle.update_api.specs.Near.{Near}
use Rattle.update_api.specs.Updates.{least, update_of_components}
use Rattle.seq_run.specs.States.{GraphState, start_state, new_number, after_update, wakes}
use Rattle.seq_run.specs.Orders.{replay, IsValidOrder, IsFinished}
use Rattle.seq_run.proofs.Waking.{with_number-holds, unseen_around}
use Rattle.seq_run.proofs.AtRest.{always_good, at_rest}
use Rattle.seq_run.proofs.Relaxing.{Relaxes, new_number-own, new_number-holds, IsRelaxed, relaxes-settles, relaxes-stays}

-- every neighbour's number is offered as it is
abbrev pub takes_all : Bool → ℕ → Bool
takes_all into number = true

abbrev pub offer_same : ℕ → ℕ → ℕ
offer_same number weight = number

filter_all : (nears : List Near) → filter (λ near. true) nears ≡ nears
filter_all [] = refl
filter_all (near ∷ nears) = ap (λ rest. near ∷ rest) (filter_all nears)

module _ (g : DataGraph) (is : IsDataGraph g) where
  pub components_relax : Relaxes takes_all offer_same g update_of_components
  components_relax =
      record {
        number = λ own nears. ap (λ (kept : List Near). least own (map (λ near. near.number) kept)) (sym (filter_all nears));
        unseen = λ s v w asleep.
            each-weaker (λ h. h.other ≡ v → new_number g update_of_components s v ≡ s.vertex v) (λ h. h.other ≡ v → (x : ℕ) → takes_all h.into x ≡ true → new_number g update_of_components s v ≡ s.vertex v)
            (λ h unseen other x taken. unseen other)
            (halves_of g w) (unseen_around g is update_of_components (λ old new. refl) s v w asleep);
      }

  -- y is the identifier of a vertex that is joined to v
  abbrev pub IsJoined : ℕ → ℕ → Type 0
  IsJoined v y = (u : ℕ) × (u < size g) × Joined g u v × (slice_index g.ids u ≡ y)

  pub record Labels (s : GraphState) : Type 0 where
    pub joined : (v : ℕ) → v < size g → IsJoined v (s.vertex v)
    pub low : (v : ℕ) → v < size g → s.vertex v ≤ slice_index g.ids v

  pub labels_start : Labels (start_state g update_of_components)
  labels_start = record { joined = λ v within. (v, within, ([], refl), refl); low = λ v within. omega arith }

  pub new_joined : (s : GraphState) (v : ℕ) → v < size g → Labels s → IsJoined v (new_number g update_of_components s v)
  new_joined s v within good =
      new_number-holds takes_all offer_same g is update_of_components components_relax (IsJoined v) s v (good.joined v within)
      (each-weaker (IsHalfAt g is v) (λ h. takes_all h.into (s.vertex h.other) ≡ true → IsJoined v (s.vertex h.other))
      (λ h half taken.
      let there = good.joined h.other (half_other g is v h half).0 in
      (there.0, there.1, (there.2.0 ++ half.edge ∷ [], IsWalk-push g.edges false there.0 h.other v there.2.0 half.edge there.2.1 (half_in_edges g is v h half) (half_joins g is v h half)), there.3))
      (halves_of g v) (halves_are g is v))

  pub labels_goes : (s : GraphState) (v : ℕ) → v < size g → Labels s → Labels (after_update g update_of_components s v)
  labels_goes s v within good =
      let new = new_number g update_of_components s v in
      record {
        joined = λ u u_within. with_number-holds IsJoined s.vertex v new u (λ same. new_joined s v within good) (λ other. good.joined u u_within);
        low = λ u u_within. with_number-holds (λ u y. y ≤ slice_index g.ids u) s.vertex v new u
            (λ same. let falls = new_number-own takes_all offer_same g is update_of_components components_relax s v in let low = good.low v within in omega arith)
            (λ other. good.low u u_within);
      }

  abbrev IsSettled : ℕ → GraphState → Type 0
  IsSettled w s = IsRelaxed takes_all offer_same g is update_of_components components_relax w s

  -- along a walk numbers don't rise
  walk_low : (s : GraphState) → ((w : ℕ) → w < size g → IsSettled w s) → (path : List DataEdge) (b c : ℕ) → IsWalk g.edges false b c path → s.vertex c ≤ s.vertex b
  walk_low s settled [] b c walk = let same = ap s.vertex walk in omega arith
  walk_low s settled (e ∷ path) b c walk =
      let d = walk.0 in
      let k = walk.1.0 in
      let edge = edge_is g is k e walk.1.1 walk.1.2 in
      let d_within : d < size g = ⊎_elim
      (λ (w : (e.from ≡ b) × (e.to ≡ d)). subst (λ x. x < size g) w.1 edge.to)
      (λ (w : (false ≡ false) × (e.from ≡ d) × (e.to ≡ b)). subst (λ x. x < size g) w.1 edge.from)
      walk.2 in
      let step : s.vertex d ≤ s.vertex b =
      has_half_between g is k e b d (λ u. s.vertex d ≤ s.vertex u) walk.1.1 walk.1.2 walk.2
      (each-weaker (λ h. takes_all h.into (s.vertex h.other) ≡ true → s.vertex d ≤ s.vertex h.other) (λ h. s.vertex d ≤ s.vertex h.other)
      (λ h low. low refl) (halves_of g d) (settled d d_within)) in
      let rest = walk_low s settled path d c walk.3 in omega arith

  pub components_at_rest : (order : List Entry) → IsValidOrder g update_of_components order → IsFinished g update_of_components order → (v : ℕ) → v < size g → IsComponentLabel g v ((replay g update_of_components order).vertex v)
  components_at_rest order valid finished v within =
      let s = replay g update_of_components order in
      let settles = λ (s : GraphState) (v : ℕ) (within : v < size g) (good : Labels s). relaxes-settles takes_all offer_same g is update_of_components components_relax s v in
      let stays = λ (s : GraphState) (v w : ℕ) (v_within : v < size g) (w_within : w < size g) (good : Labels s) (other : w ≢ v) (asleep : wakes g update_of_components s v w ≡ false) (settled : IsSettled w s). relaxes-stays takes_all offer_same g is update_of_components components_relax s v w other asleep settled in
      let good = always_good g is update_of_components Labels IsSettled labels_goes settles stays order valid labels_start in
      let settled = at_rest g is update_of_components Labels IsSettled labels_goes settles stays order valid finished labels_start in
      record {
        joined = good.joined v within;
        least = λ u u_within joined. let low = walk_low s settled joined.0 u v joined.1 in let own = good.low u u_within in omega arith;
      }
