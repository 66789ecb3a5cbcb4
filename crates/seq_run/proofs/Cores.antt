-- Core numbers: no number is below a core that its vertex is in, and each falls until enough neighbours reach it.
use Rattle.std.proofs.Common.{◌≡◌, ◌≢◌, ℕ, ◌+◌, ◌<◌, ◌≤◌, ◌&&◌, min, nat_le, if◌then◌else◌, Bool, true, false, List, [], ◌∷◌, map, length, All, refl, sym, subst, ap, arith, le_trans, le-leb, leb-true}
use Rattle.std.proofs.Math.Nat.{min-le_left, min-le_right}
use Rattle.std.specs.List.{list_any}
use Rattle.std.proofs.lemmas.List.Elements.{All-weaker}
use Rattle.gl_base.specs.declared.entries.Entry.{Entry}
use Rattle.graph_core.specs.DataGraph.{DataGraph, size, IsEdge, IsDataGraph}
use Rattle.graph_core.specs.Colourings.{joins}
use Rattle.graph_core.specs.Halves.{DataHalf, halves_from, halves_of}
use Rattle.graph_core.proofs.HalvesLaws.{each-weaker, each-any, IsHalfAt, halves_are, half_other}
use Rattle.update_api.specs.Supported.{support}
use Rattle.update_api.specs.Updates.{update_of_cores}
use Rattle.update_api.proofs.SupportedLaws.{greatest-le, greatest-supported, greatest-above}
use Rattle.seq_run.specs.States.{GraphState, start_state, near_of, with_number, new_number, after_update, wakes}
use Rattle.seq_run.specs.Orders.{replay, IsValidOrder, IsFinished}
use Rattle.seq_run.specs.CoreNumbers.{IsCore, IsCoreNumber}
use Rattle.seq_run.proofs.Sums.{count_below-le}
use Rattle.seq_run.proofs.Waking.{with_number-same, with_number-other, with_number-holds, unseen_around}
use Rattle.seq_run.proofs.AtRest.{always_good, at_rest}
use Rattle.seq_run.proofs.Ties.{ties, ties-mono, ties-le-length, joined_below, neighbours-count, joined_below-le-ties, ties-le-joined_below}

support-ties : (s : GraphState) (k : ℕ) (halves : List DataHalf) → support k (map (near_of s) halves) ≡ ties (λ u. nat_le k (s.vertex u)) halves
support-ties s k [] = refl
support-ties s k (h ∷ halves) = ap (λ (n : ℕ). (if nat_le k (s.vertex h.other) then 1 else 0) + n) (support-ties s k halves)

length-map : (s : GraphState) (halves : List DataHalf) → length (map (near_of s) halves) ≡ length halves
length-map s [] = refl
length-map s (h ∷ halves) = let rest = length-map s halves in omega arith

module _ (g : DataGraph) (is : IsDataGraph g) where
  pub edges_apart : All (λ e. e.from ≢ e.to) g.edges
  edges_apart = All-weaker (IsEdge (size g) g.directed) (λ e. e.from ≢ e.to) (λ e edge. edge.apart) g.edges is.edges

  -- where edges have no direction halves are no more than neighbours
  pub halves_low : g.directed ≡ false → (members : ℕ → Bool) (v : ℕ) → ties members (halves_of g v) ≤ joined_below members v g.edges (size g)
  halves_low undirected members v =
      let low = ties-le-joined_below members v (size g) 0 g.edges (subst (λ d. All (IsEdge (size g) d) g.edges) undirected is.edges) is.edges_ascending in
      subst (λ d. ties members (halves_from d v 0 g.edges) ≤ joined_below members v g.edges (size g)) (sym undirected) low

  -- an update gives no more than the own number, and no more than there are halves
  pub new_core-own : (s : GraphState) (v : ℕ) → new_number g update_of_cores s v ≤ s.vertex v
  new_core-own s v =
      let nears = map (near_of s) (halves_of g v) in
      le_trans (greatest-le (min (s.vertex v) (length nears)) nears) (min-le_left (s.vertex v) (length nears))

  pub new_core-degree : (s : GraphState) (v : ℕ) → new_number g update_of_cores s v ≤ length (halves_of g v)
  new_core-degree s v =
      let nears = map (near_of s) (halves_of g v) in
      let same = length-map s (halves_of g v) in
      let low = le_trans (greatest-le (min (s.vertex v) (length nears)) nears) (min-le_right (s.vertex v) (length nears)) in omega arith

  -- no number is below a core that its vertex is in
  abbrev pub IsAboveCores : GraphState → Type 0
  IsAboveCores s = (members : ℕ → Bool) (k : ℕ) → IsCore g members k → (v : ℕ) → v < size g → members v ≡ true → k ≤ s.vertex v

  start_above : IsAboveCores (start_state g update_of_cores)
  start_above members k core v within member =
      let enough = core v within member in
      let count = neighbours-count g members v (size g) in
      let few = count_below-le (λ u. list_any (joins v u) g.edges && members u) (size g) in
      let all = is.few in omega arith

  goes : (s : GraphState) (v : ℕ) → v < size g → IsAboveCores s → IsAboveCores (after_update g update_of_cores s v)
  goes s v within good members k core u u_within member =
      let nears = map (near_of s) (halves_of g v) in
      with_number-holds (λ u y. members u ≡ true → k ≤ y) s.vertex v (new_number g update_of_cores s v) u
      (λ same v_member.
      let own = good members k core v within v_member in
      let enough = core v within v_member in
      let count = neighbours-count g members v (size g) in
      let tied = joined_below-le-ties members v (size g) g.directed 0 g.edges edges_apart in
      let reach = ties-mono members (λ u. nat_le k (s.vertex u)) (halves_of g v)
      (each-weaker (IsHalfAt g is v) (λ h. members h.other ≡ true → nat_le k (s.vertex h.other) ≡ true)
      (λ h half h_member. le-leb k (s.vertex h.other) (good members k core h.other (half_other g is v h half).0 h_member))
      (halves_of g v) (halves_are g is v)) in
      let supported = support-ties s k (halves_of g v) in
      let halves = ties-le-length (λ u. nat_le k (s.vertex u)) (halves_of g v) in
      let same_length = length-map s (halves_of g v) in
      greatest-above k (min (s.vertex v) (length nears)) nears (omega arith) (omega arith))
      (λ other u_member. good members k core u u_within u_member)
      member

  -- enough neighbours reach the number of w
  abbrev IsSupported : ℕ → GraphState → Type 0
  IsSupported w s = s.vertex w ≤ ties (λ u. nat_le (s.vertex w) (s.vertex u)) (halves_of g w)

  settles : (s : GraphState) (v : ℕ) → IsSupported v (after_update g update_of_cores s v)
  settles s v =
      let new = new_number g update_of_cores s v in
      let x = with_number s.vertex v new in
      let nears = map (near_of s) (halves_of g v) in
      let enough = greatest-supported (min (s.vertex v) (length nears)) nears in
      let supported = support-ties s new (halves_of g v) in
      let same : x v ≡ new = with_number-same s.vertex v new in
      let still = ties-mono (λ u. nat_le new (s.vertex u)) (λ u. nat_le (x v) (x u)) (halves_of g v)
      (each-weaker (IsHalfAt g is v) (λ h. nat_le new (s.vertex h.other) ≡ true → nat_le (x v) (x h.other) ≡ true)
      (λ h half reached.
      let other = with_number-other s.vertex v new h.other (half_other g is v h half).1 in
      let above = leb-true new (s.vertex h.other) reached in
      le-leb (x v) (x h.other) (omega arith))
      (halves_of g v) (halves_are g is v)) in
      omega arith

  stays : (s : GraphState) (v w : ℕ) → w ≢ v → wakes g update_of_cores s v w ≡ false → IsSupported w s → IsSupported w (after_update g update_of_cores s v)
  stays s v w away asleep settled =
      let new = new_number g update_of_cores s v in
      let x = with_number s.vertex v new in
      let same : x w ≡ s.vertex w = with_number-other s.vertex v new w away in
      let still = ties-mono (λ u. nat_le (s.vertex w) (s.vertex u)) (λ u. nat_le (x w) (x u)) (halves_of g w)
      (each-weaker (λ h. h.other ≡ v → new ≡ s.vertex v) (λ h. nat_le (s.vertex w) (s.vertex h.other) ≡ true → nat_le (x w) (x h.other) ≡ true)
      (λ h unseen reached.
      let above = leb-true (s.vertex w) (s.vertex h.other) reached in
      let kept : x h.other ≡ s.vertex h.other = with_number-holds (λ u y. (u ≡ v → new ≡ s.vertex v) → y ≡ s.vertex u) s.vertex v new h.other
      (λ here seen. seen refl) (λ other seen. refl) unseen in
      le-leb (x w) (x h.other) (omega arith))
      (halves_of g w) (unseen_around g is update_of_cores (λ old new. refl) s v w asleep)) in
      omega arith

  pub cores_at_rest : g.directed ≡ false → (order : List Entry) → IsValidOrder g update_of_cores order → IsFinished g update_of_cores order → (v : ℕ) → v < size g → IsCoreNumber g v ((replay g update_of_cores order).vertex v)
  cores_at_rest undirected order valid finished v within =
      let s = replay g update_of_cores order in
      let settles_all = λ (s : GraphState) (v : ℕ) (within : v < size g) (good : IsAboveCores s). settles s v in
      let stays_all = λ (s : GraphState) (v w : ℕ) (v_within : v < size g) (w_within : w < size g) (good : IsAboveCores s) (other : w ≢ v) (asleep : wakes g update_of_cores s v w ≡ false) (settled : IsSupported w s). stays s v w other asleep settled in
      let good = always_good g is update_of_cores IsAboveCores IsSupported goes settles_all stays_all order valid start_above in
      let settled = at_rest g is update_of_cores IsAboveCores IsSupported goes settles_all stays_all order valid finished start_above in
      let members : ℕ → Bool = λ u. nat_le (s.vertex v) (s.vertex u) in
      record {
        within = (
          members,
          le-leb (s.vertex v) (s.vertex v) (omega arith),
          λ u u_within member.
              let above = leb-true (s.vertex v) (s.vertex u) member in
              let enough = settled u u_within in
              let reach = ties-mono (λ t. nat_le (s.vertex u) (s.vertex t)) members (halves_of g u)
              (each-any (λ h. nat_le (s.vertex u) (s.vertex h.other) ≡ true → members h.other ≡ true)
              (λ h reached. let far = leb-true (s.vertex u) (s.vertex h.other) reached in le-leb (s.vertex v) (s.vertex h.other) (omega arith))
              (halves_of g u)) in
              let count = neighbours-count g members u (size g) in
              let tied = halves_low undirected members u in
              omega arith,
        );
        greatest = λ members j member core. good members j core v within member;
      }
