-- Matched vertices stay matched, and once no task is left no edge has two unmatched ends.
use Rattle.std.proofs.Common.{◌≡◌, ◌≢◌, ◌⊎◌, ℕ, ◌<◌, false, List, length, slice_index, slice_index_or, refl, sym, ◌∙◌, ap, subst, inl, inr, ⊎_elim, arith}
use Rattle.std.proofs.lemmas.Bool.{cases_eq}
use Rattle.std.proofs.lemmas.List.Folds.{list_any_at}
use Rattle.std.proofs.lemmas.Option.{get_or_from_slice_get, slice_get_within}
use Rattle.gl_base.specs.declared.entries.Entry.{Entry}
use Rattle.gl_base.specs.declared.limits.TheConstants.{INF}
use Rattle.graph_core.specs.DataGraph.{DataEdge, DataGraph, size, IsDataGraph}
use Rattle.graph_core.specs.Colourings.{joins}
use Rattle.graph_core.proofs.HalvesLaws.{edge_is}
use Rattle.seq_run.specs.FirstColours.{AreNeighbours}
use Rattle.seq_run.specs.States.{GraphState}
use Rattle.seq_run.specs.TightEdges.{IsMark}
use Rattle.seq_run.proofs.Neighbours.{joins-ends}
use Rattle.full_scope.specs.FullStates.{full_start, after_full, full_wakes}
use Rattle.full_scope.specs.FullOrders.{full_replay, IsFullyFinished, IsFullyValid}
use Rattle.full_scope.proofs.FullAtRest.{always_good, at_rest}
use Rattle.prog_match.specs.MaximalMatchings.{HasMate, IsMaximalMatching}
use Rattle.prog_match.specs.Pairs.{update_of_pairs}
use Rattle.prog_match.proofs.Mates.{Joins, joins_cases, neighbours_back, id_low, id_one, IsIdle, Matches, idle_or_matches}

module _ (g : DataGraph) (is : IsDataGraph g) where
  -- v and u have each other's identifiers
  abbrev AreMates : GraphState → ℕ → ℕ → Type 0
  AreMates s v u = HasMate g s.vertex v u × HasMate g s.vertex u v

  -- some vertices are matched in pairs, and the edges between them are marked
  pub record IsMatching (s : GraphState) : Type 0 where
    pub mates : (v : ℕ) → v < size g → (s.vertex v ≡ INF) ⊎ ((u : ℕ) × (u < size g) × AreNeighbours g v u × HasMate g s.vertex v u)
    pub both_ways : (v u : ℕ) → v < size g → u < size g → HasMate g s.vertex v u → HasMate g s.vertex u v
    pub edges : (k : ℕ) (e : DataEdge) → k < length g.edges → slice_index_or g.edges k e ≡ e → IsMark (s.edge k) (AreMates s e.from e.to)

  -- who is matched is not unmatched
  mate_low : (number : ℕ → ℕ) (v u : ℕ) → u < size g → HasMate g number v u → number v ≢ INF
  mate_low number v u within has none = let low = id_low g is u within in omega arith

  start_matching : IsMatching (full_start g update_of_pairs)
  start_matching =
      record {
        mates = λ v within. inl refl;
        both_ways = λ v u v_within u_within has. absurd (mate_low (λ w. INF) v u u_within has refl);
        edges = λ k e within at. inr (refl, λ both. mate_low (λ w. INF) e.from e.to (edge_is g is k e within at).to both.0 refl);
      }

  -- ---- one update that matches two

  module _ (s : GraphState) (good : IsMatching s) (v u : ℕ) (v_within : v < size g) (two : Matches g is s v u) where
    abbrev new : GraphState
    new = after_full g update_of_pairs s v

    -- who was matched keeps its mate
    mate_kept : (x y : ℕ) → y < size g → HasMate g s.vertex x y → HasMate g new.vertex x y
    mate_kept x y within has =
        two.same_vertex x
        (λ is_v. mate_low s.vertex x y within has (ap s.vertex is_v ∙ two.own))
        (λ is_u. mate_low s.vertex x y within has (ap s.vertex is_u ∙ two.other))
        ∙ has

    -- who has a mate then had it before, or is one of the two
    mate_from : (x y : ℕ) → y < size g → HasMate g new.vertex x y → (((x ≡ v) × (y ≡ u)) ⊎ ((x ≡ u) × (y ≡ v))) ⊎ (HasMate g s.vertex x y)
    mate_from x y within has = ⊎_elim
        (λ (is_v : x ≡ v). inl (inl (is_v, id_one g is y u within two.within (sym has ∙ ap new.vertex is_v ∙ two.new_own))))
        (λ (not_v : x ≡ v → ⊥). ⊎_elim
        (λ (is_u : x ≡ u). inl (inr (is_u, id_one g is y v within v_within (sym has ∙ ap new.vertex is_u ∙ two.new_other))))
        (λ (not_u : x ≡ u → ⊥). inr (sym (two.same_vertex x not_v not_u) ∙ has))
        (cases_eq x u))
        (cases_eq x v)

    -- the two have each other
    first_has : (x y : ℕ) → x ≡ v → y ≡ u → HasMate g new.vertex x y
    first_has x y is_v is_u = ap new.vertex is_v ∙ two.new_own ∙ ap (λ (w : ℕ). slice_index g.ids w) (sym is_u)

    second_has : (x y : ℕ) → x ≡ u → y ≡ v → HasMate g new.vertex x y
    second_has x y is_u is_v = ap new.vertex is_u ∙ two.new_other ∙ ap (λ (w : ℕ). slice_index g.ids w) (sym is_v)

    edge_marked : (k : ℕ) (e : DataEdge) → k < length g.edges → slice_index_or g.edges k e ≡ e → IsMark (new.edge k) (AreMates new e.from e.to)
    edge_marked k e within at =
        let ends = edge_is g is k e within at in ⊎_elim
        (λ (joined : Joins e v u).
        let mates : AreMates new e.from e.to = ⊎_elim
        (λ (on : (e.from ≡ v) × (e.to ≡ u)). (first_has e.from e.to on.0 on.1, second_has e.to e.from on.1 on.0))
        (λ (back : (e.from ≡ u) × (e.to ≡ v)). (second_has e.from e.to back.0 back.1, first_has e.to e.from back.1 back.0))
        joined in
        inl (two.new_edge k e within at joined, mates))
        (λ (apart : Joins e v u → ⊥).
        let same = two.same_edge k e within at apart in ⊎_elim
        (λ (marked : (s.edge k ≡ 1) × AreMates s e.from e.to).
        inl (same ∙ marked.0, (mate_kept e.from e.to ends.to marked.1.0, mate_kept e.to e.from ends.from marked.1.1)))
        (λ (unmarked : (s.edge k ≡ 0) × (AreMates s e.from e.to → ⊥)).
        inr (
          same ∙ unmarked.0,
          λ both. ⊎_elim
              (λ (pair : ((e.from ≡ v) × (e.to ≡ u)) ⊎ ((e.from ≡ u) × (e.to ≡ v))). apart pair)
              (λ (was : HasMate g s.vertex e.from e.to). unmarked.1 (was, good.both_ways e.from e.to ends.from ends.to was))
              (mate_from e.from e.to ends.to both.0),
        ))
        (good.edges k e within at))
        (joins_cases e v u)

    matched_goes : IsMatching new
    matched_goes =
        record {
          mates = λ x within. ⊎_elim
              (λ (is_v : x ≡ v). inr (u, two.within, subst (λ w. AreNeighbours g w u) (sym is_v) two.near, first_has x u is_v refl))
              (λ (not_v : x ≡ v → ⊥). ⊎_elim
              (λ (is_u : x ≡ u). inr (v, v_within, subst (λ w. AreNeighbours g w v) (sym is_u) (neighbours_back g v u two.near), second_has x v is_u refl))
              (λ (not_u : x ≡ u → ⊥). ⊎_elim
              (λ (none : s.vertex x ≡ INF). inl (two.same_vertex x not_v not_u ∙ none))
              (λ (mate : (y : ℕ) × (y < size g) × AreNeighbours g x y × HasMate g s.vertex x y). inr (mate.0, mate.1, mate.2, mate_kept x mate.0 mate.1 mate.3))
              (good.mates x within))
              (cases_eq x u))
              (cases_eq x v);
          both_ways = λ x y x_within y_within has. ⊎_elim
              (λ (pair : ((x ≡ v) × (y ≡ u)) ⊎ ((x ≡ u) × (y ≡ v))). ⊎_elim
              (λ (on : (x ≡ v) × (y ≡ u)). second_has y x on.1 on.0)
              (λ (back : (x ≡ u) × (y ≡ v)). first_has y x back.1 back.0)
              pair)
              (λ (was : HasMate g s.vertex x y). mate_kept y x x_within (good.both_ways x y x_within y_within was))
              (mate_from x y y_within has);
          edges = edge_marked;
        }

    -- no vertex loses its mate
    matched_stays : (x : ℕ) → x < size g → s.vertex x ≢ INF → new.vertex x ≢ INF
    matched_stays x within matched = ⊎_elim
        (λ (none : s.vertex x ≡ INF). absurd (matched none))
        (λ (mate : (y : ℕ) × (y < size g) × AreNeighbours g x y × HasMate g s.vertex x y). mate_low new.vertex x mate.0 mate.1 (mate_kept x mate.0 mate.1 mate.3))
        (good.mates x within)

    matched_own : new.vertex v ≢ INF
    matched_own = mate_low new.vertex v u two.within two.new_own

  -- ---- every update

  goes : (s : GraphState) (v : ℕ) → v < size g → IsMatching s → IsMatching (after_full g update_of_pairs s v)
  goes s v within good = ⊎_elim
      (λ (idle : IsIdle g is s v). subst IsMatching (sym idle.same) good)
      (λ (some : (u : ℕ) × Matches g is s v u). matched_goes s good v some.0 within some.1)
      (idle_or_matches g is s v within)

  stays_matched : (s : GraphState) (v : ℕ) → v < size g → IsMatching s → (x : ℕ) → x < size g → s.vertex x ≢ INF → (after_full g update_of_pairs s v).vertex x ≢ INF
  stays_matched s v within good x x_within matched = ⊎_elim
      (λ (idle : IsIdle g is s v). subst (λ (t : GraphState). t.vertex x ≢ INF) (sym idle.same) matched)
      (λ (some : (u : ℕ) × Matches g is s v u). matched_stays s good v some.0 within some.1 x x_within matched)
      (idle_or_matches g is s v within)

  -- w is matched, or each of its neighbours is
  abbrev IsSettled : ℕ → GraphState → Type 0
  IsSettled w s = (s.vertex w ≢ INF) ⊎ ((u : ℕ) → u < size g → AreNeighbours g w u → s.vertex u ≢ INF)

  settles : (s : GraphState) (v : ℕ) → v < size g → IsMatching s → IsSettled v (after_full g update_of_pairs s v)
  settles s v within good = ⊎_elim
      (λ (idle : IsIdle g is s v). subst (IsSettled v) (sym idle.same) idle.reason)
      (λ (some : (u : ℕ) × Matches g is s v u). inl (matched_own s good v some.0 within some.1))
      (idle_or_matches g is s v within)

  stays : (s : GraphState) (v w : ℕ) → v < size g → w < size g → IsMatching s → w ≢ v → full_wakes g update_of_pairs s v w ≡ false → IsSettled w s → IsSettled w (after_full g update_of_pairs s v)
  stays s v w v_within w_within good other asleep settled = ⊎_elim
      (λ (matched : s.vertex w ≢ INF). inl (stays_matched s v v_within good w w_within matched))
      (λ (around : (u : ℕ) → u < size g → AreNeighbours g w u → s.vertex u ≢ INF). inr (λ u within near. stays_matched s v v_within good u within (around u within near)))
      settled

  pub pairs_at_rest : (order : List Entry) → IsFullyValid g update_of_pairs order → IsFullyFinished g update_of_pairs order → IsMaximalMatching g (full_replay g update_of_pairs order)
  pairs_at_rest order valid finished =
      let s = full_replay g update_of_pairs order in
      let good = always_good g is update_of_pairs IsMatching IsSettled goes settles stays order valid start_matching in
      let settled = at_rest g is update_of_pairs IsMatching IsSettled goes settles stays order valid finished start_matching in
      record {
        mates = good.mates;
        both_ways = λ v u v_within u_within. (good.both_ways v u v_within u_within, good.both_ways u v u_within v_within);
        edges = λ k e there. good.edges k e (slice_get_within g.edges k e there) (get_or_from_slice_get g.edges k e e there);
        maximal = λ k e there from to.
            let within = slice_get_within g.edges k e there in
            let at = get_or_from_slice_get g.edges k e e there in
            let ends = edge_is g is k e within at in
            let near : AreNeighbours g e.from e.to = list_any_at (joins e.from e.to) g.edges k e within (rw at (joins-ends e.from e.to e refl refl)) in ⊎_elim
            (λ (matched : s.vertex e.from ≢ INF). matched from)
            (λ (around : (u : ℕ) → u < size g → AreNeighbours g e.from u → s.vertex u ≢ INF). around e.to ends.to near to)
            (settled e.from ends.from);
      }
