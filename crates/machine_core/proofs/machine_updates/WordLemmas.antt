-- Word of an update that may come in a cluster can be learned here.
use Rattle.std.proofs.Common.{◌≡◌, ◌≢◌, ℕ, ◌<◌, ◌==◌, ◌&&◌, ◌||◌, ◌⊎◌, ◌≤◌, zero, suc, Bool, true, false, true≢false, Option, Some, None, List, [], ◌∷◌, length, get_or, refl, sym, ap, ◌∙◌, subst, inl, inr, ⊎_elim, not, if◌then◌else◌, arith}
use Rattle.std.specs.Prelude.{is_some, nat_lt}
use Rattle.std.specs.List.{list_any}
use Rattle.std.specs.Option.{option_map}
use Rattle.std.proofs.lemmas.Bool.{cases_Bool, cases_lt, eq-eqb, eqb-true, lt-ltb, ltb-true, and_parts, and_from, or_cases, false_from_ne_true}
use Rattle.std.proofs.lemmas.List.{get_or_past}
use Rattle.std.proofs.lemmas.List.Folds.{list_any_at}
use Rattle.gl_base.specs.declared.atoms.GhostLine.{GhostLine}
use Rattle.gl_base.specs.declared.numbers.EdgeNo.{EdgeNo}
use Rattle.gl_base.specs.declared.numbers.MachineNo.{MachineNo}
use Rattle.gl_base.specs.declared.numbers.Vertex.{Vertex}
use Rattle.gl_base.specs.declared.scopes.ScopeId.{ScopeId}
use Rattle.graph_core.specs.DataGraph.{size}
use Rattle.graph_core.specs.Neighbours.{neighbours_of}
use Rattle.cluster_laws.specs.cluster_core.Effects.{is_shared}
use Rattle.cluster_laws.specs.cluster_core.Places.{IsAtHome}
use Rattle.cluster_laws.specs.cluster_core.Receiving.{MayLearn}
use Rattle.cluster_laws.specs.cluster_core.Scopes.{own_from, takes_part}
use Rattle.cluster_laws.specs.cluster_core.Settings.{IsSetting, nth_edge, is_in_scope, is_near}
use Rattle.cluster_laws.proofs.cluster_core.Nearness.{near_within}
use Rattle.cluster_laws.proofs.cluster_core.Nearness as near
use Rattle.partition.specs.local_parts.Parts.{is_ghost_of, own_in_scope}
use Rattle.partition.proofs.local_parts.FoundLemmas.{any_mapped}
use Rattle.partition.proofs.local_parts.NearLemmas.{neighbour_passes}
use Rattle.machine_core.proofs.lock_release.ReleaseLemmas.{owned_where}
use Rattle.scope_locks.specs.scope_pipe.Entered.{EnteredView}
use Rattle.wire.specs.declared.wire_msgs.messages.Done.{Done}
use Rattle.partition.specs.machine_numbers.Views.{HasEdge, is_in_update, news_of, number_told}
use Rattle.machine_core.specs.declared.machine_parts.cores.Core.{Core}
use Rattle.machine_core.specs.machine_parts.Parts.{LocalView, Stand, is_own, part_at, part_of, entered_at, holder_at, stand_at, lock_asked, machine_numbers}
use Rattle.machine_core.specs.machine_parts.Order.{IsOrderly, is_one_of}
use Rattle.machine_core.specs.machine_parts.Settings.{Setting, IsLocalOf, IsPartOf}
use Rattle.machine_core.specs.machine_updates.Learning.{CanLearn}
use Rattle.machine_core.proofs.machine_updates.ToldLemmas.{passes_any, found_one}

-- ---- lists

-- a number is told of an edge that is named
pub told_some : (edges : List (EdgeNo × ℕ)) (k : ℕ) (d : EdgeNo × ℕ) → k < length edges → is_some (number_told edges (get_or edges k d).0.0) ≡ true
told_some edges k d low = by edges k low
  where
    first : (one : EdgeNo × ℕ) (edges : List (EdgeNo × ℕ)) (e : ℕ) (b : Bool) → (e == one.0.0) ≡ b → (b ≡ false → is_some (number_told edges e) ≡ true) → is_some (number_told (one ∷ edges) e) ≡ true
    first one edges e true is behind = ap (λ (b : Bool). is_some (if b then Some one.1 else number_told edges e)) is
    first one edges e false is behind = ap (λ (b : Bool). is_some (if b then Some one.1 else number_told edges e)) is ∙ behind refl

    by : (edges : List (EdgeNo × ℕ)) (k : ℕ) → k < length edges → is_some (number_told edges (get_or edges k d).0.0) ≡ true
    by [] k low = absurd (omega arith)
    by (one ∷ edges) zero low = first one edges one.0.0 (one.0.0 == one.0.0) refl (λ no. absurd (true≢false (sym (eq-eqb one.0.0 one.0.0 refl) ∙ no)))
    by (one ∷ edges) (suc k) low = let e = (get_or edges k d).0.0 in first one edges e (e == one.0.0) refl (λ no. by edges k (omega arith))

-- nobody is named
pub named_none : (vs : List Vertex) → ((u : ℕ) → is_in_update vs u ≡ false) → vs ≡ []
named_none [] none = refl
named_none (v ∷ vs) none = absurd (true≢false (sym (ap (λ (b : Bool). b || is_in_update vs v.0) (eq-eqb v.0 v.0 refl)) ∙ none v.0))

-- ---- who has come stands at a lock

stand_some : (e : EnteredView) (o : Option Vertex) → lock_asked e ≡ o → is_some o ≡ true → is_some (stand_at (Some e)) ≡ true
stand_some e None at some = absurd (true≢false (sym some))
stand_some e (Some x) at some = let stand : Vertex → Stand = λ y. record { centre = e.centre.0; lock = y.0; rest = machine_numbers e.rest } in ap (λ (o : Option Vertex). is_some (option_map stand o)) at

come_none : (m : Core) (s : ScopeId) → IsOrderly m → (o : Option EnteredView) → entered_at m.pipe s ≡ o → stand_at o ≡ None → o ≡ None
come_none m s is None at none = refl
come_none m s is (Some e) at none = absurd (true≢false (sym (stand_some e (lock_asked e) refl ((is.entered s e at).stands refl)) ∙ ap is_some none))

-- ---- the graph here

module _ (st : Setting) (l : LocalView) (c : ℕ) (setting : IsSetting st) (local : IsLocalOf st l) (elsewhere : st.owner c ≢ l.me.0) where
  -- a vertex of another machine in whose scope this one takes part is a ghost here
  pub ghost_known : c < size st.graph → takes_part st c l.me.0 ≡ true → list_any (λ g. g.vertex.0 == c) l.ghosts ≡ true
  ghost_known low takes =
      let a = l.me.0 in
      let one = found_one (own_from st c a 0) takes in
      let own = near.is_own st c a 0 one.0 one.1 in
      let beside : list_any (λ (u : ℕ). st.owner u == a) (neighbours_of st.graph c) ≡ true = elim (or_cases (one.0 == c) (is_near st c one.0) own.2) [
        | inl same ↦ absurd (elsewhere (sym (ap st.owner (eqb-true one.0 c same)) ∙ own.3))
        | inr close ↦ neighbour_passes st.graph (λ (u : ℕ). st.owner u == a) c one.0 own.1 close (eq-eqb (st.owner one.0) a own.3)
      ] in
      let other : (st.owner c == a) ≡ false = false_from_ne_true (st.owner c == a) (λ same. elsewhere (eqb-true (st.owner c) a same)) in
      let passes : is_ghost_of st a c ≡ true = ap (λ (b : Bool). not b && list_any (λ (u : ℕ). st.owner u == a) (neighbours_of st.graph c)) other ∙ beside in
      sym (any_mapped (λ (k : ℕ). k == c) (λ (g : GhostLine). g.vertex.0) l.ghosts) ∙ ap (λ (ks : List ℕ). list_any (λ k. k == c) ks) local.ghosts
      ∙ passes_any (is_ghost_of st a) 0 (size st.graph) c (omega arith) (omega arith) passes

  -- an edge that leads from it to an own vertex is here
  pub edge_known : (e : ℕ) → is_shared st c l.me.0 (nth_edge st e) ≡ true → HasEdge l e
  edge_known e shared = subst (λ (n : ℕ). e < n) (sym local.edges) (inside (cases_lt e (length st.graph.edges)))
    where
      inside : (e < length st.graph.edges) ⊎ (length st.graph.edges ≤ e) → e < length st.graph.edges
      inside (inl low) = low
      inside (inr high) =
          let none : nth_edge st e ≡ record { from = 0; to = 0; weight = 0 } = get_or_past st.graph.edges e (record { from = 0; to = 0; weight = 0 }) high in
          let at : is_shared st c l.me.0 (record { from = 0; to = 0; weight = 0 }) ≡ true = ap (is_shared st c l.me.0) (sym none) ∙ shared in
          let both : (0 == c && st.owner 0 == l.me.0) ≡ true = ⊎_elim (λ yes. yes) (λ yes. yes) (or_cases (0 == c && st.owner 0 == l.me.0) (0 == c && st.owner 0 == l.me.0) at) in
          let parts = and_parts (0 == c) (st.owner 0 == l.me.0) both in
          absurd (elsewhere (sym (ap st.owner (eqb-true 0 c parts.0)) ∙ eqb-true (st.owner 0) l.me.0 parts.1))

-- ---- the machine

module _ (st : Setting) (p : ℕ) (m : Core) (done : Done) (setting : IsSetting st) (part : IsPartOf st m) (order : IsOrderly m)
    (may : MayLearn st p m.numbers.local.me.0 (part_of m) done.scope (news_of done)) (home : IsAtHome st done.scope done.centre.0) where
  elsewhere : st.owner done.centre.0 ≢ m.numbers.local.me.0
  elsewhere own = may.copy (sym may.owner ∙ own)

  own_in : (x : ℕ) → is_own m.numbers.local x ≡ true → (x < size st.graph) × (st.owner x ≡ m.numbers.local.me.0)
  own_in x own =
      let both = and_parts (nat_lt x (size st.graph)) (st.owner x == m.numbers.local.me.0) (sym (part.local.own x) ∙ own) in
      (ltb-true x (size st.graph) both.0, eqb-true (st.owner x) m.numbers.local.me.0 both.1)

  own_from_setting : (x : ℕ) → x < size st.graph → st.owner x ≡ m.numbers.local.me.0 → is_own m.numbers.local x ≡ true
  own_from_setting x low owner =
      part.local.own x ∙ ap (λ (b : Bool). b && st.owner x == m.numbers.local.me.0) (lt-ltb x (size st.graph) low) ∙ eq-eqb (st.owner x) m.numbers.local.me.0 owner

  away : done.scope.home.0 ≢ m.pipe.home.0
  away same = elsewhere (home.owned ∙ same ∙ ap (λ (a : MachineNo). a.0) order.flights.home)

  not_own : is_own m.numbers.local done.centre.0 ≡ false
  not_own = false_from_ne_true (is_own m.numbers.local done.centre.0) (λ own. elsewhere (own_in done.centre.0 own).1)

  -- the scope holds no lock here but its own
  only : ((x : ℕ) → st.owner x ≡ m.numbers.local.me.0 → is_in_scope st done.centre.0 x ≡ false → (part_of m).holder x done.scope ≡ None)
      → (x : ℕ) → is_some (holder_at m.locks x done.scope) ≡ true → is_one_of (part_at m.numbers.local done.centre.0) x ≡ true
  only others x held =
      let a = m.numbers.local.me.0 in
      let c = done.centre.0 in
      let test : ℕ → Bool = λ y. is_in_scope st c y && st.owner y == a in
      let listed : is_one_of (part_at m.numbers.local c) x ≡ list_any (λ k. k == x) (own_in_scope st c a) =
      sym (any_mapped (λ (k : ℕ). k == x) (λ (v : Vertex). v.0) (part_at m.numbers.local c)) ∙ ap (λ (ks : List ℕ). list_any (λ k. k == x) ks) (part.local.part c home.vertex) in
      let own = own_in x (sym (order.locks.owned x) ∙ owned_where m.locks x done.scope held) in
      elim (cases_Bool (is_in_scope st c x)) [
        | inl inside ↦ listed ∙ passes_any test 0 (size st.graph) x (omega arith) (omega arith) (and_from (is_in_scope st c x) (st.owner x == a) inside (eq-eqb (st.owner x) a own.1))
        | inr outside ↦ absurd (true≢false (sym held ∙ ap is_some (others x own.1 outside)))
      ]

  pub done_can_be_learned : (part_of m).stand done.scope ≡ None → ((x : ℕ) → st.owner x ≡ m.numbers.local.me.0 → is_in_scope st done.centre.0 x ≡ false → (part_of m).holder x done.scope ≡ None)
      → ((u : ℕ) → is_in_update done.wakes.items u ≡ true → is_near st done.centre.0 u ≡ true) → ((u : ℕ) → is_in_update done.pends.items u ≡ false) → done.number ≡ 0 → CanLearn m done
  done_can_be_learned stand others close pends number =
      record {
        away = away;
        gone = come_none m done.scope order (entered_at m.pipe done.scope) refl stand;
        only = only others;
        ghost = ghost_known st m.numbers.local done.centre.0 setting part.local elsewhere home.vertex may.part_of;
        not_own = not_own;
        edges = λ k d low. edge_known st m.numbers.local done.centre.0 setting part.local elsewhere (get_or done.edges.items k d).0.0 (may.edges (get_or done.edges.items k d).0.0 (told_some done.edges.items k d low));
        wakes = λ k d low.
            let u = (get_or done.wakes.items k d).0 in
            let named : is_in_update done.wakes.items u ≡ true = list_any_at (λ (v : Vertex). v.0 == u) done.wakes.items k d low (eq-eqb u u refl) in
            own_from_setting u (near_within st setting done.centre.0 u (close u named)).0 (may.wakes u named);
        pends = named_none done.pends.items pends;
        number = number;
      }
