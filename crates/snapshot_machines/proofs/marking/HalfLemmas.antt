-- What is saved along the half-edges at a vertex.
use Rattle.std.proofs.Common.{◌≡◌, ℕ, zero, suc, ◌+◌, ◌<◌, ◌==◌, ◌&&◌, ◌||◌, ◌++◌, not, Bool, true, false, true≢false, if◌then◌else◌, Option, Some, None, List, [], ◌∷◌, refl, sym, ap, ◌∙◌, subst, arith}
use Rattle.std.specs.Prelude.{slice_get}
use Rattle.std.specs.List.{list_any}
use Rattle.std.proofs.lemmas.Bool.{eq-eqb, ne_eqb, eqb-true}
use Rattle.std.proofs.lemmas.Option.{get_or_from_slice_get, unwrap_or-slice_get}
use Rattle.std.specs.Option.{unwrap_or}
use Rattle.graph_core.specs.Colourings.{joins}
use Rattle.graph_core.specs.DataGraph.{DataEdge}
use Rattle.graph_core.specs.Halves.{DataHalf, half_at, halves_from, halves_of}
use Rattle.cluster_laws.specs.cluster_core.Effects.{is_end, other_end}
use Rattle.cluster_laws.specs.cluster_core.Settings.{Setting, IsSetting, is_near, nth_edge}
use Rattle.cluster_laws.proofs.cluster_core.Nearness.{near_other}
use Rattle.machine_core.proofs.machine_updates.LeaveLemmas.{some_none}
use Rattle.coordinator.specs.snap_update.Holding.{later_number}

abbrev no_edge : DataEdge
no_edge = record { from = 0; to = 0; weight = 0 }

pub later_none : (o : Option ℕ) → later_number o None ≡ o
later_none None = refl
later_none (Some number) = refl

-- the number that is saved of edge e, where these half-edges' other ends pass the test: the last one
abbrev pub saved_along : (ℕ → Bool) → (ℕ → ℕ) → List DataHalf → ℕ → Option ℕ
saved_along test number [] e = None
saved_along test number (h ∷ hs) e = later_number (saved_along test number hs e) (if e == h.edge && test h.other then Some (number h.edge) else None)

module _ (directed : Bool) (v : ℕ) (test : ℕ → Bool) (number : ℕ → ℕ) where
  -- the number of edge e, where it is this one
  abbrev pub saved_at : ℕ → Option DataEdge → Option ℕ
  saved_at e None = None
  saved_at e (Some x) = if is_end x v && test (other_end x v) then Some (number e) else None

  half : (k e : ℕ) (x : DataEdge) (rest : List DataHalf) (b c : Bool)
      → saved_along test number ((if b then record { edge = k; other = x.to; weight = x.weight; out = true; into = not directed } ∷ []
      else (if c then record { edge = k; other = x.from; weight = x.weight; out = not directed; into = true } ∷ [] else [])) ++ rest) e
      ≡ later_number (saved_along test number rest e) (if e == k && ((b || c) && test (if b then x.to else x.from)) then Some (number k) else None)
  half k e x rest true c = refl
  half k e x rest false true = refl
  half k e x rest false false = by (e == k)
    where
      by : (b : Bool) → saved_along test number rest e ≡ later_number (saved_along test number rest e) (if b && false then Some (number k) else None)
      by true = sym (later_none (saved_along test number rest e))
      by false = sym (later_none (saved_along test number rest e))

  along_at : (k e : ℕ) (x : DataEdge) (rest : List DataHalf)
      → saved_along test number (half_at directed v k x ++ rest) e ≡ later_number (saved_along test number rest e) (if e == k && (is_end x v && test (other_end x v)) then Some (number k) else None)
  along_at k e x rest = half k e x rest (x.from == v) (x.to == v)

  -- an edge before them is none of them
  none_below : (k e : ℕ) (edges : List DataEdge) → e < k → saved_along test number (halves_from directed v k edges) e ≡ None
  none_below k e [] low = refl
  none_below k e (x ∷ edges) low =
      along_at k e x (halves_from directed v (suc k) edges)
      ∙ ap (λ (o : Option ℕ). later_number o (if e == k && (is_end x v && test (other_end x v)) then Some (number k) else None)) (none_below (suc k) e edges (omega arith))
      ∙ ap (λ (b : Bool). if b && (is_end x v && test (other_end x v)) then Some (number k) else None) (ne_eqb e k (λ same. omega arith))

  found : (k i e : ℕ) (edges : List DataEdge) → e ≡ k + i → saved_along test number (halves_from directed v k edges) e ≡ saved_at e (slice_get edges i)
  found k i e [] is = refl
  found k zero e (x ∷ edges) is =
      let here : e ≡ k = omega (arith, is) in
      along_at k e x (halves_from directed v (suc k) edges)
      ∙ ap (λ (o : Option ℕ). later_number o (if e == k && (is_end x v && test (other_end x v)) then Some (number k) else None)) (none_below (suc k) e edges (omega (arith, here)))
      ∙ ap (λ (b : Bool). if b && (is_end x v && test (other_end x v)) then Some (number k) else None) (eq-eqb e k here)
      ∙ ap (λ (j : ℕ). if is_end x v && test (other_end x v) then Some (number j) else None) (sym here)
  found k (suc i) e (x ∷ edges) is =
      along_at k e x (halves_from directed v (suc k) edges)
      ∙ ap (λ (b : Bool). later_number (saved_along test number (halves_from directed v (suc k) edges) e) (if b && (is_end x v && test (other_end x v)) then Some (number k) else None)) (ne_eqb e k (λ same. omega (arith, is)))
      ∙ later_none (saved_along test number (halves_from directed v (suc k) edges) e)
      ∙ found (suc k) i e edges (omega (arith, is))

-- ---- edges of the graph

some_same : {X : Type 0} (x y : X) → Some x ≡ Some y → x ≡ y
some_same x y is = cc

any_at : {X : Type 0} (test : X → Bool) (xs : List X) (i : ℕ) (x : X) → slice_get xs i ≡ Some x → test x ≡ true → list_any test xs ≡ true
any_at {X} test [] i x at passes = absurd (some_none x (sym at))
any_at {X} test (y ∷ xs) zero x at passes = ap (λ (b : Bool). b || list_any test xs) (ap test (some_same y x at) ∙ passes)
any_at {X} test (y ∷ xs) (suc i) x at passes = ap (λ (b : Bool). test y || b) (any_at test xs i x at passes) ∙ or_true (test y)
  where
    or_true : (b : Bool) → (b || true) ≡ true
    or_true true = refl
    or_true false = refl

-- an edge at v joins it with the other end
end_joins : (v : ℕ) (x : DataEdge) → is_end x v ≡ true → joins v (other_end x v) x ≡ true
end_joins v x end = by (x.from == v) (x.to == v) refl refl end
  where
    by : (b c : Bool) → (x.from == v) ≡ b → (x.to == v) ≡ c → (b || c) ≡ true → joins v (if b then x.to else x.from) x ≡ true
    by true c is_from is_to one = let own = eq-eqb x.to x.to refl in rw (is_from, own) refl
    by false true is_from is_to one = let own = eq-eqb x.from x.from refl in rw (is_from, own, is_to) refl
    by false false is_from is_to one = absurd (true≢false (sym one))

and_left : (a b c : Bool) → (a ≡ true → b ≡ true) → (a && c) ≡ (a && (b && c))
and_left true b c is = ap (λ (x : Bool). x && c) (sym (is refl))
and_left false b c is = refl

-- no edge is one to an end without the mark
no_end : (st : Setting) (v : ℕ) (test : ℕ → Bool) → IsSetting st → (is_end no_edge v && (is_near st v (other_end no_edge v) && test (other_end no_edge v))) ≡ false
no_end st v test setting = by (0 == v) refl
  where
    by : (b : Bool) → (0 == v) ≡ b → ((b || b) && (is_near st v (if b then 0 else 0) && test (if b then 0 else 0))) ≡ false
    by true is = ap (λ (c : Bool). c && test 0) (subst (λ (x : ℕ). is_near st x 0 ≡ false) (eqb-true 0 v is) (near_other st setting 0))
    by false is = refl

-- the number of edge e, where this is it, at v, and the other end is near and passes
abbrev edge_value : Setting → ℕ → (ℕ → Bool) → (ℕ → ℕ) → ℕ → DataEdge → Option ℕ
edge_value st v test number e x = if is_end x v && (is_near st v (other_end x v) && test (other_end x v)) then Some (number e) else None

-- what is saved along the half-edges at v is the number of each edge at v whose other end is near and passes
pub saved_of : (st : Setting) (v : ℕ) (test : ℕ → Bool) (number : ℕ → ℕ) (e : ℕ) → IsSetting st
    → saved_along test number (halves_of st.graph v) e
    ≡ (if is_end (nth_edge st e) v && (is_near st v (other_end (nth_edge st e) v) && test (other_end (nth_edge st e) v)) then Some (number e) else None)
saved_of st v test number e setting = found st.graph.directed v test number 0 e e st.graph.edges (omega arith) ∙ by (slice_get st.graph.edges e) refl
  where
    by : (o : Option DataEdge) → slice_get st.graph.edges e ≡ o → saved_at st.graph.directed v test number e o ≡ edge_value st v test number e (nth_edge st e)
    by None at =
        let is : nth_edge st e ≡ no_edge = sym (unwrap_or-slice_get st.graph.edges e no_edge) ∙ ap (λ (o : Option DataEdge). unwrap_or o no_edge) at in
        sym (ap (edge_value st v test number e) is ∙ ap (λ (b : Bool). if b then Some (number e) else None) (no_end st v test setting))
    by (Some x) at =
        let is : nth_edge st e ≡ x = get_or_from_slice_get st.graph.edges e x no_edge at in
        ap (λ (b : Bool). if b then Some (number e) else None)
        (and_left (is_end x v) (is_near st v (other_end x v)) (test (other_end x v)) (λ end. any_at (joins v (other_end x v)) st.graph.edges e x at (end_joins v x end)))
        ∙ sym (ap (edge_value st v test number e) is)
