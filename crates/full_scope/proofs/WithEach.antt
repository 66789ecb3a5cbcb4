-- Values at the keys of halves, and what an update does to its scope alone.
use Rattle.std.proofs.Common.{◌≡◌, ◌≢◌, ℕ, ◌<◌, true, List, [], ◌∷◌, map, slice_index, refl, ◌∙◌, ap, ⊎_elim, eq-eqb, ne_eqb}
use Rattle.std.specs.List.{AllByRecursion}
use Rattle.std.proofs.lemmas.Bool.{cases_eq}
use Rattle.graph_core.specs.DataGraph.{DataGraph, size, IsDataGraph}
use Rattle.graph_core.specs.Halves.{DataHalf, halves_of}
use Rattle.graph_core.proofs.HalvesLaws.{each-weaker}
use Rattle.update_api.specs.Near.{Near}
use Rattle.update_api.specs.Updates.{Update}
use Rattle.seq_run.specs.States.{GraphState, near_of, with_number, is_woken}
use Rattle.seq_run.proofs.Waking.{with_number-other, wakes-within}
use Rattle.full_scope.specs.FullUpdates.{Neighbour, Surroundings, FullUpdate}
use Rattle.full_scope.specs.FullStates.{neighbour_at, seen_around, with_each, after_full, full_wakes, AgreeAround}

-- what holds of the value of each half at its key, and of f elsewhere
pub with_each-holds : (P : ℕ → Type 0) (key value : DataHalf → ℕ) (halves : List DataHalf) (f : ℕ → ℕ) (i : ℕ) → AllByRecursion (λ h. i ≡ key h → P (value h)) halves → (AllByRecursion (λ h. i ≢ key h) halves → P (f i)) → P (with_each key value halves f i)
with_each-holds P key value [] f i each elsewhere = elsewhere tt
with_each-holds P key value (h ∷ halves) f i each elsewhere = ⊎_elim
    (λ (same : i ≡ key h). rw (eq-eqb i (key h) same) (each.0 same))
    (λ (other : i ≡ key h → ⊥). rw (ne_eqb i (key h) other) (with_each-holds P key value halves f i each.1 (λ rest. elsewhere (other, rest))))
    (cases_eq i (key h))

pub with_each-other : (key value : DataHalf → ℕ) (halves : List DataHalf) (f : ℕ → ℕ) (i : ℕ) → AllByRecursion (λ h. i ≢ key h) halves → with_each key value halves f i ≡ f i
with_each-other key value halves f i apart =
    with_each-holds (λ x. x ≡ f i) key value halves f i
    (each-weaker (λ h. i ≢ key h) (λ h. i ≡ key h → value h ≡ f i) (λ h other same. absurd (other same)) halves apart)
    (λ none. refl)

with_each-same : (key one other : DataHalf → ℕ) (halves : List DataHalf) (f g : ℕ → ℕ) (i : ℕ) → AllByRecursion (λ h. one h ≡ other h) halves → f i ≡ g i → with_each key one halves f i ≡ with_each key other halves g i
with_each-same key one other [] f g i each here = here
with_each-same key one other (h ∷ halves) f g i each here = ⊎_elim
    (λ (same : i ≡ key h). rw (eq-eqb i (key h) same) each.0)
    (λ (apart : i ≡ key h → ⊥). rw (ne_eqb i (key h) apart) (with_each-same key one other halves f g i each.1 here))
    (cases_eq i (key h))

with_number-both : (f g : ℕ → ℕ) (k x y i : ℕ) → x ≡ y → f i ≡ g i → with_number f k x i ≡ with_number g k y i
with_number-both f g k x y i here elsewhere = ⊎_elim
    (λ (same : i ≡ k). rw (eq-eqb i k same) here)
    (λ (other : i ≡ k → ⊥). rw (ne_eqb i k other) elsewhere)
    (cases_eq i k)

map_same : {X Y : Type 0} (f g : X → Y) (xs : List X) → AllByRecursion (λ x. f x ≡ g x) xs → map f xs ≡ map g xs
map_same f g [] each = refl
map_same f g (x ∷ xs) each = λ i. each.0 i ∷ map_same f g xs each.1 i

-- a neighbour with this identifier
abbrev named : ℕ → Near → Neighbour
named id near = record { id = id; near = near }

-- a vertex that sees these neighbours
abbrev among : ℕ → ℕ → List Neighbour → Surroundings
among id own neighbours = record { id = id; own = own; neighbours = neighbours }

module _ (g : DataGraph) (p : FullUpdate) (s t : GraphState) (v : ℕ) (agree : AgreeAround g s t v) where
  neighbours_same : AllByRecursion (λ h. neighbour_at g s h ≡ neighbour_at g t h) (halves_of g v)
  neighbours_same = each-weaker (λ h. near_of s h ≡ near_of t h) (λ h. neighbour_at g s h ≡ neighbour_at g t h) (λ h same. ap (named (slice_index g.ids h.other)) same) (halves_of g v) agree.near

  seen-same : seen_around g s v ≡ seen_around g t v
  seen-same = λ i. among (slice_index g.ids v) (agree.own i) (map_same (neighbour_at g s) (neighbour_at g t) (halves_of g v) neighbours_same i)

  -- what is written along each half is the same
  values_same : (value : Surroundings → Neighbour → ℕ) → AllByRecursion (λ h. value (seen_around g s v) (neighbour_at g s h) ≡ value (seen_around g t v) (neighbour_at g t h)) (halves_of g v)
  values_same value =
      each-weaker (λ h. neighbour_at g s h ≡ neighbour_at g t h) (λ h. value (seen_around g s v) (neighbour_at g s h) ≡ value (seen_around g t v) (neighbour_at g t h))
      (λ h same. λ i. value (seen-same i) (same i)) (halves_of g v) neighbours_same

  pub after-vertex_same : (x : ℕ) → s.vertex x ≡ t.vertex x → (after_full g p s v).vertex x ≡ (after_full g p t v).vertex x
  after-vertex_same x here =
      with_number-both
      (with_each (λ h. h.other) (λ h. p.near (seen_around g s v) (neighbour_at g s h)) (halves_of g v) s.vertex)
      (with_each (λ h. h.other) (λ h. p.near (seen_around g t v) (neighbour_at g t h)) (halves_of g v) t.vertex)
      v (p.number (seen_around g s v)) (p.number (seen_around g t v)) x (ap p.number seen-same)
      (with_each-same (λ h. h.other) (λ h. p.near (seen_around g s v) (neighbour_at g s h)) (λ h. p.near (seen_around g t v) (neighbour_at g t h)) (halves_of g v) s.vertex t.vertex x (values_same p.near) here)

  pub after-edge_same : (e : ℕ) → s.edge e ≡ t.edge e → (after_full g p s v).edge e ≡ (after_full g p t v).edge e
  after-edge_same e here =
      with_each-same (λ h. h.edge) (λ h. p.mark (seen_around g s v) (neighbour_at g s h)) (λ h. p.mark (seen_around g t v) (neighbour_at g t h)) (halves_of g v) s.edge t.edge e (values_same p.mark) here

  pub full_wakes-same : (u : ℕ) → full_wakes g p s v u ≡ full_wakes g p t v u
  full_wakes-same u = ap (λ (seen : Surroundings). is_woken (p.woken seen) (halves_of g v) u) seen-same

module _ (g : DataGraph) (p : FullUpdate) (s : GraphState) (v : ℕ) where
  pub after-vertex_other : (x : ℕ) → x ≢ v → AllByRecursion (λ h. x ≢ h.other) (halves_of g v) → (after_full g p s v).vertex x ≡ s.vertex x
  after-vertex_other x other apart =
      let value = λ (h : DataHalf). p.near (seen_around g s v) (neighbour_at g s h) in
      with_number-other (with_each (λ h. h.other) value (halves_of g v) s.vertex) v (p.number (seen_around g s v)) x other
      ∙ with_each-other (λ h. h.other) value (halves_of g v) s.vertex x apart

  pub after-edge_other : (e : ℕ) → AllByRecursion (λ h. e ≢ h.edge) (halves_of g v) → (after_full g p s v).edge e ≡ s.edge e
  after-edge_other e apart = with_each-other (λ h. h.edge) (λ h. p.mark (seen_around g s v) (neighbour_at g s h)) (halves_of g v) s.edge e apart

  -- only vertices are woken
  pub full_wakes-within : IsDataGraph g → (u : ℕ) → full_wakes g p s v u ≡ true → u < size g
  full_wakes-within is u woken =
      let alike : Update = record { start = p.start; number = λ own nears. 0; mark = λ own near. 0; woken = λ old new. p.woken (seen_around g s v) } in
      wakes-within g is alike s v u woken
