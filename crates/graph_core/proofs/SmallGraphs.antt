-- The levels of two small graphs, by walks.
use Rattle.std.proofs.Common.{◌≡◌, ◌⊎◌, ℕ, zero, suc, ◌+◌, ◌<◌, ◌≤◌, true, false, not, List, [], ◌∷◌, length, slice_index, sum_by, eqb, refl, sym, ap, ◌∙◌, inl, inr, ⊎_elim, Contains, arith}
use Rattle.gl_base.specs.declared.limits.TheConstants.{INF}
use Rattle.std.proofs.lemmas.Bool.{false≢true}
use Rattle.std.proofs.lemmas.List.Sums.{sum_by-cons}
use Rattle.graph_core.specs.DataGraph.{DataEdge, DataGraph}
use Rattle.graph_core.specs.Walks.{Leads, Walk}
use Rattle.graph_core.specs.Levels.{IsLevelOrInf, AreLevels}
use Rattle.graph_core.specs.GraphLaws.{path_of_three, two_into_one}
use Rattle.graph_core.proofs.WalkLaws.{walk_bounded, walk_stays}

sum_of_ones : (path : List DataEdge) → sum_by (λ e. 1) path ≡ length path
sum_of_ones [] = refl
sum_of_ones (e ∷ path) = omega (arith, sum_by-cons (λ (x : DataEdge). 1) e path, sum_of_ones path)

-- numbers that no edge raises by more than one bound the length of each walk
long : (g : DataGraph) (number : ℕ → ℕ) → ((e : DataEdge) (a b : ℕ) → Contains g.edges e → Leads g.directed e a b → number b ≤ number a + 1) → (a v : ℕ) (path : List DataEdge) → Walk g a v path → number v ≤ number a + length path
long g number up a v path walk = omega (arith, walk_bounded g.edges g.directed number (λ e. 1) up a v path walk, sum_of_ones path)

one_of_two : {X : Type 0} (x y z : X) → Contains (x ∷ y ∷ []) z → (x ≡ z) ⊎ (y ≡ z)
one_of_two x y z (zero, inside, read) = inl read
one_of_two x y z (suc zero, inside, read) = inr read
one_of_two x y z (suc (suc k), inside, read) = absurd (omega arith)

abbrev link : ℕ → ℕ → DataEdge
link a b = record { from = a; to = b; weight = 1 }

-- an edge of the path of three leads between 0 and 1, or between 1 and 2
path_leads : (P : ℕ → ℕ → Type 0) → P 0 1 → P 1 0 → P 1 2 → P 2 1 → (e : DataEdge) (a b : ℕ) → Contains path_of_three.edges e → Leads false e a b → P a b
path_leads P p01 p10 p12 p21 e a b has leads =
    ⊎_elim
    (λ (is : link 0 1 ≡ e). either_way P 0 1 p01 p10 e a b is leads)
    (λ (is : link 1 2 ≡ e). either_way P 1 2 p12 p21 e a b is leads)
    (one_of_two (link 0 1) (link 1 2) e has)
  where
    either_way : (P : ℕ → ℕ → Type 0) (x y : ℕ) → P x y → P y x → (e : DataEdge) (a b : ℕ) → link x y ≡ e → Leads false e a b → P a b
    either_way P x y to back e a b is leads =
        let from : x ≡ e.from = ap (λ z. z.from) is in
        let end : y ≡ e.to = ap (λ z. z.to) is in
        ⊎_elim
        (λ h. rw (← (from ∙ h.0), ← (end ∙ h.1)) to)
        (λ h. rw (← (from ∙ h.1), ← (end ∙ h.2)) back)
        leads

abbrev path_number : ℕ → ℕ
path_number v = slice_index (0 ∷ 1 ∷ 2 ∷ []) v

path_up : (e : DataEdge) (a b : ℕ) → Contains path_of_three.edges e → Leads false e a b → path_number b ≤ path_number a + 1
path_up = path_leads (λ a b. path_number b ≤ path_number a + 1) (omega arith) (omega arith) (omega arith) (omega arith)

path_inside : (e : DataEdge) (a b : ℕ) → Contains path_of_three.edges e → Leads false e a b → not (eqb a 3) ≡ true → not (eqb b 3) ≡ true
path_inside = path_leads (λ a b. not (eqb a 3) ≡ true → not (eqb b 3) ≡ true) (λ h. refl) (λ h. refl) (λ h. refl) (λ h. refl)

path_level : (v x : ℕ) (path : List DataEdge) → x < INF → Walk path_of_three 0 v path → length path ≡ x → path_number v ≡ x → IsLevelOrInf path_of_three 0 v x
path_level v x path small walk len number =
    inl (small, record { reached = (path, walk, len); least = λ more on. omega (arith, long path_of_three path_number path_up 0 v more on) })

path_each : (v : ℕ) → v < 4 → IsLevelOrInf path_of_three 0 v (slice_index (0 ∷ 1 ∷ 2 ∷ INF ∷ []) v)
path_each zero l = path_level 0 0 [] (omega arith) refl refl refl
path_each (suc zero) l = path_level 1 1 (link 0 1 ∷ []) (omega arith) (1, (0, omega arith, refl), inl (refl, refl), refl) refl refl
path_each (suc (suc zero)) l =
    path_level 2 2 (link 0 1 ∷ link 1 2 ∷ []) (omega arith) (1, (0, omega arith, refl), inl (refl, refl), (2, (1, omega arith, refl), inl (refl, refl), refl)) refl refl
path_each (suc (suc (suc zero))) l =
    inr (refl, λ path walk. false≢true (walk_stays path_of_three.edges false (λ v. not (eqb v 3)) path_inside 0 3 path walk refl))
path_each (suc (suc (suc (suc v)))) l = absurd (omega arith)

pub path_levels : AreLevels path_of_three 0 (0 ∷ 1 ∷ 2 ∷ INF ∷ [])
path_levels = record { count = refl; each = path_each }

-- an edge of the second graph leads from 0 to 1, or from 2 to 1
two_leads : (P : ℕ → ℕ → Type 0) → P 0 1 → P 2 1 → (e : DataEdge) (a b : ℕ) → Contains two_into_one.edges e → Leads true e a b → P a b
two_leads P p01 p21 e a b has leads =
    ⊎_elim
    (λ (is : link 0 1 ≡ e). one_way P 0 1 p01 e a b is leads)
    (λ (is : link 2 1 ≡ e). one_way P 2 1 p21 e a b is leads)
    (one_of_two (link 0 1) (link 2 1) e has)
  where
    one_way : (P : ℕ → ℕ → Type 0) (x y : ℕ) → P x y → (e : DataEdge) (a b : ℕ) → link x y ≡ e → Leads true e a b → P a b
    one_way P x y to e a b is leads =
        let from : x ≡ e.from = ap (λ z. z.from) is in
        let end : y ≡ e.to = ap (λ z. z.to) is in
        ⊎_elim
        (λ h. rw (← (from ∙ h.0), ← (end ∙ h.1)) to)
        (λ h. absurd (false≢true (sym h.0)))
        leads

two_up : (e : DataEdge) (a b : ℕ) → Contains two_into_one.edges e → Leads true e a b → path_number b ≤ path_number a + 1
two_up = two_leads (λ a b. path_number b ≤ path_number a + 1) (omega arith) (omega arith)

two_inside : (e : DataEdge) (a b : ℕ) → Contains two_into_one.edges e → Leads true e a b → not (eqb a 2) ≡ true → not (eqb b 2) ≡ true
two_inside = two_leads (λ a b. not (eqb a 2) ≡ true → not (eqb b 2) ≡ true) (λ h. refl) (λ h. refl)

two_each : (v : ℕ) → v < 3 → IsLevelOrInf two_into_one 0 v (slice_index (0 ∷ 1 ∷ INF ∷ []) v)
two_each zero l = inl (omega arith, record { reached = ([], refl, refl); least = λ more on. omega arith })
two_each (suc zero) l =
    inl (omega arith, record { reached = (link 0 1 ∷ [], (1, (0, omega arith, refl), inl (refl, refl), refl), refl); least = λ more on. omega (arith, long two_into_one path_number two_up 0 1 more on) })
two_each (suc (suc zero)) l =
    inr (refl, λ path walk. false≢true (walk_stays two_into_one.edges true (λ v. not (eqb v 2)) two_inside 0 2 path walk refl))
two_each (suc (suc (suc v))) l = absurd (omega arith)

pub two_levels : AreLevels two_into_one 0 (0 ∷ 1 ∷ INF ∷ [])
two_levels = record { count = refl; each = two_each }
