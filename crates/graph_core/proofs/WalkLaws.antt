-- Walks: joined, gone back, and bounded.
use Rattle.std.proofs.Common.{◌≡◌, ℕ, ◌+◌, ◌≤◌, Bool, true, false, List, [], ◌∷◌, ◌++◌, reverse, sum_by, refl, sym, ap, ◌∙◌, subst, inl, inr, ⊎_elim, Contains, arith}
use Rattle.std.proofs.lemmas.List.{reverse-append}
use Rattle.std.proofs.lemmas.List.Sums.{sum_by-cons}
use Rattle.graph_core.specs.DataGraph.{DataEdge}
use Rattle.graph_core.specs.Walks.{Leads, IsWalk}

pub walk-append : (edges : List DataEdge) (directed : Bool) (a b c : ℕ) (path more : List DataEdge) → IsWalk edges directed a b path → IsWalk edges directed b c more → IsWalk edges directed a c (path ++ more)
walk-append edges directed a b c [] more same on = subst (λ x. IsWalk edges directed x c more) (sym same) on
walk-append edges directed a b c (e ∷ path) more (m, has, leads, rest) on = (m, has, leads, walk-append edges directed m b c path more rest on)

back_over : (e : DataEdge) (a b : ℕ) → Leads false e a b → Leads false e b a
back_over e a b leads = ⊎_elim (λ h. inr (refl, h.0, h.1)) (λ h. inl (h.1, h.2)) leads

pub walk-reverse : (edges : List DataEdge) (a b : ℕ) (path : List DataEdge) → IsWalk edges false a b path → IsWalk edges false b a (reverse path)
walk-reverse edges a b [] same = sym same
walk-reverse edges a b (e ∷ path) (m, has, leads, rest) =
    let turned : reverse (e ∷ path) ≡ reverse path ++ e ∷ [] = reverse-append (e ∷ []) path in
    let last : IsWalk edges false m a (e ∷ []) = (a, has, back_over e a m leads, refl) in
    subst (λ p. IsWalk edges false b a p) (sym turned) (walk-append edges false b m a (reverse path) (e ∷ []) (walk-reverse edges m b path rest) last)

pub walk_bounded : (edges : List DataEdge) (directed : Bool) (number : ℕ → ℕ) (cost : DataEdge → ℕ) → ((e : DataEdge) (a b : ℕ) → Contains edges e → Leads directed e a b → number b ≤ number a + cost e) → (a v : ℕ) (path : List DataEdge) → IsWalk edges directed a v path → number v ≤ number a + sum_by cost path
walk_bounded edges directed number cost up a v [] same = rw same (omega arith)
walk_bounded edges directed number cost up a v (e ∷ path) (m, has, leads, rest) =
    omega (arith, up e a m has leads, walk_bounded edges directed number cost up m v path rest, sum_by-cons cost e path)

pub walk_stays : (edges : List DataEdge) (directed : Bool) (inside : ℕ → Bool) → ((e : DataEdge) (a b : ℕ) → Contains edges e → Leads directed e a b → inside a ≡ true → inside b ≡ true) → (a v : ℕ) (path : List DataEdge) → IsWalk edges directed a v path → inside a ≡ true → inside v ≡ true
walk_stays edges directed inside stays a v [] same here = sym (ap inside same) ∙ here
walk_stays edges directed inside stays a v (e ∷ path) (m, has, leads, rest) here =
    walk_stays edges directed inside stays m v path rest (stays e a m has leads here)
