-- Works that are taken and put back.
use Rattle.std.proofs.Common.{◌≡◌, ℕ, ◌≤◌, if◌then◌else◌, List, [], ◌∷◌, length, take, refl, sym, ap, ◌∙◌, inl, inr}
use Rattle.std.specs.declared.vec.Vec.{Vec}
use Rattle.std.specs.declared.alloc.Global.{Global}
use Rattle.std.specs.Vec.{vec_capacity, vec_len}
use Rattle.std.proofs.lemmas.Bool.{cases_eq, eq-eqb, ne_eqb}
use Rattle.local_graph.specs.declared.sides.Side.{Side}
use Rattle.partition.specs.declared.machine_numbers.keeping.Numbers.{Numbers}
use Rattle.partition.specs.machine_numbers.Views.{written, numbers_along, near_along, value_here}

-- the numbers at the other ends of the first i sides are in the list, which has room for all
pub record AreNear (near : Vec ℕ Global) (n : Numbers) (sides : List Side) (i : ℕ) : Type 0 where
  pub items : near.items ≡ near_along (value_here n) (take i sides)
  pub many : vec_len near ≡ i
  pub room : length sides ≤ vec_capacity near

-- numbers that are written as they were
pub written_same : (number : ℕ → ℕ) (sides : List Side) (e : ℕ) → written sides (numbers_along number sides) number e ≡ number e
written_same number [] e = refl
written_same number (s ∷ sides) e = elim (cases_eq e s.edge.0) [
  | inl same ↦ ap (λ b. if b then number s.edge.0 else written sides (numbers_along number sides) number e) (eq-eqb e s.edge.0 same) ∙ ap number (sym same)
  | inr other ↦ ap (λ b. if b then number s.edge.0 else written sides (numbers_along number sides) number e) (ne_eqb e s.edge.0 other) ∙ written_same number sides e
]
