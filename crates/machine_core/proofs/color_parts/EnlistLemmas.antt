-- Who stands in line when vertices are added.
use Rattle.std.proofs.Common.{◌≡◌, ◌⊎◌, ℕ, ◌+◌, ◌<◌, ◌==◌, ◌&&◌, ◌||◌, Bool, true, false, Option, Some, List, length, get_or, sym, ap, ◌∙◌, arith, inl, inr}
use Rattle.std.proofs.Math.Bool.{or-true}
use Rattle.std.proofs.lemmas.Bool.{and_parts, cases_eq, eq-eqb, eqb-true, ne_eqb, or_cases}
use Rattle.std.proofs.lemmas.List.{get_or_default}
use Rattle.gl_base.specs.declared.numbers.Vertex.{Vertex}
use Rattle.partition.specs.declared.machine_numbers.keeping.Numbers.{Numbers}
use Rattle.machine_core.specs.color_parts.Enlisting.{HasEnlisted, is_free_such, place_at}
use Rattle.machine_core.specs.declared.color_parts.enlisting.Which.{Which}
use Rattle.machine_core.specs.color_parts.Parts.{LinesView, TasksView, is_in_line}

pub added : (which : Which) (t : TasksView) (p u : ℕ) (old : Bool) → is_free_such which t p ≡ true → (u == p || old) ≡ ((u == p && is_free_such which t u) || old)
added which t p u old due = elim (cases_eq u p) [
  | inl same ↦
      let yes = eq-eqb u p same in
      ap (λ (b : Bool). b || old) yes ∙ sym (ap (λ (b : Bool). (b && is_free_such which t u) || old) yes ∙ ap (λ (b : Bool). b || old) (ap (is_free_such which t) same ∙ due))
  | inr other ↦
      let no = ne_eqb u p other in
      ap (λ (b : Bool). b || old) no ∙ sym (ap (λ (b : Bool). (b && is_free_such which t u) || old) no)
]

pub not_added : (which : Which) (t : TasksView) (p u : ℕ) (old : Bool) → is_free_such which t p ≡ false → old ≡ ((u == p && is_free_such which t u) || old)
not_added which t p u old due = elim (cases_eq u p) [
  | inl same ↦ sym (ap (λ (b : Bool). (b && is_free_such which t u) || old) (eq-eqb u p same) ∙ ap (λ (b : Bool). b || old) (ap (is_free_such which t) same ∙ due))
  | inr other ↦ sym (ap (λ (b : Bool). (b && is_free_such which t u) || old) (ne_eqb u p other))
]

-- one more of the vertices
pub enlisted_more : (which : Which) (n : Numbers) (first old new : LinesView) (vertices : List Vertex) (i : ℕ) → i < length vertices → HasEnlisted which n first old vertices i
    → ((u : ℕ) → is_in_line old u ≡ true → is_in_line new u ≡ true)
    → ((u : ℕ) → is_in_line new u ≡ true → (is_in_line old u ≡ true) ⊎ ((place_at n.local (get_or vertices i (record { 0 = 0 })).0 ≡ Some u) × (is_free_such which n.tasks u ≡ true)))
    → ((k : ℕ) → place_at n.local (get_or vertices i (record { 0 = 0 })).0 ≡ Some k → k < length n.tasks.task → is_free_such which n.tasks k ≡ true → is_in_line new k ≡ true)
    → HasEnlisted which n first new vertices (i + 1)
enlisted_more which n first old new vertices i low has kept free there =
    record {
      kept = λ u was. kept u (has.kept u was);
      free = λ u now. elim (free u now) [
        | inl was ↦ elim (has.free u was) [
          | inl first ↦ inl first
          | inr both ↦
              let among = both.0 in
              let below = among.below in
              inr (record { index = among.index; below = omega arith; here = among.here }, both.1)
        ]
        | inr both ↦
            inr (record { index = i; below = omega arith; here = λ d. ap (λ (w : Vertex). place_at n.local w.0) (sym (one d)) ∙ both.0 }, both.1)
      ];
      each = λ j k d below placed inside is. elim (cases_eq j i) [
        | inl same ↦ there k (ap (λ (w : Vertex). place_at n.local w.0) (one d ∙ sym (ap (λ (m : ℕ). get_or vertices m d) same)) ∙ placed) inside is
        | inr other ↦ kept k (has.each j k d (omega arith) placed inside is)
      ];
    }
  where
    one : (d : Vertex) → get_or vertices i (record { 0 = 0 }) ≡ get_or vertices i d
    one d = sym (get_or_default vertices i d (record { 0 = 0 }) low)

pub enlisted_none : (which : Which) (n : Numbers) (lines : LinesView) (vertices : List Vertex) → HasEnlisted which n lines lines vertices 0
enlisted_none which n lines vertices = record { kept = λ u was. was; free = λ u now. inl now; each = λ i k d below placed inside is. absurd (omega arith) }

-- one vertex, at its place
pub one_kept : (which : Which) (t : TasksView) (p : ℕ) (old new : LinesView) → ((u : ℕ) → is_in_line new u ≡ ((u == p && is_free_such which t u) || is_in_line old u)) → (u : ℕ) → is_in_line old u ≡ true → is_in_line new u ≡ true
one_kept which t p old new is u was = is u ∙ ap (λ (b : Bool). (u == p && is_free_such which t u) || b) was ∙ or-true (u == p && is_free_such which t u)

pub one_due : (which : Which) (t : TasksView) (p : ℕ) (place : Option ℕ) (old new : LinesView) → place ≡ Some p → ((u : ℕ) → is_in_line new u ≡ ((u == p && is_free_such which t u) || is_in_line old u))
    → (u : ℕ) → is_in_line new u ≡ true → (is_in_line old u ≡ true) ⊎ ((place ≡ Some u) × (is_free_such which t u ≡ true))
one_due which t p place old new at is u now = elim (or_cases (u == p && is_free_such which t u) (is_in_line old u) (sym (is u) ∙ now)) [
  | inl both ↦
      let parts = and_parts (u == p) (is_free_such which t u) both in
      inr (at ∙ ap Some (sym (eqb-true u p parts.0)), parts.1)
  | inr was ↦ inl was
]

pub one_there : (which : Which) (t : TasksView) (p : ℕ) (place : Option ℕ) (old new : LinesView) → place ≡ Some p → ((u : ℕ) → is_in_line new u ≡ ((u == p && is_free_such which t u) || is_in_line old u))
    → (k : ℕ) → place ≡ Some k → is_free_such which t k ≡ true → is_in_line new k ≡ true
one_there which t p place old new at is k placed due =
    let same : k ≡ p = some_is k p (sym placed ∙ at) in
    is k ∙ ap (λ (b : Bool). (b && is_free_such which t k) || is_in_line old k) (eq-eqb k p same) ∙ ap (λ (b : Bool). b || is_in_line old k) due
  where
    some_is : (a b : ℕ) → Some a ≡ Some b → a ≡ b
    some_is a b e = cc
