-- The first of the pending vertices that wait comes to stand in line.
use Rattle.std.proofs.Common.{◌≡◌, ℕ, ◌<◌, ◌==◌, ◌&&◌, ◌||◌, Bool, true, false, true≢false, None, Some, List, [], ◌∷◌, length, refl, sym, ap, ◌∙◌, inl, inr}
use Rattle.std.specs.Prelude.{slice_get}
use Rattle.std.specs.List.{list_any}
use Rattle.std.proofs.lemmas.Bool.{and_parts, eq-eqb, or_cases}
use Rattle.gl_base.specs.declared.numbers.Vertex.{Vertex}
use Rattle.task_sets.specs.task_sched.Tasks.{IsPicked, is_free}
use Rattle.machine_core.specs.color_parts.Enlisting.{is_free_such}
use Rattle.machine_core.specs.declared.color_parts.enlisting.Which.TheVariants.{Pending}
use Rattle.machine_core.proofs.color_parts.EnlistLemmas.{one_kept}
use Rattle.machine_core.specs.color_parts.Parts.{LinesView, TasksView, is_in_line}
use Rattle.snapshot_machines.specs.chromatic.Inner.Keeping.{HasDueInLine, HasFirstInLine}

-- the first of the list is one of it
first_named : (vs : List Vertex) (v : Vertex) → slice_get vs 0 ≡ Some v → list_any (λ (w : Vertex). w.0 == v.0) vs ≡ true
first_named [] v first = absurd (none_some first)
  where
    none_some : None ≡ Some v → ⊥
    none_some e = cc
first_named (w ∷ vs) v first = ap (λ (b : Bool). b || list_any (λ (x : Vertex). x.0 == v.0) vs) (eq-eqb w.0 v.0 (ap (λ (x : Vertex). x.0) (some_is w v first)))
  where
    some_is : (a b : Vertex) → Some a ≡ Some b → a ≡ b
    some_is a b e = cc

first_due : (t : TasksView) (old new : LinesView) (v : Vertex) (b : Bool) → IsPicked t b v → v.0 < length t.task → ((u : ℕ) → list_any (λ (w : Vertex). w.0 == u) t.asked ≡ is_free t.pending t.admitted u)
    → ((u : ℕ) → is_in_line new u ≡ ((u == v.0 && is_free_such Pending t u) || is_in_line old u)) → (u : ℕ) → is_free_such Pending t u ≡ true → HasDueInLine t new
first_due t old new v true picked low asked is u due =
    let here : is_free_such Pending t v.0 ≡ true = sym (asked v.0) ∙ first_named t.asked v picked in
    record {
      place = v.0;
      within = low;
      due = here;
      stands = is v.0 ∙ ap (λ (b : Bool). (b && is_free_such Pending t v.0) || is_in_line old v.0) (eq-eqb v.0 v.0 refl) ∙ ap (λ (b : Bool). b || is_in_line old v.0) here;
    }
first_due t old new v false picked low asked is u due =
    absurd (true≢false (sym (asked u ∙ due) ∙ ap (λ (vs : List Vertex). list_any (λ (w : Vertex). w.0 == u) vs) picked.0))

pub first_in_line : (t : TasksView) (old new : LinesView) (v : Vertex) (b : Bool) → IsPicked t b v → v.0 < length t.task → ((u : ℕ) → list_any (λ (w : Vertex). w.0 == u) t.asked ≡ is_free t.pending t.admitted u)
    → ((u : ℕ) → is_in_line new u ≡ ((u == v.0 && is_free_such Pending t u) || is_in_line old u)) → new.colours ≡ old.colours → HasFirstInLine t old new
first_in_line t old new v b picked low asked is colours =
    record {
      colours = colours;
      kept = one_kept Pending t v.0 old new is;
      due = λ u now. elim (or_cases (u == v.0 && is_free_such Pending t u) (is_in_line old u) (sym (is u) ∙ now)) [ inl both ↦ inr (and_parts (u == v.0) (is_free_such Pending t u) both).1 | inr was ↦ inl was ];
      first = first_due t old new v b picked low asked is;
    }

-- where nobody is picked no pending vertex waits
pub none_in_line : (t : TasksView) (lines : LinesView) → t.asked ≡ [] → ((u : ℕ) → list_any (λ (w : Vertex). w.0 == u) t.asked ≡ is_free t.pending t.admitted u) → HasFirstInLine t lines lines
none_in_line t lines none asked =
    record {
      colours = refl;
      kept = λ u was. was;
      due = λ u now. inl now;
      first = λ u due. absurd (true≢false (sym (asked u ∙ due) ∙ ap (λ (vs : List Vertex). list_any (λ (w : Vertex). w.0 == u) vs) none));
    }
