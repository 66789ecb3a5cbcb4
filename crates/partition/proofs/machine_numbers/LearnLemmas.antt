-- Numbers of edges that are told, one after another.
use Rattle.std.proofs.Common.{◌≡◌, ℕ, ◌+◌, ◌<◌, ◌≤◌, ◌==◌, if◌then◌else◌, Some, List, ◌∷◌, length, get_or, drop, refl, sym, ap, ◌∙◌, arith, inl, inr}
use Rattle.std.proofs.lemmas.Bool.{cases_eq, eq-eqb, ne_eqb}
use Rattle.std.proofs.lemmas.List.{drop_more, drop_all}
use Rattle.gl_base.specs.declared.numbers.EdgeNo.{EdgeNo}
use Rattle.partition.specs.machine_numbers.Views.{LocalView, HasEdge, edge_number_at, number_told}
use Rattle.partition.specs.machine_numbers.Steps.{edge_after}

-- what is told from place i on is written
pub record AreLearned (old now : LocalView) (edges : List (EdgeNo × ℕ)) (i : ℕ) : Type 0 where
  pub inside : i ≤ length edges
  pub each : (e : ℕ) → edge_number_at now e ≡ edge_after (number_told (drop i edges) e) (edge_number_at old e)
  pub held : (e : ℕ) → HasEdge old e → HasEdge now e
  pub many : length now.numbers ≡ length old.numbers
  pub rest : now ≡ record old { numbers = now.numbers }

pub learned_none : (old : LocalView) (edges : List (EdgeNo × ℕ)) (i : ℕ) → i ≡ length edges → AreLearned old old edges i
learned_none old edges i all =
    record {
      inside = omega arith;
      each = λ e. sym (ap (λ (es : List (EdgeNo × ℕ)). edge_after (number_told es e) (edge_number_at old e)) (drop_all i edges (omega arith)));
      held = λ e has. has;
      many = refl;
      rest = refl;
    }

pub learned_more : (old now new : LocalView) (edges : List (EdgeNo × ℕ)) (i : ℕ) (d : EdgeNo × ℕ) → i < length edges → d ≡ get_or edges i d → AreLearned old now edges (i + 1)
    → ((e : ℕ) → edge_number_at new e ≡ (if e == d.0.0 then d.1 else edge_number_at now e)) → ((e : ℕ) → HasEdge now e → HasEdge new e) → length new.numbers ≡ length now.numbers → new ≡ record now { numbers = new.numbers }
    → AreLearned old new edges i
learned_more old now new edges i d inside is_d are each held many rest =
    record {
      inside = omega arith;
      each = λ e.
          let later = number_told (drop (i + 1) edges) e in
          let was = edge_number_at old e in
          let unfolds : edge_after (number_told (drop i edges) e) was ≡ edge_after (if e == d.0.0 then Some d.1 else later) was =
          ap (λ (es : List (EdgeNo × ℕ)). edge_after (number_told es e) was) (drop_more edges i d inside ∙ ap (λ (x : EdgeNo × ℕ). x ∷ drop (i + 1) edges) (sym is_d)) in
          elim (cases_eq e d.0.0) [
            | inl same ↦
                each e ∙ ap (λ b. if b then d.1 else edge_number_at now e) (eq-eqb e d.0.0 same)
                ∙ sym (unfolds ∙ ap (λ b. edge_after (if b then Some d.1 else later) was) (eq-eqb e d.0.0 same))
            | inr other ↦
                each e ∙ ap (λ b. if b then d.1 else edge_number_at now e) (ne_eqb e d.0.0 other) ∙ are.each e
                ∙ sym (unfolds ∙ ap (λ b. edge_after (if b then Some d.1 else later) was) (ne_eqb e d.0.0 other))
          ];
      held = λ e has. held e (are.held e has);
      many = many ∙ are.many;
      rest = rest ∙ ap (λ (l : LocalView). record l { numbers = new.numbers }) are.rest;
    }
