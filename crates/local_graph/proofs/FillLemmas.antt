-- Numbers of edges that are copied and written, one after another.
use Rattle.std.proofs.Common.{◌≡◌, ℕ, ◌+◌, ◌<◌, ◌≤◌, ◌==◌, if◌then◌else◌, List, ◌∷◌, length, get_or, slice_index, set, take, drop, refl, sym, ap, ◌∙◌, arith, inl, inr}
use Rattle.std.specs.declared.vec.Vec.{Vec}
use Rattle.std.specs.declared.alloc.Global.{Global}
use Rattle.std.specs.Vec.{vec_capacity, vec_len}
use Rattle.std.proofs.lemmas.Bool.{cases_eq, eq-eqb, ne_eqb}
use Rattle.std.proofs.lemmas.List.{drop_more, drop_all, get_or-set_same, get_or-set_other, length-set}
use Rattle.local_graph.specs.declared.sides.Side.{Side}
use Rattle.local_graph.specs.Locals.{numbers_along, written}

-- the numbers of the first i sides are in the list, which has room for all
pub record AreFilled (filled : Vec ℕ Global) (sides : List Side) (numbers : List ℕ) (i : ℕ) : Type 0 where
  pub items : filled.items ≡ numbers_along (slice_index numbers) (take i sides)
  pub many : vec_len filled ≡ i
  pub room : length sides ≤ vec_capacity filled

-- the numbers of the sides from i on are written
pub record AreWritten (old now : List ℕ) (sides : List Side) (xs : List ℕ) (i : ℕ) : Type 0 where
  pub many : length now ≡ length old
  pub inside : i ≤ length sides
  pub each : (e : ℕ) → slice_index now e ≡ written (drop i sides) (drop i xs) (slice_index old) e

abbrev pub no_side : Side
no_side = record { edge = record { 0 = 0 }; other = record { 0 = 0 }; place = 0; owner = record { 0 = 0 } }

pub written_none : (old : List ℕ) (sides : List Side) (xs : List ℕ) (i : ℕ) → i ≡ length sides → AreWritten old old sides xs i
written_none old sides xs i all =
    record {
      many = refl;
      inside = omega arith;
      each = λ e. sym (ap (λ (ss : List Side). written ss (drop i xs) (slice_index old) e) (drop_all i sides (omega arith)));
    }

pub written_more : (old now : List ℕ) (sides : List Side) (xs : List ℕ) (i : ℕ) (s : Side) (x : ℕ) → i < length sides → length xs ≡ length sides → s ≡ get_or sides i s → x ≡ get_or xs i 0 → s.edge.0 < length old
    → AreWritten old now sides xs (i + 1) → AreWritten old (set now s.edge.0 x) sides xs i
written_more old now sides xs i s x inside same is_s is_x low are =
    let there : i < length xs = omega arith in
    let within : s.edge.0 < length now = omega (arith, are.many) in
    record {
      many = length-set now s.edge.0 x ∙ are.many;
      inside = omega arith;
      each = λ e.
          let unfolds : written (drop i sides) (drop i xs) (slice_index old) e ≡ (if e == s.edge.0 then x else written (drop (i + 1) sides) (drop (i + 1) xs) (slice_index old) e) =
          ap (λ (ss : List Side). written ss (drop i xs) (slice_index old) e) (drop_more sides i s inside ∙ ap (λ (t : Side). t ∷ drop (i + 1) sides) (sym is_s))
          ∙ ap (λ (ys : List ℕ). written (s ∷ drop (i + 1) sides) ys (slice_index old) e) (drop_more xs i 0 there ∙ ap (λ (y : ℕ). y ∷ drop (i + 1) xs) (sym is_x)) in
          elim (cases_eq e s.edge.0) [
            | inl same_edge ↦
                ap (λ (k : ℕ). get_or (set now s.edge.0 x) k 0) same_edge ∙ get_or-set_same now s.edge.0 x 0 within
                ∙ sym (unfolds ∙ ap (λ b. if b then x else written (drop (i + 1) sides) (drop (i + 1) xs) (slice_index old) e) (eq-eqb e s.edge.0 same_edge))
            | inr other ↦
                get_or-set_other now s.edge.0 e x 0 other ∙ are.each e
                ∙ sym (unfolds ∙ ap (λ b. if b then x else written (drop (i + 1) sides) (drop (i + 1) xs) (slice_index old) e) (ne_eqb e s.edge.0 other))
          ];
    }
