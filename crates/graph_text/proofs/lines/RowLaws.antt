-- The row of a line, byte by byte, is that of its fields.
use Rattle.std.proofs.Common.{◌≡◌, ℕ, ◌+◌, ◌-◌, ◌*◌, ◌==◌, ◌&&◌, not, Bool, true, false, min, List, [], ◌∷◌, fold, refl, ◌∙◌, ap, cond, arith, Option, None, Some}
use Rattle.std.specs.List.{list_all}
use Rattle.std.specs.Char.{is_ascii_digit}
use Rattle.std.proofs.lemmas.Bool.{eqb-true}
use Rattle.gl_base.specs.declared.limits.TheConstants.{INF}
use Rattle.graph_text.specs.declared.lines.said.Row.TheVariants.{Nothing, Three}
use Rattle.graph_text.specs.lines.Lines.{is_empty, is_comment}
use Rattle.graph_text.specs.lines.Rows.{field_number, weight_number, whole_part, is_whole, are_zeros, row_third, row_second, row_of}
use Rattle.graph_text.specs.lines.Inner.Steps.{grown, number_more, digits, point, zeros, weight_more, weight_end}
use Rattle.graph_text.proofs.lines.FieldRows.{field_folded, weight_folded, third_folded, second_folded, row_folded}

no_number : (f : List ℕ) → fold number_more None f ≡ None
no_number [] = refl
no_number (b ∷ f) = no_number f

capped : (v x : ℕ) → min (min v INF * 10 + x) INF ≡ min (v * 10 + x) INF
capped v x = omega arith

number_from : (v : ℕ) (f : List ℕ)
    → fold number_more (Some (min v INF)) f ≡ cond (list_all is_ascii_digit f) (Some (min (fold (λ n digit. n * 10 + (digit - 48)) v f) INF)) None
number_from v [] = refl
number_from v (b ∷ f) =
    elim (is_ascii_digit b)
    as (λ t. fold number_more (cond t (Some (grown (min v INF) (b - 48))) None) f
    ≡ cond (t && list_all is_ascii_digit f) (Some (min (fold (λ n digit. n * 10 + (digit - 48)) (v * 10 + (b - 48)) f) INF)) None)
    [ true ↦ ap (λ n. fold number_more (Some n) f) (capped v (b - 48)) ∙ number_from (v * 10 + (b - 48)) f | false ↦ no_number f ]

number_value : (f : List ℕ) → field_folded f ≡ field_number f
number_value f = number_from 0 f

-- a weight, up to its point and behind it
dead : (f : List ℕ) → (weight_end (fold weight_more (digits None) f) ≡ None) × (weight_end (fold weight_more (point None) f) ≡ None) × (weight_end (fold weight_more (zeros None) f) ≡ None)
dead [] = (refl, refl, refl)
dead (b ∷ f) =
    let h = dead f in (
      elim (b == 46) as (λ t. weight_end (fold weight_more (cond t (point None) (digits None)) f) ≡ None) [ true ↦ h.1 | false ↦ h.0 ],
      elim (b == 48) as (λ t. weight_end (fold weight_more (cond t (zeros None) (digits None)) f) ≡ None) [ true ↦ h.2 | false ↦ h.0 ],
      elim (b == 48) as (λ t. weight_end (fold weight_more (cond t (zeros None) (digits None)) f) ≡ None) [ true ↦ h.2 | false ↦ h.0 ],
    )

behind_zeros : (n : Option ℕ) (f : List ℕ) → weight_end (fold weight_more (zeros n) f) ≡ cond (list_all (λ byte. byte == 48) f) n None
behind_zeros n [] = refl
behind_zeros n (b ∷ f) =
    elim (b == 48) as (λ t. weight_end (fold weight_more (cond t (zeros n) (digits None)) f) ≡ cond (t && list_all (λ byte. byte == 48) f) n None)
    [ true ↦ behind_zeros n f | false ↦ (dead f).0 ]

behind_point : (n : Option ℕ) (f : List ℕ) → weight_end (fold weight_more (point n) f) ≡ cond (are_zeros f) n None
behind_point n [] = refl
behind_point n (b ∷ f) =
    elim (b == 48) as (λ t. weight_end (fold weight_more (cond t (zeros n) (digits None)) f) ≡ cond (t && list_all (λ byte. byte == 48) f) n None)
    [ true ↦ behind_zeros n f | false ↦ (dead f).0 ]

weight_from : (n : Option ℕ) (f : List ℕ) → weight_end (fold weight_more (digits n) f) ≡ cond (is_whole f) (fold number_more n (whole_part f)) None
weight_from n [] = refl
weight_from n (b ∷ f) =
    elim (b == 46)
    as (λ t. weight_end (fold weight_more (cond t (point n) (digits (number_more n b))) f) ≡ cond (cond t (are_zeros f) (is_whole f)) (fold number_more n (cond t [] (b ∷ whole_part f))) None)
    [ true ↦ behind_point n f | false ↦ weight_from (number_more n b) f ]

-- a field that begins with a point has no number
point_first : (b : ℕ) → (b == 46) ≡ true → number_more (Some 0) b ≡ None
point_first b same = let e : b ≡ 46 = eqb-true b 46 same in ap (number_more (Some 0)) e

either_way : (t : Bool) (n : Option ℕ) → cond t n n ≡ n
either_way true n = refl
either_way false n = refl

weight_begun : (b : ℕ) (f : List ℕ) (t : Bool) → (b == 46) ≡ t
    → cond (is_whole f) (fold number_more (number_more (Some 0) b) (whole_part f)) None
    ≡ cond (not (is_empty (cond t [] (b ∷ whole_part f))) && cond t (are_zeros f) (is_whole f)) (field_number (cond t [] (b ∷ whole_part f))) None
weight_begun b f true same =
    ap (λ n. cond (is_whole f) (fold number_more n (whole_part f)) None) (point_first b same)
    ∙ ap (λ n. cond (is_whole f) n None) (no_number (whole_part f)) ∙ either_way (is_whole f) None
weight_begun b f false same = ap (λ n. cond (is_whole f) n None) (number_value (b ∷ whole_part f))

weight_value : (f : List ℕ) → weight_folded f ≡ weight_number f
weight_value [] = refl
weight_value (b ∷ f) = weight_from (number_more (Some 0) b) f ∙ weight_begun b f (b == 46) refl

third_same : (from to : Option ℕ) (fs : List (List ℕ)) → third_folded from to fs ≡ row_third from to fs
third_same from to [] = refl
third_same from to (h ∷ fs) = ap (Three from to) (weight_value h)

second_same : (from : Option ℕ) (fs : List (List ℕ)) → second_folded from fs ≡ row_second from fs
second_same from [] = refl
second_same from (g ∷ fs) = ap (λ n. third_folded from n fs) (number_value g) ∙ third_same from (field_number g) fs

-- the row of a line
pub row_same : (fs : List (List ℕ)) → row_folded fs ≡ row_of fs
row_same [] = refl
row_same (f ∷ fs) = ap (cond (is_comment f) Nothing) (ap (λ n. second_folded n fs) (number_value f) ∙ second_same (field_number f) fs)
