-- A line that is read byte by byte gives the row of its fields.
use Rattle.std.proofs.Common.{◌≡◌, ℕ, ◌==◌, ◌&&◌, Bool, true, false, List, [], ◌∷◌, ◌++◌, fold, refl, sym, ◌∙◌, ap, cond, Option, None, Some}
use Rattle.std.proofs.lemmas.Bool.{eqb-true}
use Rattle.std.proofs.lemmas.List.Sums.{fold-append}
use Rattle.graph_text.specs.declared.lines.said.Row.TheVariants.{Nothing, One, Three}
use Rattle.graph_text.specs.lines.Lines.{is_blank, with_field, fields_after, without_cr, fields}
use Rattle.graph_text.specs.lines.Inner.Steps.{number_more, digits, weight_more, Seen, begin, comment, first, behind_first, second, behind_second, third, behind_third, seen_more, row_seen, line_more, row_begun, nothing_begun}
use Rattle.graph_text.specs.lines.Rows.{row_of}
use Rattle.graph_text.proofs.lines.FieldRows.{field_folded, weight_folded, row_folded, second_folded, third_folded}
use Rattle.graph_text.proofs.lines.RowLaws.{row_same}

-- a CR is left out where it is the last byte
without_last_cr : (s : Seen) (l : List ℕ) → row_begun (fold line_more (record { seen = s; before_cr = None }) l) ≡ row_seen (fold seen_more s (without_cr l))
without_last_cr s [] = refl
without_last_cr s (b ∷ []) =
    elim (b == 13) as (λ t. row_begun (record { seen = seen_more s b; before_cr = cond t (Some s) None }) ≡ row_seen (fold seen_more s (cond (t && true) [] (b ∷ []))))
    [ true ↦ refl | false ↦ refl ]
without_last_cr s (b ∷ c ∷ l) =
    without_last_cr (seen_more s b) (c ∷ l)
    ∙ (elim (b == 13) as (λ t. row_seen (fold seen_more (seen_more s b) (without_cr (c ∷ l))) ≡ row_seen (fold seen_more s (cond (t && false) [] (b ∷ without_cr (c ∷ l)))))
    [ true ↦ refl | false ↦ refl ])

number_grows : (f : List ℕ) (c : ℕ) → number_more (field_folded f) c ≡ field_folded (f ++ c ∷ [])
number_grows f c = sym (fold-append number_more (Some 0) f (c ∷ []))

commented : (l : List ℕ) → row_seen (fold seen_more comment l) ≡ Nothing
commented [] = refl
commented (c ∷ l) = commented l

comment_fields : (f l : List ℕ) → row_folded (fields_after (35 ∷ f) l) ≡ Nothing
comment_fields f [] = refl
comment_fields f (c ∷ l) =
    elim (is_blank c) as (λ t. row_folded (cond t (with_field (35 ∷ f) (fields_after [] l)) (fields_after ((35 ∷ f) ++ c ∷ []) l)) ≡ Nothing)
    [ true ↦ refl | false ↦ comment_fields (f ++ c ∷ []) l ]

behind_all : (m n w : Option ℕ) (l : List ℕ) → row_seen (fold seen_more (behind_third m n w) l) ≡ Three m n w
behind_all m n w [] = refl
behind_all m n w (c ∷ l) = behind_all m n w l

in_third : (m n : Option ℕ) (b : ℕ) (f l : List ℕ) → row_seen (fold seen_more (third m n (fold weight_more (digits (number_more (Some 0) b)) f)) l) ≡ third_folded m n (fields_after (b ∷ f) l)
in_third m n b f [] = refl
in_third m n b f (c ∷ l) =
    elim (is_blank c)
    as (λ t. row_seen (fold seen_more (cond t (behind_third m n (weight_folded (b ∷ f))) (third m n (weight_more (fold weight_more (digits (number_more (Some 0) b)) f) c))) l)
    ≡ third_folded m n (cond t (with_field (b ∷ f) (fields_after [] l)) (fields_after ((b ∷ f) ++ c ∷ []) l))) [
      | true ↦ behind_all m n (weight_folded (b ∷ f)) l
      | false ↦ ap (λ w. row_seen (fold seen_more (third m n w) l)) (sym (fold-append weight_more (digits (number_more (Some 0) b)) f (c ∷ []))) ∙ in_third m n b (f ++ c ∷ []) l
    ]

behind_two : (m n : Option ℕ) (l : List ℕ) → row_seen (fold seen_more (behind_second m n) l) ≡ third_folded m n (fields_after [] l)
behind_two m n [] = refl
behind_two m n (c ∷ l) =
    elim (is_blank c)
    as (λ t. row_seen (fold seen_more (cond t (behind_second m n) (third m n (digits (number_more (Some 0) c)))) l)
    ≡ third_folded m n (cond t (fields_after [] l) (fields_after (c ∷ []) l)))
    [ true ↦ behind_two m n l | false ↦ in_third m n c [] l ]

in_second : (m : Option ℕ) (b : ℕ) (f l : List ℕ) → row_seen (fold seen_more (second m (field_folded (b ∷ f))) l) ≡ second_folded m (fields_after (b ∷ f) l)
in_second m b f [] = refl
in_second m b f (c ∷ l) =
    elim (is_blank c)
    as (λ t. row_seen (fold seen_more (cond t (behind_second m (field_folded (b ∷ f))) (second m (number_more (field_folded (b ∷ f)) c))) l)
    ≡ second_folded m (cond t (with_field (b ∷ f) (fields_after [] l)) (fields_after ((b ∷ f) ++ c ∷ []) l))) [
      | true ↦ behind_two m (field_folded (b ∷ f)) l
      | false ↦ ap (λ n. row_seen (fold seen_more (second m n) l)) (number_grows (b ∷ f) c) ∙ in_second m b (f ++ c ∷ []) l
    ]

behind_one : (m : Option ℕ) (l : List ℕ) → row_seen (fold seen_more (behind_first m) l) ≡ second_folded m (fields_after [] l)
behind_one m [] = refl
behind_one m (c ∷ l) =
    elim (is_blank c)
    as (λ t. row_seen (fold seen_more (cond t (behind_first m) (second m (number_more (Some 0) c))) l)
    ≡ second_folded m (cond t (fields_after [] l) (fields_after (c ∷ []) l)))
    [ true ↦ behind_one m l | false ↦ in_second m c [] l ]

in_first : (b : ℕ) (f l : List ℕ) → (b == 35) ≡ false → row_seen (fold seen_more (first (field_folded (b ∷ f))) l) ≡ row_folded (fields_after (b ∷ f) l)
in_first b f [] apart = ap (λ t. cond t Nothing (One (field_folded (b ∷ f)))) (sym apart)
in_first b f (c ∷ l) apart =
    elim (is_blank c)
    as (λ t. row_seen (fold seen_more (cond t (behind_first (field_folded (b ∷ f))) (first (number_more (field_folded (b ∷ f)) c))) l)
    ≡ row_folded (cond t (with_field (b ∷ f) (fields_after [] l)) (fields_after ((b ∷ f) ++ c ∷ []) l))) [
      | true ↦ behind_one (field_folded (b ∷ f)) l ∙ ap (λ t. cond t Nothing (second_folded (field_folded (b ∷ f)) (fields_after [] l))) (sym apart)
      | false ↦ ap (λ n. row_seen (fold seen_more (first n) l)) (number_grows (b ∷ f) c) ∙ in_first b (f ++ c ∷ []) l apart
    ]

at_comment : (c : ℕ) (l : List ℕ) → (c == 35) ≡ true → row_folded (fields_after (c ∷ []) l) ≡ Nothing
at_comment c l same = let e : c ≡ 35 = eqb-true c 35 same in ap (λ x. row_folded (fields_after (x ∷ []) l)) e ∙ comment_fields [] l

at_field : (c : ℕ) (l : List ℕ) (t : Bool) → (c == 35) ≡ t → row_seen (fold seen_more (cond t comment (first (number_more (Some 0) c))) l) ≡ row_folded (fields_after (c ∷ []) l)
at_field c l true is = commented l ∙ sym (at_comment c l is)
at_field c l false is = in_first c [] l is

at_begin : (l : List ℕ) → row_seen (fold seen_more begin l) ≡ row_folded (fields_after [] l)
at_begin [] = refl
at_begin (c ∷ l) =
    elim (is_blank c)
    as (λ t. row_seen (fold seen_more (cond t begin (cond (c == 35) comment (first (number_more (Some 0) c)))) l)
    ≡ row_folded (cond t (fields_after [] l) (fields_after (c ∷ []) l)))
    [ true ↦ at_begin l | false ↦ at_field c l (c == 35) refl ]

-- the row of a line is that of its fields
pub row_read : (l : List ℕ) → row_begun (fold line_more nothing_begun l) ≡ row_of (fields l)
row_read l = without_last_cr begin l ∙ at_begin (without_cr l) ∙ row_same (fields l)
