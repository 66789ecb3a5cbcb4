-- Made texts, line by line and field by field.
use Rattle.std.proofs.Common.{◌≡◌, ◌≢◌, ℕ, ◌+◌, ◌-◌, ◌*◌, ◌^◌, ◌<◌, ◌≤◌, ◌==◌, ◌&&◌, not, true, false, nat_le, min, List, [], ◌∷◌, ◌++◌, length, fold, decimal, refl, sym, ap, ◌∙◌, cond, arith, append_assoc, append-nil, None, Some}
use Rattle.std.specs.List.{list_all}
use Rattle.std.specs.Char.{is_ascii_digit, digit_value}
use Rattle.std.specs.Str.Parse.{AllDigits, digits_value_after}
use Rattle.std.proofs.lemmas.Fmt.{decimal_is_IsNumeral}
use Rattle.std.proofs.lemmas.Str.Parse.{digit_from_value}
use Rattle.std.proofs.lemmas.Str.{digit_value_digit}
use Rattle.std.proofs.lemmas.Bool.Decides.{nat_tests}
use Rattle.gl_base.specs.declared.limits.TheConstants.{INF, MAX_ID}
use Rattle.gl_base.specs.declared.text_faults.TextKind.TheVariants.{TooLarge}
use Rattle.graph_text.specs.declared.lines.said.Row.TheVariants.{Nothing, One}
use Rattle.graph_text.specs.declared.lines.said.Said.TheVariants.{Wrong, Item}
use Rattle.graph_text.specs.lines.Lines.{is_empty, is_blank, is_comment, lines, lines_after, without_cr, with_field, fields, fields_after}
use Rattle.graph_text.specs.lines.Rows.{value, field_number, weight_number, whole_part, is_whole, are_zeros, row_of}
use Rattle.graph_text.specs.lines.Says.{id_said, vertex_said}

-- bytes that are digits
abbrev pub Digits : List ℕ → Type 0
Digits [] = Unit {0}
Digits (b ∷ f) = ((48 ≤ b) × (b ≤ 57)) × Digits f

-- bytes of a line that ends in LF alone
abbrev pub InLine : List ℕ → Type 0
InLine [] = Unit {0}
InLine (b ∷ f) = ((b ≢ 10) × (b ≢ 13)) × InLine f

digits_from : (f : List ℕ) → AllDigits 10 f → Digits f
digits_from [] d = tt
digits_from (c ∷ cs) d = let k = digit_from_value c d.0 in ((omega (arith, k), omega (arith, k)), digits_from cs d.1)

pub decimal_digits : (n : ℕ) → n < 2 ^ 64 → Digits (decimal n)
decimal_digits n small = digits_from (decimal n) (decimal_is_IsNumeral n small).0.1

pub Digits-InLine : (f : List ℕ) → Digits f → InLine f
Digits-InLine [] d = tt
Digits-InLine (b ∷ f) d = ((omega (arith, d.0.0), omega (arith, d.0.0)), Digits-InLine f d.1)

digit_test : (b : ℕ) → 48 ≤ b → b ≤ 57 → is_ascii_digit b ≡ true
digit_test b low high = grind (arith, nat_tests)

pub Digits-all : (f : List ℕ) → Digits f → list_all is_ascii_digit f ≡ true
Digits-all [] d = refl
Digits-all (b ∷ f) d = ap (λ t. t && list_all is_ascii_digit f) (digit_test b d.0.0 d.0.1) ∙ Digits-all f d.1

value_after : (v : ℕ) (f : List ℕ) → Digits f → fold (λ n digit. n * 10 + (digit - 48)) v f ≡ digits_value_after 10 v f
value_after v [] d = refl
value_after v (b ∷ f) d =
    let is = digit_value_digit b (d.0.0, d.0.1) in
    let digit : b - 48 ≡ digit_value b = omega (arith, is) in
    ap (λ x. fold (λ n digit. n * 10 + (digit - 48)) (v * 10 + x) f) digit ∙ value_after (v * 10 + digit_value b) f d.1

pub decimal_value : (n : ℕ) → n < 2 ^ 64 → value (decimal n) ≡ n
decimal_value n small = value_after 0 (decimal n) (decimal_digits n small) ∙ (decimal_is_IsNumeral n small).1

pub Digits-comment : (f : List ℕ) → Digits f → is_comment f ≡ false
Digits-comment [] d = refl
Digits-comment (b ∷ f) d = apart b d.0.0
  where
    apart : (b : ℕ) → 48 ≤ b → (b == 35) ≡ false
    apart b low = grind (arith, nat_tests)

pub apart_test : (b k : ℕ) → b ≢ k → (b == k) ≡ false
apart_test b k ne = grind (arith, nat_tests)

-- a line that ends in LF is the first line
pub lines-next : (begun f rest : List ℕ) → InLine f → lines_after true begun (f ++ 10 ∷ rest) ≡ (begun ++ f) ∷ lines rest
lines-next begun [] rest l = ap (λ (xs : List ℕ). xs ∷ lines rest) (sym (append-nil begun))
lines-next begun (b ∷ f) rest l =
    ap (λ t. cond t (begun ∷ lines_after true [] (f ++ 10 ∷ rest)) (lines_after true (begun ++ b ∷ []) (f ++ 10 ∷ rest))) (apart_test b 10 l.0.0)
    ∙ lines-next (begun ++ b ∷ []) f rest l.1
    ∙ ap (λ (xs : List ℕ). xs ∷ lines rest) (append_assoc begun (b ∷ []) f)

pub without_cr-same : (f : List ℕ) → InLine f → without_cr f ≡ f
without_cr-same [] l = refl
without_cr-same (b ∷ f) l =
    ap (λ t. cond (t && is_empty f) [] (b ∷ without_cr f)) (apart_test b 13 l.0.1) ∙ ap (λ (xs : List ℕ). b ∷ xs) (without_cr-same f l.1)

blank_test : (b : ℕ) → 48 ≤ b → is_blank b ≡ false
blank_test b low = grind (arith, nat_tests)

-- digits are a field, up to a blank or the end of the line
pub fields-last : (begun f : List ℕ) → Digits f → fields_after begun f ≡ with_field (begun ++ f) []
fields-last begun [] d = ap (λ (xs : List ℕ). with_field xs []) (sym (append-nil begun))
fields-last begun (b ∷ f) d =
    ap (λ t. cond t (with_field begun (fields_after [] f)) (fields_after (begun ++ b ∷ []) f)) (blank_test b d.0.0)
    ∙ fields-last (begun ++ b ∷ []) f d.1
    ∙ ap (λ (xs : List ℕ). with_field xs []) (append_assoc begun (b ∷ []) f)

pub fields-next : (begun f rest : List ℕ) → Digits f → fields_after begun (f ++ 32 ∷ rest) ≡ with_field (begun ++ f) (fields_after [] rest)
fields-next begun [] rest d = ap (λ (xs : List ℕ). with_field xs (fields_after [] rest)) (sym (append-nil begun))
fields-next begun (b ∷ f) rest d =
    ap (λ t. cond t (with_field begun (fields_after [] (f ++ 32 ∷ rest))) (fields_after (begun ++ b ∷ []) (f ++ 32 ∷ rest))) (blank_test b d.0.0)
    ∙ fields-next (begun ++ b ∷ []) f rest d.1
    ∙ ap (λ (xs : List ℕ). with_field xs (fields_after [] rest)) (append_assoc begun (b ∷ []) f)

some_field : (f : List ℕ) (fs : List (List ℕ)) → 0 < length f → with_field f fs ≡ f ∷ fs
some_field [] fs some = absurd (omega (arith, some))
some_field (b ∷ f) fs some = refl

pub decimal_field : (n : ℕ) (fs : List (List ℕ)) → n < 2 ^ 64 → with_field (decimal n) fs ≡ decimal n ∷ fs
decimal_field n fs small = some_field (decimal n) fs (decimal_is_IsNumeral n small).0.0

pub decimal_number : (n : ℕ) → n ≤ MAX_ID → field_number (decimal n) ≡ Some n
decimal_number n small =
    let wide : n < 2 ^ 64 = omega (arith, small) in
    let f = decimal n in
    let same : min n INF ≡ n = omega (arith, small) in
    ap (λ t. cond t (Some (min (value f) INF)) None) (Digits-all f (decimal_digits n wide)) ∙ ap (λ v. Some (min v INF)) (decimal_value n wide) ∙ ap Some same

pub id_test : (n : ℕ) → n ≤ MAX_ID → nat_le n MAX_ID ≡ true
id_test n small = grind (arith, nat_tests)

pub vertex_line-said : (n : ℕ) → n ≤ MAX_ID → vertex_said (row_of (fields (decimal n))) ≡ Item n
vertex_line-said n small =
    let wide : n < 2 ^ 64 = omega (arith, small) in
    let f = decimal n in
    let d = decimal_digits n wide in
    let split : fields f ≡ f ∷ [] = ap (fields_after []) (without_cr-same f (Digits-InLine f d)) ∙ fields-last [] f d ∙ decimal_field n [] wide in
    ap (λ fs. vertex_said (row_of fs)) split
    ∙ ap (λ t. vertex_said (cond t Nothing (One (field_number f)))) (Digits-comment f d)
    ∙ ap id_said (decimal_number n small)
    ∙ ap (λ t. cond t (Item n) (Wrong TooLarge)) (id_test n small)

pub InLine-append : (f g : List ℕ) → InLine f → InLine g → InLine (f ++ g)
InLine-append [] g p q = q
InLine-append (b ∷ f) g p q = (p.0, InLine-append f g p.1 q)

pub decimal-InLine : (n : ℕ) → n < 2 ^ 64 → InLine (decimal n)
decimal-InLine n small = Digits-InLine (decimal n) (decimal_digits n small)

-- digits are a weight
no_point : (b : ℕ) → 48 ≤ b → (b == 46) ≡ false
no_point b low = grind (arith, nat_tests)

whole_part-digits : (f : List ℕ) → Digits f → whole_part f ≡ f
whole_part-digits [] d = refl
whole_part-digits (b ∷ f) d =
    ap (λ t. cond t [] (b ∷ whole_part f)) (no_point b d.0.0) ∙ ap (λ (xs : List ℕ). b ∷ xs) (whole_part-digits f d.1)

is_whole-digits : (f : List ℕ) → Digits f → is_whole f ≡ true
is_whole-digits [] d = refl
is_whole-digits (b ∷ f) d =
    ap (λ t. cond t (are_zeros f) (is_whole f)) (no_point b d.0.0) ∙ is_whole-digits f d.1

some_whole : (f : List ℕ) → 0 < length f → not (is_empty f) ≡ true
some_whole [] some = absurd (omega (arith, some))
some_whole (b ∷ f) some = refl

pub decimal_weight : (n : ℕ) → n ≤ 4294967295 → weight_number (decimal n) ≡ Some n
decimal_weight n small =
    let wide : n < 2 ^ 64 = omega (arith, small) in
    let f = decimal n in
    let d = decimal_digits n wide in
    ap (λ (g : List ℕ). cond (not (is_empty g) && is_whole f) (field_number g) None) (whole_part-digits f d)
    ∙ ap (λ t. cond (t && is_whole f) (field_number f) None) (some_whole f (decimal_is_IsNumeral n wide).0.0)
    ∙ ap (λ t. cond t (field_number f) None) (is_whole-digits f d)
    ∙ decimal_number n (omega (arith, small))
