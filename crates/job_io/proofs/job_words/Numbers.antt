-- Numbers that are cut off at the greatest `u64`.
use Rattle.std.proofs.Common.{◌≡◌, ◌∙◌, ◌<◌, ◌==◌, ◌&&◌, ◌^◌, ℕ, Bool, true, false, List, length, min, not, Result, Ok, Err, arith, inl, inr, rules, refl, ap, sym, cond, zero, suc, true≢false}
use Rattle.std.specs.Char.{is_ascii_digit}
use Rattle.std.specs.List.{list_all}
use Rattle.std.specs.Result.{OkIff, result_unwrap_or}
use Rattle.std.specs.Str.Parse.{ParsesUnsigned, digits_value}
use Rattle.std.proofs.lemmas.Bool.{cases_lt}
use Rattle.std.proofs.lemmas.Str.Parse.{IsDigitsTest, numerals_by_value, parse_digits}
use Rattle.job_io.specs.job_words.Meanings.{is_number, option_number}
use Rattle.gl_base.specs.declared.usage_faults.Opt.{Opt}
use Rattle.gl_base.specs.declared.usage_faults.UsageFault.TheVariants.{Number}

digits : IsDigitsTest (λ ds. list_all is_ascii_digit ds ≡ true)
digits = search rules

both : (a b : Bool) → (a && b) ≡ true → (a ≡ true) × (b ≡ true)
both true b e = (refl, e)
both false b e = absurd (true≢false (sym e))

positive : (n : ℕ) → not (n == 0) ≡ true → 0 < n
positive zero e = absurd (true≢false (sym e))
positive (suc n) e = omega arith

-- a number that parses, and else the greatest
pub cut_off : {E : Type 0} (r : Result ℕ E) (v n : ℕ) → OkIff r ((0 < n) × (v < 2 ^ 64)) v → 0 < n → result_unwrap_or r 18446744073709551615 ≡ min v 18446744073709551615
cut_off (Ok x) v n h some = omega (arith, h.0.1, h.1)
cut_off (Err e) v n h some = elim (cases_lt v (2 ^ 64)) [
  | inl small ↦ absurd (h (some, small))
  | inr great ↦ omega arith
]

pub parsed : {E : Type 0} (text : List ℕ) (r : Result ℕ E) → ParsesUnsigned 64 10 text r → is_number text ≡ true
    → result_unwrap_or r 18446744073709551615 ≡ min (digits_value 10 text) 18446744073709551615
parsed text r h number =
    let parts = both (not (length text == 0)) (list_all is_ascii_digit text) number in
    cut_off r (digits_value 10 text) (length text) (parse_digits (numerals_by_value (λ ds. list_all is_ascii_digit ds ≡ true) digits) 64 text r h parts.1) (positive (length text) parts.0)

pub number_is : (o : Opt) (text : List ℕ) (v : ℕ) → is_number text ≡ true → v ≡ min (digits_value 10 text) 18446744073709551615 → Ok v ≡ option_number o text
number_is o text v number e = ap Ok e ∙ sym (ap (λ b. cond b (Ok (min (digits_value 10 text) 18446744073709551615)) (Err (Number o))) number)
