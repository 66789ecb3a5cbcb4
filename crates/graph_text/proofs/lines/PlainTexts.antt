-- Plain lines, as the reader of bytes sees them.
use Rattle.std.proofs.Common.{◌≡◌, ℕ, ◌+◌, ◌<◌, ◌≤◌, ◌==◌, Bool, true, false, ◌||◌, List, [], ◌∷◌, ◌++◌, length, take, drop, get_or, fold, refl, sym, ◌∙◌, ap, subst, arith, Option, None, Some, length-take, length-drop, cond, ◌-◌, Result, Ok, Err, append_assoc}
use Rattle.std.specs.List.{list_any}
use Rattle.std.specs.Char.{is_ascii_digit}
use Rattle.std.proofs.Math.Seq.{take-add}
use Rattle.std.proofs.lemmas.List.{append-nil, get_or-drop, take-append-drop, take_all, take_more, length-take-le}
use Rattle.std.proofs.lemmas.List.Folds.{list_any-append}
use Rattle.std.proofs.lemmas.List.Sums.{fold-append}
use Rattle.std.proofs.lemmas.Bool.Decides.{nat_tests}
use Rattle.graph_text.specs.lines.Lines.{is_blank}
use Rattle.graph_text.specs.declared.lines.plain.Number.{Number}
use Rattle.graph_text.specs.declared.lines.plain.PlainLine.{PlainLine}
use Rattle.gl_base.specs.Results.{and_then}
use Rattle.graph_text.specs.declared.lines.fields.Place.TheVariants.{Begin}
use Rattle.graph_text.specs.declared.lines.lines.Lines.{Lines}
use Rattle.graph_text.specs.declared.lines.said.Halt.{Halt}
use Rattle.graph_text.specs.declared.lines.said.Halt.TheVariants.{Stopped, ReadFault, NoMemory}
use Rattle.graph_text.specs.declared.lines.said.Row.{Row}
use Rattle.graph_text.specs.declared.lines.said.Said.{Said}
use Rattle.graph_text.specs.lines.Found.{run, Kept, Found, collect}
use Rattle.graph_text.specs.lines.Inner.Steps.{grown, number_more, Begun, digits, Seen, begin, first, behind_first, second, behind_second, third, seen_more, row_seen, line_more, nothing_begun, row_begun, line_end, byte_step, ReadText}
use Rattle.graph_text.specs.lines.Inner.Texts.{kept_at, read_text, IsBegunAs, LeadsTo, LeadsToText, TakesPlain}
use Rattle.graph_text.proofs.lines.Runs.{run_ends, run_jumps}
use Rattle.graph_text.specs.lines.Inner.PlainLines.{IsNumberAt, IsReadTo, IsLineAt}

-- a digit is no other byte that counts
record IsDigit (b : ℕ) : Type 0 where
  blank : is_blank b ≡ false
  lf : (b == 10) ≡ false
  cr : (b == 13) ≡ false
  point : (b == 46) ≡ false
  comment : (b == 35) ≡ false

digit_is : (b : ℕ) → is_ascii_digit b ≡ true → IsDigit b
digit_is b d = record {
  blank = grind (arith, nat_tests);
  lf = grind (arith, nat_tests);
  cr = grind (arith, nat_tests);
  point = grind (arith, nat_tests);
  comment = grind (arith, nat_tests);
}

-- what is no number stays none
none_stays : (bytes : List ℕ) → fold number_more None bytes ≡ None
none_stays [] = refl
none_stays (b ∷ bytes) = none_stays bytes

digit_if : (t : Bool) (n : ℕ) (bytes : List ℕ) (m : ℕ) → fold number_more (cond t (Some n) None) bytes ≡ Some m → t ≡ true
digit_if true n bytes m is = refl
digit_if false n bytes m is = let e : None ≡ Some m = sym (none_stays bytes) ∙ is in cc

-- a number with one byte more is one where the byte is a digit
more_is : (n : Option ℕ) (b : ℕ) (bytes : List ℕ) (m : ℕ) → fold number_more (number_more n b) bytes ≡ Some m → IsDigit b
more_is None b bytes m is = let e : None ≡ Some m = sym (none_stays bytes) ∙ is in absurd cc
more_is (Some n) b bytes m is = digit_is b (digit_if (is_ascii_digit b) (grown n (b - 48)) bytes m is)

-- digits have no LF
digits_unended : (n : Option ℕ) (bytes : List ℕ) (m : ℕ) → fold number_more n bytes ≡ Some m → list_any (λ b. b == 10) bytes ≡ false
digits_unended n [] m is = refl
digits_unended n (b ∷ bytes) m is = rw (more_is n b bytes m is).lf (digits_unended (number_more n b) bytes m is)

-- a field that digits begin and go on
pub record IsField (s : Seen) (f : Option ℕ → Seen) : Type 0 where
  enters : (b : ℕ) → IsDigit b → seen_more s b ≡ f (number_more (Some 0) b)
  goes_on : (n : Option ℕ) (b : ℕ) → IsDigit b → seen_more (f n) b ≡ f (number_more n b)

abbrev before_lf : Seen → Begun
before_lf s = record { seen = s; before_cr = None }

digit_read : (s t : Seen) (b : ℕ) → IsDigit b → seen_more s b ≡ t → line_more (before_lf s) b ≡ before_lf t
digit_read s t b d is = rw (is, d.cr) refl

digits_read : (s : Seen) (f : Option ℕ → Seen) → IsField s f → (n : Option ℕ) (bytes : List ℕ) (m : ℕ) → fold number_more n bytes ≡ Some m
    → fold line_more (before_lf (f n)) bytes ≡ before_lf (f (Some m))
digits_read s f field n [] m is = ap (λ x. before_lf (f x)) is
digits_read s f field n (b ∷ bytes) m is =
    let d = more_is n b bytes m is in
    ap (λ x. fold line_more x bytes) (digit_read (f n) (f (number_more n b)) b d (field.goes_on n b d)) ∙ digits_read s f field (number_more n b) bytes m is

field_read : (s : Seen) (f : Option ℕ → Seen) → IsField s f → (bytes : List ℕ) (m : ℕ) → 0 < length bytes → fold number_more (Some 0) bytes ≡ Some m
    → fold line_more (before_lf s) bytes ≡ before_lf (f (Some m))
field_read s f field [] m some is = absurd (omega arith)
field_read s f field (b ∷ bytes) m some is =
    let d = more_is (Some 0) b bytes m is in
    ap (λ x. fold line_more x bytes) (digit_read s (f (number_more (Some 0) b)) b d (field.enters b d)) ∙ digits_read s f field (number_more (Some 0) b) bytes m is

pub first_field : IsField begin first
first_field = record {
  enters = λ b d. rw (d.blank, d.comment) refl;
  goes_on = λ n b d. rw d.blank refl;
}

pub second_field : (m : Option ℕ) → IsField (behind_first m) (second m)
second_field m = record {
  enters = λ b d. rw d.blank refl;
  goes_on = λ n b d. rw d.blank refl;
}

pub third_field : (m n : Option ℕ) → IsField (behind_second m n) (λ w. third m n (digits w))
third_field m n = record {
  enters = λ b d. rw d.blank refl;
  goes_on = λ w b d. rw (d.blank, d.point) refl;
}

-- no byte is read
pub begins : (bytes : List ℕ) → IsReadTo bytes 0 begin
begins bytes = record { unended = refl; read = refl }

-- the digits of a field
pub reads_number : (bytes : List ℕ) (at : ℕ) (number : Number) (s : Seen) (f : Option ℕ → Seen) → IsField s f → IsReadTo bytes at s → IsNumberAt bytes at number
    → 0 < number.len → at + number.len ≤ length bytes → IsReadTo bytes (at + number.len) (f (Some number.value))
reads_number bytes at number s f field so is some inside =
    let more = take number.len (drop at bytes) in
    let all : take (at + number.len) bytes ≡ take at bytes ++ more = take-add at number.len bytes in
    let long : 0 < length more = rw (length-take, length-drop) (omega arith) in
    record {
      unended = rw (all, list_any-append (λ b. b == 10) (take at bytes) more, so.unended) (digits_unended (Some 0) more number.value is.number);
      read = rw (all, fold-append line_more nothing_begun (take at bytes) more, so.read) (field_read s f field more number.value long is.number);
    }

-- a blank behind them
pub reads_blank : (bytes : List ℕ) (at : ℕ) (s : Seen) → IsReadTo bytes at s → at < length bytes → get_or bytes at 0 ≡ 32 → IsReadTo bytes (at + 1) (seen_more s 32)
reads_blank bytes at s so inside is =
    let all : take (at + 1) bytes ≡ take at bytes ++ 32 ∷ [] = take_more bytes at 0 inside ∙ ap (λ b. take at bytes ++ b ∷ []) is in
    record {
      unended = rw (all, list_any-append (λ b. b == 10) (take at bytes) (32 ∷ []), so.unended) refl;
      read = rw (all, fold-append line_more nothing_begun (take at bytes) (32 ∷ []), so.read) refl;
    }

-- and LF
pub ends_line : (bytes : List ℕ) (at : ℕ) (s : Seen) (line : PlainLine) → IsReadTo bytes at s → at < length bytes → get_or bytes at 0 ≡ 10 → line.len ≡ at + 1 → row_seen s ≡ line.row
    → IsLineAt bytes line
ends_line bytes at s line so inside is long row =
    let all : take (at + 1) bytes ≡ take at bytes ++ 10 ∷ [] = take_more bytes at 0 inside ∙ ap (λ b. take at bytes ++ b ∷ []) is in
    let front : length (take at bytes) ≡ at = length-take-le at bytes (omega arith) in
    record {
      line = take at bytes;
      unended = so.unended;
      within = omega (arith, front);
      long = omega (arith, front);
      is = rw long all;
      row = ap row_begun so.read ∙ row;
    }

-- a number with one digit more
pub number_next : (bytes : List ℕ) (at len value b digit : ℕ) → at + len < length bytes → b ≡ get_or bytes (at + len) 0 → is_ascii_digit b ≡ true → digit ≡ b - 48
    → fold number_more (Some 0) (take len (drop at bytes)) ≡ Some value → fold number_more (Some 0) (take (len + 1) (drop at bytes)) ≡ Some (grown value digit)
number_next bytes at len value b digit inside is d off so =
    let there : get_or (drop at bytes) len 0 ≡ b = get_or-drop at bytes len 0 ∙ sym is in
    let all : take (len + 1) (drop at bytes) ≡ take len (drop at bytes) ++ b ∷ [] =
    take_more (drop at bytes) len 0 (rw length-drop (omega arith)) ∙ ap (λ x. take len (drop at bytes) ++ x ∷ []) there in
    rw (all, fold-append number_more (Some 0) (take len (drop at bytes)) (b ∷ []), so, d, off) refl

-- the bytes of a line lead to where the line has begun
run_line : {X : Type 0} (most : ℕ) (says : Row → Said X) (kept : Kept X) (begun : Begun) (line rest : List ℕ) → list_any (λ b. b == 10) line ≡ false
    → run (byte_step most says) (record { kept = kept; begun = begun }) (line ++ rest) ≡ run (byte_step most says) (record { kept = kept; begun = fold line_more begun line }) rest
run_line most says kept begun [] rest none = refl
run_line most says kept begun (b ∷ line) rest none =
    let both = or_false (b == 10) (list_any (λ c. c == 10) line) none in
    rw both.0 (run_line most says kept (line_more begun b) line rest both.1)
  where
    or_false : (s t : Bool) → (s || t) ≡ false → (s ≡ false) × (t ≡ false)
    or_false true t h = cc
    or_false false t h = (refl, h)

-- and LF keeps what its row says
pub run_plain : {X : Type 0} (most : ℕ) (says : Row → Said X) (kept : Kept X) (bytes rest : List ℕ) (l : PlainLine) (found : Result (Kept X) (Found X))
    → IsLineAt bytes l → collect most kept (says l.row) ≡ found
    → run (byte_step most says) (record { kept = kept; begun = nothing_begun }) (take l.len bytes ++ rest)
    ≡ and_then found (λ k. run (byte_step most says) (record { kept = k; begun = nothing_begun }) rest)
run_plain most says kept bytes rest l found so says_found =
    let whole : take l.len bytes ++ rest ≡ so.line ++ 10 ∷ rest = ap (λ xs. xs ++ rest) so.is ∙ append_assoc so.line (10 ∷ []) rest in
    let ends : line_end most says (record { kept = kept; begun = fold line_more nothing_begun so.line }) ≡ found = ap (λ row. collect most kept (says row)) so.row ∙ says_found in
    ap (run (byte_step most says) (record { kept = kept; begun = nothing_begun })) whole
    ∙ run_line most says kept nothing_begun so.line (10 ∷ rest) so.unended
    ∙ ap (λ found. and_then (and_then found (λ k. Ok (record { kept = k; begun = nothing_begun }))) (λ u. run (byte_step most says) u rest)) ends
    ∙ (elim found as (λ found. and_then (and_then found (λ k. Ok (record { kept = k; begun = nothing_begun }))) (λ u. run (byte_step most says) u rest)
    ≡ and_then found (λ k. run (byte_step most says) (record { kept = k; begun = nothing_begun }) rest)) [ Ok k ↦ refl | Err e ↦ refl ])

module _ {X : Type 0} (most : ℕ) (says : Row → Said X) (old new : Lines X) (number : Option ℕ) (bytes : List ℕ) (l : PlainLine)
    (place : old.fields.place ≡ Begin) (cr : old.before_cr ≡ None) (same : IsBegunAs old new) (so : IsLineAt bytes l) where
  begun_old : read_text old number ≡ record { kept = kept_at old; begun = nothing_begun }
  begun_old = rw (place, cr) refl

  begun_new : record { kept = kept_at new; begun = nothing_begun } ≡ read_text new number
  begun_new = rw (same.0, same.1, place, cr) refl

  -- a plain line whose item is kept
  pub plain_kept : collect most (kept_at old) (says l.row) ≡ Ok (kept_at new) → run (byte_step most says) (read_text old number) (take l.len bytes) ≡ Ok (read_text new number)
  plain_kept keeps =
      ap (λ s. run (byte_step most says) s (take l.len bytes)) begun_old
      ∙ ap (run (byte_step most says) (record { kept = kept_at old; begun = nothing_begun })) (sym (append-nil (take l.len bytes)))
      ∙ run_plain most says (kept_at old) bytes [] l (Ok (kept_at new)) so keeps
      ∙ ap Ok begun_new

  plain_stops : (s : Found X) → collect most (kept_at old) (says l.row) ≡ Err s → run (byte_step most says) (read_text old number) bytes ≡ Err s
  plain_stops s stops =
      ap (λ s. run (byte_step most says) s bytes) begun_old
      ∙ ap (run (byte_step most says) (record { kept = kept_at old; begun = nothing_begun })) (sym (take-append-drop l.len bytes))
      ∙ run_plain most says (kept_at old) bytes (drop l.len bytes) l (Err s) so stops

  -- and one that ends the reading
  pub plain_ends : (error : Halt X) → LeadsTo (collect most (kept_at old) (says l.row)) (kept_at new) (Err error) → TakesPlain most says old number bytes new (Err error)
  plain_ends (Stopped ending) stops = plain_stops _ stops
  plain_ends ReadFault stops = stops
  plain_ends NoMemory stops = tt

-- a byte that ends the reading
pub byte_ends : {X : Type 0} (most : ℕ) (says : Row → Said X) (old here : ReadText X) (new : Lines X) (bytes : List ℕ) (at : ℕ) (error : Halt X) → at < length bytes
    → LeadsToText (byte_step most says here (get_or bytes at 0)) new (Err error) → run (byte_step most says) here (drop at bytes) ≡ run (byte_step most says) old bytes
    → LeadsToText (run (byte_step most says) old bytes) new (Err error)
byte_ends most says old here new bytes at (Stopped ending) inside ends ran = run_ends (byte_step most says) here old _ bytes at inside ends ran
byte_ends most says old here new bytes at ReadFault inside ends ran = ends
byte_ends most says old here new bytes at NoMemory inside ends ran = tt

-- the rest of the bytes, as a slice
pub rest_is : (bytes : List ℕ) (at : ℕ) → take (length bytes - at) (drop at bytes) ≡ drop at bytes
rest_is bytes at = take_all (length bytes - at) (drop at bytes) (rw length-drop (omega arith))

-- no line is taken
pub none_taken : {X : Type 0} (most : ℕ) (says : Row → Said X) (old here : ReadText X) (now : ReadText X) (bytes : List ℕ) (at taken : ℕ) → taken ≡ 0
    → run (byte_step most says) here (take taken (drop at bytes)) ≡ Ok now → run (byte_step most says) here (drop at bytes) ≡ run (byte_step most says) old bytes
    → run (byte_step most says) now (drop at bytes) ≡ run (byte_step most says) old bytes
none_taken most says old here now bytes at taken none one ran =
    let e : at + taken ≡ at = omega arith in
    subst (λ n. run (byte_step most says) now (drop n bytes) ≡ run (byte_step most says) old bytes) e (run_jumps (byte_step most says) here now old bytes at taken one ran)
