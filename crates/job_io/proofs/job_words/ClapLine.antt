-- What `clap` takes is what the definition calls a line.
use Rattle.std.proofs.Common.{◌≡◌, ◌∙◌, ◌&&◌, ◌||◌, ◌==◌, ◌≤◌, ℕ, suc, zero, Bool, cond, true, false, not, refl, sym, ap, ap₂, arith, List, [], ◌∷◌, ◌++◌, map, Option, Some, None, codes, option_map, true≢false}
use Rattle.std.specs.Prelude.{option_and_then}
use Rattle.std.specs.List.{list_all}
use Rattle.std.specs.Str.{bytes_eq}
use Rattle.gl_base.specs.declared.usage_faults.Opt.{Opt}
use Rattle.gl_base.specs.declared.usage_faults.Opt.TheVariants.{Number, Vertices, Edges, Weight}
use Rattle.clap.specs.Walk.{Row, Text, has_row}
use Rattle.job_io.specs.job_words.Lines.{LinePart, alone, flagged, parts_of, valued}
use Rattle.job_io.specs.job_words.WordForms.{WordForm, bare, joined, plain, report}
use Rattle.job_io.specs.job_words.Inner.Spelling.{is_text, word_of}
use Rattle.job_io.proofs.job_words.ClapWalk.{bare-lacks, bare-step, id_of, is_early, joined-step, no_hyphen, outcome, report-step, row_of, state, text-late, text-step, word_id}

-- ---- the rows of the parts so far

abbrev pub row_at : ℕ → LinePart → Row
row_at n (alone t) = row_of (word_id n) t
row_at n flagged = row_of (codes "report") (codes "true")
row_at n (valued o v) = row_of (id_of o) v

abbrev pub more : ℕ → LinePart → ℕ
more n (alone t) = suc n
more n flagged = n
more n (valued o v) = n

abbrev pub rows_from : ℕ → List LinePart → List Row
rows_from n [] = []
rows_from n (p ∷ ps) = row_at n p ∷ rows_from (more n p) ps

-- how many texts stand alone, after n
abbrev pub count_from : ℕ → List LinePart → ℕ
count_from n [] = n
count_from n (p ∷ ps) = count_from (more n p) ps

rows_from-push : (us : List LinePart) (n : ℕ) (p : LinePart) → rows_from n (us ++ p ∷ []) ≡ rows_from n us ++ row_at (count_from n us) p ∷ []
rows_from-push [] n p = refl
rows_from-push (u ∷ us) n p = ap (λ rs. row_at n u ∷ rs) (rows_from-push us (more n u) p)

pub count_from-push : (us : List LinePart) (n : ℕ) (p : LinePart) → count_from n (us ++ p ∷ []) ≡ more (count_from n us) p
count_from-push [] n p = refl
count_from-push (u ∷ us) n p = count_from-push us (more n u) p

-- the part may not stand after those
abbrev pub clashes : List LinePart → LinePart → Bool
clashes us (alone t) = not (is_early (count_from 0 us))
clashes us flagged = has_row (codes "report") (rows_from 0 us)
clashes us (valued o v) = has_row (id_of o) (rows_from 0 us)

abbrev pub so_far : List LinePart → List Text → Option (List Row)
so_far us words = outcome (state (rows_from 0 us) (count_from 0 us)) words

-- the rows at the end, after the parts so far
abbrev pub reads : List LinePart → List LinePart → Option (List Row)
reads us [] = so_far us []
reads us (p ∷ ps) = cond (clashes us p) None (reads (us ++ p ∷ []) ps)

-- ---- a text has no row before it stands

pub le_count : (us : List LinePart) (n : ℕ) → n ≤ count_from n us
le_count [] n = omega arith
le_count (alone t ∷ us) n = omega (arith, le_count us (suc n))
le_count (flagged ∷ us) n = le_count us n
le_count (valued o v ∷ us) n = le_count us n

pub option_word : (o : Opt) (m : ℕ) → bytes_eq (id_of o) (word_id m) ≡ false
option_word Number zero = refl
option_word Number (suc m) = refl
option_word Vertices zero = refl
option_word Vertices (suc m) = refl
option_word Edges zero = refl
option_word Edges (suc m) = refl
option_word Weight zero = refl
option_word Weight (suc m) = refl

flag_word : (m : ℕ) → bytes_eq (codes "report") (word_id m) ≡ false
flag_word zero = refl
flag_word (suc m) = refl

no_word : (us : List LinePart) (n m : ℕ) → count_from n us ≡ n → has_row (word_id m) (rows_from n us) ≡ false
no_word [] n m e = refl
no_word (alone t ∷ us) n m e = absurd (omega (arith, le_count us (suc n)))
no_word (flagged ∷ us) n m e = ap (λ b. b || has_row (word_id m) (rows_from n us)) (flag_word m) ∙ no_word us n m e
no_word (valued o v ∷ us) n m e = ap (λ b. b || has_row (word_id m) (rows_from n us)) (option_word o m) ∙ no_word us n m e

no_second : (us : List LinePart) → count_from 0 us ≡ 1 → has_row (word_id 1) (rows_from 0 us) ≡ false
no_second [] e = refl
no_second (alone t ∷ us) e = no_word us 1 1 e
no_second (flagged ∷ us) e = no_second us e
no_second (valued o v ∷ us) e = ap (λ b. b || has_row (word_id 1) (rows_from 0 us)) (option_word o 1) ∙ no_second us e

fresh : (us : List LinePart) (n : ℕ) → count_from 0 us ≡ n → is_early n ≡ true → has_row (word_id n) (rows_from 0 us) ≡ false
fresh us zero e early = no_word us 0 0 e
fresh us (suc zero) e early = no_second us e
fresh us (suc (suc n)) e early = absurd (true≢false (sym early))

-- ---- the walk over the forms

second : (a b : Bool) → (a && b) ≡ true → b ≡ true
second true b e = e
second false b e = absurd (true≢false (sym e))

-- one more part, and what follows
push_part : (us : List LinePart) (p : LinePart) (o : Option (List LinePart))
    → option_and_then (reads us) (option_map (λ ps. p ∷ ps) o) ≡ cond (clashes us p) None (option_and_then (reads (us ++ p ∷ [])) o)
push_part us p (Some ps) = refl
push_part us p None = go (clashes us p)
  where
    go : (b : Bool) → None ≡ cond b None (option_and_then (reads (us ++ p ∷ [])) None)
    go true = refl
    go false = refl

-- where a part stands in its row, the walk goes on with the part among those so far
next_state : (us : List LinePart) (p : LinePart) (rest : List Text)
    → outcome (state (rows_from 0 us ++ row_at (count_from 0 us) p ∷ []) (more (count_from 0 us) p)) rest ≡ so_far (us ++ p ∷ []) rest
next_state us p rest =
    ap₂ (λ (rs : List Row) (n : ℕ). outcome (state rs n) rest) (sym (rows_from-push us 0 p)) (sym (count_from-push us 0 p))

text_goes : (us : List LinePart) (x : ℕ) (xs : Text) (ts : List WordForm) → (x == 45) ≡ false → list_all is_text ts ≡ true → (b : Bool) → is_early (count_from 0 us) ≡ b
    → so_far us ((x ∷ xs) ∷ map word_of ts) ≡ cond (not b) None (so_far (us ++ alone (x ∷ xs) ∷ []) (map word_of ts))
text_goes us x xs ts h texts true early =
    text-step (rows_from 0 us) (count_from 0 us) x xs ts h texts early (fresh us (count_from 0 us) refl early) ∙ next_state us (alone (x ∷ xs)) (map word_of ts)
text_goes us x xs ts h texts false late = text-late (rows_from 0 us) (count_from 0 us) x xs (map word_of ts) h late

pub walks : (us : List LinePart) (ts : List WordForm) → list_all is_text ts ≡ true → so_far us (map word_of ts) ≡ option_and_then (reads us) (parts_of ts)
walks us [] texts = refl
walks us (plain [] ∷ ts) texts = absurd (true≢false (sym texts))
walks us (plain (x ∷ xs) ∷ ts) texts =
    text_goes us x xs ts (no_hyphen x _ texts) (second (not (x == 45)) _ texts) (is_early (count_from 0 us)) refl
    ∙ ap (cond (not (is_early (count_from 0 us))) None) (walks (us ++ alone (x ∷ xs) ∷ []) ts (second (not (x == 45)) _ texts))
    ∙ sym (push_part us (alone (x ∷ xs)) (parts_of ts))
walks us (report ∷ ts) texts =
    report-step (rows_from 0 us) (count_from 0 us) (map word_of ts)
    ∙ ap (cond (has_row (codes "report") (rows_from 0 us)) None) (next_state us flagged (map word_of ts) ∙ walks (us ++ flagged ∷ []) ts texts)
    ∙ sym (push_part us flagged (parts_of ts))
walks us (joined o v ∷ ts) texts =
    joined-step (rows_from 0 us) (count_from 0 us) o v (map word_of ts)
    ∙ ap (cond (has_row (id_of o) (rows_from 0 us)) None) (next_state us (valued o v) (map word_of ts) ∙ walks (us ++ valued o v ∷ []) ts texts)
    ∙ sym (push_part us (valued o v) (parts_of ts))
walks us (bare o ∷ plain [] ∷ ts) texts = absurd (true≢false (sym texts))
walks us (bare o ∷ plain (x ∷ xs) ∷ ts) texts =
    bare-step (rows_from 0 us) (count_from 0 us) o x xs ts (no_hyphen x _ texts) (second (not (x == 45)) _ texts)
    ∙ ap (cond (has_row (id_of o) (rows_from 0 us)) None)
    (next_state us (valued o (x ∷ xs)) (map word_of ts) ∙ walks (us ++ valued o (x ∷ xs) ∷ []) ts (second (not (x == 45)) _ texts))
    ∙ sym (push_part us (valued o (x ∷ xs)) (parts_of ts))
walks us (bare o ∷ []) texts = bare-lacks (rows_from 0 us) (count_from 0 us) o [] refl
walks us (bare o ∷ report ∷ ts) texts = bare-lacks (rows_from 0 us) (count_from 0 us) o (report ∷ ts) refl
walks us (bare o ∷ bare q ∷ ts) texts = bare-lacks (rows_from 0 us) (count_from 0 us) o (bare q ∷ ts) refl
walks us (bare o ∷ joined q v ∷ ts) texts = bare-lacks (rows_from 0 us) (count_from 0 us) o (joined q v ∷ ts) refl
