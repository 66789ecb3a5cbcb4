-- The line that `clap` takes says what the definition says.
use Rattle.std.proofs.Common.{◌≡◌, ◌∙◌, ◌&&◌, ◌||◌, ℕ, suc, zero, Bool, cond, true, false, not, refl, sym, ap, ap₂, arith, List, [], ◌∷◌, ◌++◌, ◌+◌, map, length, Option, Some, None, codes, is_some, option_map, append-nil, append_assoc, true≢false, subst, inl, inr, ◌⊎◌, Bor}
use Rattle.std.specs.Prelude.{option_and_then, slice_get}
use Rattle.std.specs.List.{list_all, list_any}
use Rattle.std.specs.Option.{option_map_or, unwrap_or}
use Rattle.std.specs.Str.{bytes_eq}
use Rattle.gl_base.specs.declared.usage_faults.Opt.{Opt}
use Rattle.gl_base.specs.declared.usage_faults.Opt.TheVariants.{Number, Vertices, Edges, Weight}
use Rattle.clap.specs.Facts.{explicit_source}
use Rattle.clap.specs.Faults.{fault_of, is_simple_and_free}
use Rattle.clap.specs.Kinds.{IsAmong, Kinds}
use Rattle.clap.specs.declared.error.kind.ErrorKind.{ErrorKind}
use Rattle.clap.specs.declared.error.kind.ErrorKind.TheVariants.{OutOfMemory}
use Rattle.clap.specs.Simple.{App, is_simple, matches_of}
use Rattle.clap.specs.Takes.{is_given}
use Rattle.clap.specs.Walk.{Row, Text, finished, first_of, has_row, one_of, row_text}
use Rattle.job_io.specs.job_words.Inner.Glab.{glab}
use Rattle.job_io.specs.job_words.Lines.{LinePart, Sayings, alone, flagged, has_flag, repeats, line_of, parts_of, line_of_parts, line_with, stands_once, value_in, valued, words_in}
use Rattle.job_io.specs.job_words.WordForms.{WordForm}
use Rattle.job_io.specs.job_words.Inner.Spelling.{Spells, is_text, word_of}
use Rattle.job_io.proofs.job_words.ClapWalk.{held, id_of, is_early, is_nil, row_of, rules_in}
use Rattle.job_io.proofs.job_words.ClapLine.{count_from, count_from-push, more, reads, rows_from, so_far, walks}
use Rattle.job_io.proofs.job_words.ClapEnd.{all-is, both, cond_same, default_row, end_is, find-all, find-flag, find-new, find-option, find-second, find-verb, find_id, flag_option, has-flag, id-same, other_flag, other_word, outcome_is, word_flag}

-- ---- which parts clash

-- at most two
abbrev bounded : ℕ → Bool
bounded zero = true
bounded (suc zero) = true
bounded (suc (suc zero)) = true
bounded (suc (suc (suc n))) = false

-- one of the parts is the same option or the flag
abbrev again : List LinePart → LinePart → Bool
again us p = list_any (λ u. repeats u p) us

flag-again : (us : List LinePart) (n : ℕ) → has_row (codes "report") (rows_from n us) ≡ again us flagged
flag-again [] n = refl
flag-again (alone t ∷ us) n = rw (word_flag n) (flag-again us (suc n))
flag-again (flagged ∷ us) n = refl
flag-again (valued o v ∷ us) n = rw (flag_option o) (flag-again us n)

option-again : (o : Opt) (v : Text) (us : List LinePart) (n : ℕ) → has_row (id_of o) (rows_from n us) ≡ again us (valued o v)
option-again o v [] n = refl
option-again o v (alone t ∷ us) n = rw (other_word n o) (option-again o v us (suc n))
option-again o v (flagged ∷ us) n = rw (other_flag o) (option-again o v us n)
option-again o v (valued q w ∷ us) n = ap₂ (λ (a b : Bool). a || b) (id-same q o) (option-again o v us n)

never_again : (t : Text) (ps : List LinePart) → list_any (repeats (alone t)) ps ≡ false
never_again t [] = refl
never_again t (p ∷ ps) = never_again t ps

never_before : (t : Text) (us : List LinePart) → again us (alone t) ≡ false
never_before t [] = refl
never_before t (alone s ∷ us) = never_before t us
never_before t (flagged ∷ us) = never_before t us
never_before t (valued o v ∷ us) = never_before t us

or_assoc : (a b c : Bool) → (a || (b || c)) ≡ ((a || b) || c)
or_assoc true b c = refl
or_assoc false b c = refl

any-push : (f : LinePart → Bool) (us : List LinePart) (p : LinePart) → list_any f (us ++ p ∷ []) ≡ (list_any f us || (f p || false))
any-push f [] p = refl
any-push f (u ∷ us) p = ap (λ b. f u || b) (any-push f us p) ∙ or_assoc (f u) (list_any f us) (f p || false)

split : (a b x y : Bool) → (not (a || (b || false)) && (x && not y)) ≡ ((not a && x) && not (b || y))
split true b x y = refl
split false true true y = refl
split false true false y = refl
split false false x y = refl

all-push : (us : List LinePart) (p : LinePart) (ps : List LinePart)
    → list_all (λ q. not (again (us ++ p ∷ []) q)) ps ≡ (list_all (λ q. not (again us q)) ps && not (list_any (repeats p) ps))
all-push us p [] = refl
all-push us p (q ∷ ps) =
    ap₂ (λ (a b : Bool). not a && b) (any-push (λ u. repeats u q) us p) (all-push us p ps)
    ∙ split (again us q) (repeats p q) (list_all (λ r. not (again us r)) ps) (list_any (repeats p) ps)

late_count : (ps : List LinePart) (m : ℕ) → bounded (count_from (suc (suc (suc m))) ps) ≡ false
late_count [] m = refl
late_count (alone t ∷ ps) m = late_count ps (suc m)
late_count (flagged ∷ ps) m = late_count ps m
late_count (valued o v ∷ ps) m = late_count ps m

-- the parts may follow those so far
abbrev fits : List LinePart → List LinePart → Bool
fits us ps = bounded (count_from (count_from 0 us) ps) && (list_all (λ p. not (again us p)) ps && stands_once ps)

shuffle : (b k a c s : Bool) (x : Option (List Row)) → cond (b && ((not k && a) && (not c && s))) x None ≡ cond k None (cond (b && ((a && not c) && s)) x None)
shuffle false true a c s x = refl
shuffle false false a c s x = refl
shuffle true true a c s x = refl
shuffle true false true c s x = refl
shuffle true false false c s x = refl

-- what follows one more part fits as it fits after those so far
one_more : (us : List LinePart) (p : LinePart) (ps : List LinePart) → cond (again us p) None (cond (fits (us ++ p ∷ []) ps) (so_far ((us ++ p ∷ []) ++ ps) []) None)
    ≡ cond (fits us (p ∷ ps)) (so_far (us ++ p ∷ ps) []) None
one_more us p ps =
    ap₂ (λ (n : ℕ) (a : Bool). cond (again us p) None (cond (bounded (count_from n ps) && (a && stands_once ps)) (so_far ((us ++ p ∷ []) ++ ps) []) None))
    (count_from-push us 0 p) (all-push us p ps)
    ∙ ap (λ ws. cond (again us p) None (cond (bounded (count_from (more (count_from 0 us) p) ps) && ((list_all (λ q. not (again us q)) ps && not (list_any (repeats p) ps)) && stands_once ps)) (so_far ws []) None))
    (append_assoc us (p ∷ []) ps)
    ∙ sym (shuffle (bounded (count_from (more (count_from 0 us) p) ps)) (again us p) (list_all (λ q. not (again us q)) ps) (list_any (repeats p) ps) (stands_once ps) (so_far (us ++ p ∷ ps) []))

early_more : (n : ℕ) → is_early n ≡ true → bounded (suc n) ≡ true
early_more zero e = refl
early_more (suc zero) e = refl
early_more (suc (suc n)) e = absurd (true≢false (sym e))

late_fits : (us : List LinePart) (t : Text) (ps : List LinePart) (n : ℕ) → count_from 0 us ≡ n → is_early n ≡ false → fits us (alone t ∷ ps) ≡ false
late_fits us t ps zero e late = absurd (true≢false late)
late_fits us t ps (suc zero) e late = absurd (true≢false late)
late_fits us t ps (suc (suc n)) e late =
    ap (λ m. bounded (count_from (suc m) ps) && (list_all (λ p. not (again us p)) (alone t ∷ ps) && stands_once (alone t ∷ ps))) e
    ∙ ap (λ b. b && (list_all (λ p. not (again us p)) (alone t ∷ ps) && stands_once (alone t ∷ ps))) (late_count ps n)

reads-is : (us ps : List LinePart) → bounded (count_from 0 us) ≡ true → reads us ps ≡ cond (fits us ps) (so_far (us ++ ps) []) None
reads-is us [] b = ap₂ (λ (c : Bool) (ws : List LinePart). cond (c && true) (so_far ws []) None) (sym b) (sym (append-nil us))
reads-is us (alone t ∷ ps) b = go (is_early (count_from 0 us)) refl (reads-is (us ++ alone t ∷ []) ps)
  where
    go : (early : Bool) → is_early (count_from 0 us) ≡ early
        → (bounded (count_from 0 (us ++ alone t ∷ [])) ≡ true → reads (us ++ alone t ∷ []) ps ≡ cond (fits (us ++ alone t ∷ []) ps) (so_far ((us ++ alone t ∷ []) ++ ps) []) None)
        → cond (not early) None (reads (us ++ alone t ∷ []) ps) ≡ cond (fits us (alone t ∷ ps)) (so_far (us ++ alone t ∷ ps) []) None
    go true e rest =
        rest (ap bounded (count_from-push us 0 (alone t)) ∙ early_more (count_from 0 us) e)
        ∙ ap (λ k. cond k None (cond (fits (us ++ alone t ∷ []) ps) (so_far ((us ++ alone t ∷ []) ++ ps) []) None)) (sym (never_before t us))
        ∙ one_more us (alone t) ps
    go false e rest = ap (λ k. cond k (so_far (us ++ alone t ∷ ps) []) None) (sym (late_fits us t ps (count_from 0 us) refl e))
reads-is us (flagged ∷ ps) b =
    ap₂ (λ (k : Bool) (x : Option (List Row)). cond k None x) (flag-again us 0)
    (reads-is (us ++ flagged ∷ []) ps (ap bounded (count_from-push us 0 flagged) ∙ b))
    ∙ one_more us flagged ps
reads-is us (valued o v ∷ ps) b =
    ap₂ (λ (k : Bool) (x : Option (List Row)). cond k None x) (option-again o v us 0)
    (reads-is (us ++ valued o v ∷ []) ps (ap bounded (count_from-push us 0 (valued o v)) ∙ b))
    ∙ one_more us (valued o v) ps

-- ---- what the rows at the end say

abbrev pub is_true : Option Text → Bool
is_true None = false
is_true (Some t) = bytes_eq t (codes "true")

-- what a line says, by what was found
abbrev pub told_rows : List Row → Sayings
told_rows rows = record {
  verb = unwrap_or (first_of (codes "verb") rows) [];
  file = unwrap_or (first_of (codes "file") rows) [];
  report = is_true (one_of (codes "report") rows);
  number = first_of (codes "number") rows;
  vertices = first_of (codes "vertices") rows;
  edges = first_of (codes "edges") rows;
  weight = first_of (codes "weight") rows;
}

abbrev pub all_rows : List LinePart → List Row
all_rows ps = finished rules_in (held (rows_from 0 ps) None)

first_row : (id : Text) (o : Option Text) → option_and_then (λ (r : Row). slice_get r.values 0) (option_map (row_of id) o) ≡ o
first_row id None = refl
first_row id (Some t) = refl

given_row : (id : Text) (o : Option Text) → option_map_or (λ (r : Row). explicit_source r.source) (option_map (row_of id) o) false ≡ is_some o
given_row id None = refl
given_row id (Some t) = refl

verb_row : (ps : List LinePart) → find_id (codes "verb") (all_rows ps) ≡ option_map (row_of (codes "verb")) (slice_get (words_in ps) 0)
verb_row ps = find-all (codes "verb") (rows_from 0 ps) refl ∙ find-verb ps

file_row : (ps : List LinePart) → find_id (codes "file") (all_rows ps) ≡ option_map (row_of (codes "file")) (slice_get (words_in ps) 1)
file_row ps = find-all (codes "file") (rows_from 0 ps) refl ∙ find-second ps

option_first : (o : Opt) (ps : List LinePart) → first_of (id_of o) (all_rows ps) ≡ value_in o ps
option_first o ps = ap (option_and_then (λ (r : Row). slice_get r.values 0)) (find-all (id_of o) (rows_from 0 ps) (other_flag o) ∙ find-option o ps 0)
    ∙ first_row (id_of o) (value_in o ps)

report_told : (ps : List LinePart) → is_true (one_of (codes "report") (all_rows ps)) ≡ has_flag ps
report_told ps = ap (λ rs. is_true (one_of (codes "report") rs)) (all-is (rows_from 0 ps)) ∙ go (has_row (codes "report") (rows_from 0 ps)) refl
  where
    go : (b : Bool) → has_row (codes "report") (rows_from 0 ps) ≡ b
        → is_true (one_of (codes "report") (cond b (rows_from 0 ps) (rows_from 0 ps ++ default_row ∷ []))) ≡ has_flag ps
    go true e = ap (λ o. is_true (option_and_then row_text o)) (find-flag ps 0 (sym (has-flag ps 0) ∙ e)) ∙ sym e ∙ has-flag ps 0
    go false e = ap (λ o. is_true (option_and_then row_text o)) (find-new (codes "report") (rows_from 0 ps) default_row e refl) ∙ sym e ∙ has-flag ps 0

abbrev told_by : List Text → List LinePart → Sayings
told_by ws ps = record {
  verb = unwrap_or (slice_get ws 0) [];
  file = unwrap_or (slice_get ws 1) [];
  report = has_flag ps;
  number = value_in Number ps;
  vertices = value_in Vertices ps;
  edges = value_in Edges ps;
  weight = value_in Weight ps;
}

told_rows-is : (ps : List LinePart) → told_rows (all_rows ps) ≡ told_by (words_in ps) ps
told_rows-is ps =
    let verb_is : first_of (codes "verb") (all_rows ps) ≡ slice_get (words_in ps) 0 = ap (option_and_then (λ (r : Row). slice_get r.values 0)) (verb_row ps) ∙ first_row (codes "verb") _ in
    let file_is : first_of (codes "file") (all_rows ps) ≡ slice_get (words_in ps) 1 = ap (option_and_then (λ (r : Row). slice_get r.values 0)) (file_row ps) ∙ first_row (codes "file") _ in
    λ i. record {
      verb = unwrap_or (verb_is i) [];
      file = unwrap_or (file_is i) [];
      report = report_told ps i;
      number = option_first Number ps i;
      vertices = option_first Vertices ps i;
      edges = option_first Edges ps i;
      weight = option_first Weight ps i;
    }

-- ---- the whole

count_is : (ps : List LinePart) (n : ℕ) → count_from n ps ≡ length (words_in ps) + n
count_is [] n = omega arith
count_is (alone t ∷ ps) n = omega (arith, count_is ps (suc n))
count_is (flagged ∷ ps) n = count_is ps n
count_is (valued o v ∷ ps) n = count_is ps n

all_true : (ps : List LinePart) → list_all (λ p. true) ps ≡ true
all_true [] = refl
all_true (p ∷ ps) = all_true ps

map_conds : (c d : Bool) (rows : List Row) → option_map told_rows (cond c (cond d (Some rows) None) None) ≡ cond c (cond d (Some (told_rows rows)) None) None
map_conds true true rows = refl
map_conds true false rows = refl
map_conds false d rows = refl

by_words : (ws : List Text) (ps : List LinePart) (once : Bool) → cond (bounded (length ws) && once) (cond (is_some (slice_get ws 0) && is_some (slice_get ws 1)) (Some (told_by ws ps)) None) None
    ≡ cond once (line_with ws ps) None
by_words [] ps once = refl
by_words (a ∷ []) ps once = refl
by_words (a ∷ b ∷ []) ps once = refl
by_words (a ∷ b ∷ c ∷ ws) ps once = sym (cond_same once None)

said : (ps : List LinePart) → option_map told_rows (reads [] ps) ≡ line_of_parts ps
said ps =
    let ws = words_in ps in
    let fit : fits [] ps ≡ (bounded (length ws) && stands_once ps) =
    ap₂ (λ (n : ℕ) (b : Bool). bounded n && (b && stands_once ps)) (count_is ps 0 ∙ omega arith) (all_true ps) in
    let given : (is_given (codes "verb") (all_rows ps) && is_given (codes "file") (all_rows ps)) ≡ (is_some (slice_get ws 0) && is_some (slice_get ws 1)) =
    ap₂ (λ (a b : Bool). a && b) (ap (λ o. option_map_or (λ (r : Row). explicit_source r.source) o false) (verb_row ps) ∙ given_row (codes "verb") _)
    (ap (λ o. option_map_or (λ (r : Row). explicit_source r.source) o false) (file_row ps) ∙ given_row (codes "file") _) in
    ap (option_map told_rows) (reads-is [] ps refl ∙ ap₂ (λ (c : Bool) (x : Option (List Row)). cond c x None) fit (end_is (rows_from 0 ps) (count_from 0 ps)))
    ∙ map_conds (bounded (length ws) && stands_once ps) _ (all_rows ps)
    ∙ ap₂ (λ (d : Bool) (t : Sayings). cond (bounded (length ws) && stands_once ps) (cond d (Some t) None) None) given (told_rows-is ps)
    ∙ by_words ws ps (stands_once ps)

said_all : (o : Option (List LinePart)) → option_map told_rows (option_and_then (reads []) o) ≡ option_and_then line_of_parts o
said_all None = refl
said_all (Some ps) = said ps

-- the definition of a line is what `clap` takes
pub line_is : (ts : List WordForm) → list_all is_text ts ≡ true
    → option_map told_rows (cond (is_nil (fault_of glab (map word_of ts))) (Some (matches_of glab (map word_of ts))) None) ≡ line_of ts
line_is ts texts = ap (option_map told_rows) (sym (outcome_is (map word_of ts)) ∙ walks [] ts texts) ∙ said_all (parts_of ts)

-- where no fault comes, the line says what was found
pub line-taken : (ts : List WordForm) → list_all is_text ts ≡ true → fault_of glab (map word_of ts) ≡ [] → line_of ts ≡ Some (told_rows (matches_of glab (map word_of ts)))
line-taken ts texts none =
    sym (line_is ts texts) ∙ ap (λ k. option_map told_rows (cond (is_nil k) (Some (matches_of glab (map word_of ts))) None)) none

-- where one comes, the words are no line
pub line-refused : (ts : List WordForm) → list_all is_text ts ≡ true → is_nil (fault_of glab (map word_of ts)) ≡ false → line_of ts ≡ None
line-refused ts texts some =
    sym (line_is ts texts) ∙ ap (λ b. option_map told_rows (cond b (Some (matches_of glab (map word_of ts))) None)) some

-- ---- for the one call of `clap`

some_of : (c d : Bool) (rows found : List Row) → cond c (cond d (Some rows) None) None ≡ Some found → (d ≡ true) × (rows ≡ found)
some_of true true rows found e = (refl, ap (λ o. unwrap_or o rows) e)
some_of true false rows found e = absurd (true≢false (ap is_some (sym e)))
some_of false d rows found e = absurd (true≢false (ap is_some (sym e)))

flag_text : (ps : List LinePart) → one_of (codes "report") (all_rows ps) ≡ Some (cond (has_flag ps) (codes "true") (codes "false"))
flag_text ps = ap (one_of (codes "report")) (all-is (rows_from 0 ps)) ∙ go (has_row (codes "report") (rows_from 0 ps)) refl
  where
    go : (b : Bool) → has_row (codes "report") (rows_from 0 ps) ≡ b
        → one_of (codes "report") (cond b (rows_from 0 ps) (rows_from 0 ps ++ default_row ∷ [])) ≡ Some (cond (has_flag ps) (codes "true") (codes "false"))
    go true e = ap (option_and_then row_text) (find-flag ps 0 (sym (has-flag ps 0) ∙ e)) ∙ ap (λ b. Some (cond b (codes "true") (codes "false"))) (sym e ∙ has-flag ps 0)
    go false e = ap (option_and_then row_text) (find-new (codes "report") (rows_from 0 ps) default_row e refl) ∙ ap (λ b. Some (cond b (codes "true") (codes "false"))) (sym e ∙ has-flag ps 0)

-- the flag's value is `true` or `false`, and the two words are there
pub record IsWhole (rows : List Row) : Type 0 where
  pub flag : (b : Bool) × (one_of (codes "report") rows ≡ Some (cond b (codes "true") (codes "false")))
  pub verb : is_some (first_of (codes "verb") rows) ≡ true
  pub file : is_some (first_of (codes "file") rows) ≡ true

given_first : (id : Text) (o : Option Row) (t : Option Text) → o ≡ option_map (row_of id) t → option_map_or (λ (r : Row). explicit_source r.source) o false ≡ true
    → is_some (option_and_then (λ (r : Row). slice_get r.values 0) o) ≡ true
given_first id o t e given = rw e (ap is_some (first_row id t) ∙ sym (given_row id t) ∙ ap (λ x. option_map_or (λ (r : Row). explicit_source r.source) x false) (sym e) ∙ given)

whole_parts : (o : Option (List LinePart)) (found : List Row) → option_and_then (reads []) o ≡ Some found → IsWhole found
whole_parts None found e = absurd (true≢false (ap is_some (sym e)))
whole_parts (Some ps) found e =
    let same = some_of (fits [] ps) (is_given (codes "verb") (all_rows ps) && is_given (codes "file") (all_rows ps)) (all_rows ps) found
    (ap (λ x. cond (fits [] ps) x None) (sym (end_is (rows_from 0 ps) (count_from 0 ps))) ∙ sym (reads-is [] ps refl) ∙ e) in
    let given = both (is_given (codes "verb") (all_rows ps)) _ same.0 in
    let all : IsWhole (all_rows ps) = record {
      flag = (has_flag ps, flag_text ps);
      verb = given_first (codes "verb") _ _ (verb_row ps) given.0;
      file = given_first (codes "file") _ _ (file_row ps) given.1;
    } in
    subst IsWhole same.1 all

known : (ts : List WordForm) → list_all is_text ts ≡ true → fault_of glab (map word_of ts) ≡ [] → IsWhole (matches_of glab (map word_of ts))
known ts texts none = whole_parts (parts_of ts) (matches_of glab (map word_of ts))
    (sym (walks [] ts texts) ∙ outcome_is (map word_of ts) ∙ ap (λ k. cond (is_nil k) (Some (matches_of glab (map word_of ts))) None) none)

module _ (ts : List WordForm) (words : List Text) (spells : Spells ts words) where
  -- what was found, where the command takes the words
  pub taken_at : (a : App) → a ≡ glab → (rows : List Row) → (is_simple_and_free a ≡ true → fault_of a words ≡ []) → (is_simple a ≡ true → rows ≡ matches_of a words)
      → (line_of ts ≡ Some (told_rows rows)) × IsWhole rows
  taken_at a is rows = subst (λ (x : App). (is_simple_and_free x ≡ true → fault_of x words ≡ []) → (is_simple x ≡ true → rows ≡ matches_of x words) → (line_of ts ≡ Some (told_rows rows)) × IsWhole rows) (sym is) here
    where
      here : (is_simple_and_free glab ≡ true → fault_of glab words ≡ []) → (is_simple glab ≡ true → rows ≡ matches_of glab words) → (line_of ts ≡ Some (told_rows rows)) × IsWhole rows
      here fault found =
          let same : rows ≡ matches_of glab (map word_of ts) = found refl ∙ ap (matches_of glab) (sym spells.spelled) in
          let none : fault_of glab (map word_of ts) ≡ [] = ap (fault_of glab) spells.spelled ∙ fault refl in
          (line-taken ts spells.formed none ∙ ap (λ rs. Some (told_rows rs)) (sym same), subst IsWhole (sym same) (known ts spells.formed none))

  -- the words are no line, where the command does not take them
  pub refused_at : (a : App) → a ≡ glab → (k : ErrorKind) → (k ≡ OutOfMemory → ⊥) → (is_simple_and_free a ≡ true → (k ≡ OutOfMemory) ⊎ IsAmong k (fault_of a words)) → line_of ts ≡ None
  refused_at a is k other = subst (λ (x : App). (is_simple_and_free x ≡ true → (k ≡ OutOfMemory) ⊎ IsAmong k (fault_of x words)) → line_of ts ≡ None) (sym is) here
    where
      among : (ks : Kinds) → (k ≡ OutOfMemory) ⊎ IsAmong k ks → is_nil ks ≡ false
      among [] (inl memory) = absurd (other memory)
      among [] (inr none) = absurd none
      among (x ∷ xs) h = refl

      here : (is_simple_and_free glab ≡ true → (k ≡ OutOfMemory) ⊎ IsAmong k (fault_of glab words)) → line_of ts ≡ None
      here fault = line-refused ts spells.formed (ap (λ ws. is_nil (fault_of glab ws)) spells.spelled ∙ among (fault_of glab words) (fault refl))

-- the flag as `get_flag` reads it
pub flag_is : (r : Bool) (o : Option Text) → (o ≡ Some (codes "true") → r ≡ true) → (o ≡ Some (codes "false") → r ≡ false)
    → (b : Bool) × (o ≡ Some (cond b (codes "true") (codes "false"))) → is_true o ≡ r
flag_is r o set unset h = go h.0 h.1
  where
    go : (b : Bool) → o ≡ Some (cond b (codes "true") (codes "false")) → is_true o ≡ r
    go true e = ap is_true e ∙ sym (set e)
    go false e = ap is_true e ∙ sym (unset e)

-- one of the two words can't be absent
pub absent : (o : Option (Bor Text)) (t : Option Text) → option_map (λ s. s.now) o ≡ t → is_some t ≡ true → is_some o ≡ true
absent None t e some = ap is_some e ∙ some
absent (Some x) t e some = refl

pub some_first : (o : Option (Bor Text)) (x : Bor Text) (t : Option Text) → o ≡ Some x → option_map (λ s. s.now) o ≡ t → unwrap_or t [] ≡ x.now
some_first o x t is e = ap (λ v. unwrap_or v []) (sym e) ∙ ap (λ v. unwrap_or (option_map (λ (s : Bor Text). s.now) v) []) is
