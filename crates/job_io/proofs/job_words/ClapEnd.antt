-- What a line says, read off the rows at the end.
use Rattle.std.proofs.Common.{◌≡◌, ◌∙◌, ◌&&◌, ◌||◌, ℕ, suc, zero, Bool, cond, true, false, not, refl, sym, ap, arith, List, [], ◌∷◌, ◌++◌, length, take, drop, fold, Option, Some, None, codes, is_some, option_map, true≢false, eqb-true}
use Rattle.std.specs.Prelude.{slice_get}
use Rattle.std.specs.List.{find, list_all}
use Rattle.std.specs.Option.{unwrap_or}
use Rattle.std.specs.Str.{bytes_eq}
use Rattle.gl_base.specs.declared.usage_faults.Opt.{Opt}
use Rattle.gl_base.specs.declared.usage_faults.Opt.TheVariants.{Number, Vertices, Edges, Weight}
use Rattle.clap.specs.Simple.{built, entered, matches_of, new_rule}
use Rattle.clap.specs.Takes.{is_given}
use Rattle.clap.specs.Walk.{Row, Rule, Text, default_rows, finished, has_row, is_empty, more_values, nothing_held, reading_by, walked, with_default}
use Rattle.clap.specs.Faults.{check_fault, default_fault, defaults_fault, entered_fault, fault_of, given_default_fault, level_fault, walk_fault}
use Rattle.clap.specs.Kinds.{Kinds, or_else}
use Rattle.clap.specs.declared.builder.value_parser.Reading.TheVariants.{AsWritten}
use Rattle.clap.specs.declared.error.kind.ErrorKind.{ErrorKind}
use Rattle.clap.specs.declared.parser.matches.ValueSource.TheVariants.{DefaultValue}
use Rattle.job_io.specs.job_words.Inner.Glab.{glab}
use Rattle.job_io.specs.job_words.Lines.{LinePart, alone, flagged, has_flag, same_option, value_in, valued, words_in}
use Rattle.job_io.proofs.job_words.ClapWalk.{at_none, end_fault, held, id_of, is_nil, outcome, row_of, rules_in, shape, state, word_id}
use Rattle.job_io.proofs.job_words.ClapLine.{option_word, rows_from}

-- ---- the parse as a whole

nil_or : (a b : Kinds) → is_nil (or_else a b) ≡ (is_nil a && is_nil b)
nil_or [] b = refl
nil_or (k ∷ ks) b = refl

level_nil : (words : List Text) (stop : Option (Text × List Text))
    → is_nil (level_fault shape [] nothing_held words (is_some (entered (built glab) stop)) (entered_fault (built glab) stop))
    ≡ (is_nil (walk_fault shape [] (state [] 0) words) && is_nil (end_fault (fold (walked rules_in []) (state [] 0) words).held))
level_nil words None = nil_or (walk_fault shape [] (state [] 0) words) (end_fault (fold (walked rules_in []) (state [] 0) words).held)
level_nil words (Some p) = nil_or (walk_fault shape [] (state [] 0) words) (end_fault (fold (walked rules_in []) (state [] 0) words).held)

pub outcome_is : (words : List Text) → outcome (state [] 0) words ≡ cond (is_nil (fault_of glab words)) (Some (matches_of glab words)) None
outcome_is words = ap (λ b. cond b (Some (matches_of glab words)) None) (sym (level_nil words _))

-- ---- the end

pub cond_same : {X : Type 0} (b : Bool) (x : X) → cond b x x ≡ x
cond_same true x = refl
cond_same false x = refl

-- an argument with no default adds nothing
no_default : (rows : List Row) (a : Rule) → is_empty a.defaults ≡ true → with_default rows a ≡ rows
no_default rows a none = go a.defaults none
  where
    go : (ds : List Text) → is_empty ds ≡ true → cond (has_row a.id rows) rows (default_rows a.id (reading_by a) ds rows) ≡ rows
    go [] e = cond_same (has_row a.id rows) rows
    go (d ∷ ds) e = absurd (omega (arith, eqb-true (suc (length ds)) 0 e))

pub both : (a b : Bool) → (a && b) ≡ true → (a ≡ true) × (b ≡ true)
both true b e = (refl, e)
both false b e = absurd (true≢false (sym e))

no_defaults : (rs : List Rule) (rows : List Row) → list_all (λ a. is_empty a.defaults) rs ≡ true → fold with_default rows rs ≡ rows
no_defaults [] rows e = refl
no_defaults (a ∷ rs) rows e =
    ap (λ xs. fold with_default xs rs) (no_default rows a (both (is_empty a.defaults) _ e).0) ∙ no_defaults rs rows (both (is_empty a.defaults) _ e).1

abbrev flag_argument : Rule
flag_argument = unwrap_or (slice_get rules_in 2) (new_rule [])

finished-is : (rows : List Row) → finished rules_in (held rows None) ≡ with_default rows flag_argument
finished-is rows =
    no_defaults (drop 3 rules_in) (with_default (fold with_default rows (take 2 rules_in)) flag_argument) refl
    ∙ ap (λ xs. with_default xs flag_argument) (no_defaults (take 2 rules_in) rows refl)

nil_is : (k : Kinds) → is_nil k ≡ true → k ≡ []
nil_is [] e = refl
nil_is (k ∷ ks) e = absurd (true≢false (sym e))

-- a default passes
defaults_pass : (rs : List Rule) (rows : List Row) → list_all (λ a. is_nil (given_default_fault a a.defaults)) rs ≡ true → defaults_fault rows rs ≡ []
unfolding defaults_fault
defaults_pass [] rows e = refl
defaults_pass (a ∷ rs) rows e =
    let parts = both (is_nil (given_default_fault a a.defaults)) _ e in
    let here : default_fault rows a ≡ [] = ap (cond (has_row a.id rows || is_empty a.defaults) []) (nil_is _ parts.0) ∙ cond_same (has_row a.id rows || is_empty a.defaults) [] in
    ap (λ k. or_else k (defaults_fault (with_default rows a) rs)) here ∙ defaults_pass rs (with_default rows a) parts.1

given_nil : (a b : Bool) (k : ErrorKind) → is_nil (cond (not a || (not b || false)) (k ∷ []) []) ≡ (a && b)
given_nil true true k = refl
given_nil true false k = refl
given_nil false b k = refl

-- the line ends well where the verb and the file were given
pub end_is : (rows : List Row) (n : ℕ) → let all = finished rules_in (held rows None) in outcome (state rows n) []
    ≡ cond (is_given (codes "verb") all && is_given (codes "file") all) (Some all) None
unfolding walk_fault
end_is rows n =
    let all = finished rules_in (held rows None) in
    let settled : end_fault (held rows None) ≡ check_fault shape all false =
    ap (λ k. or_else k (check_fault shape all false)) (defaults_pass rules_in rows refl) in
    ap (λ k. cond (is_nil k) (Some all) None) settled
    ∙ ap (λ b. cond b (Some all) None) (given_nil (is_given (codes "verb") all) (is_given (codes "file") all) _)

-- ---- the rows of the arguments

abbrev pub find_id : Text → List Row → Option Row
find_id id rows = find (λ r. bytes_eq r.id id) rows

neither : (a b : Bool) → (a || b) ≡ false → (a ≡ false) × (b ≡ false)
neither true b e = absurd (true≢false e)
neither false b e = (refl, e)

same-self : (o : Opt) → same_option o o ≡ true
same-self Number = refl
same-self Vertices = refl
same-self Edges = refl
same-self Weight = refl

same-sym : (q o : Opt) → same_option q o ≡ same_option o q
same-sym Number Number = refl
same-sym Number Vertices = refl
same-sym Number Edges = refl
same-sym Number Weight = refl
same-sym Vertices Number = refl
same-sym Vertices Vertices = refl
same-sym Vertices Edges = refl
same-sym Vertices Weight = refl
same-sym Edges Number = refl
same-sym Edges Vertices = refl
same-sym Edges Edges = refl
same-sym Edges Weight = refl
same-sym Weight Number = refl
same-sym Weight Vertices = refl
same-sym Weight Edges = refl
same-sym Weight Weight = refl

-- a row of another argument at the end
find-push : (id : Text) (rows : List Row) (r : Row) → bytes_eq r.id id ≡ false → find_id id (rows ++ r ∷ []) ≡ find_id id rows
find-push id [] r other = rw other refl
find-push id (x ∷ xs) r other = ap (cond (bytes_eq x.id id) (Some x)) (find-push id xs r other)

-- the row of an argument that had none
pub find-new : (id : Text) (rows : List Row) (r : Row) → has_row id rows ≡ false → bytes_eq r.id id ≡ true → find_id id (rows ++ r ∷ []) ≡ Some r
find-new id [] r none same = rw same refl
find-new id (x ∷ xs) r none same =
    let parts = neither (bytes_eq x.id id) (has_row id xs) none in
    rw (parts.0) (find-new id xs r parts.1 same)

abbrev pub default_row : Row
default_row = record { id = codes "report"; values = codes "false" ∷ []; count = None; source = Some DefaultValue; reading = AsWritten }

-- at the end the flag has a row, the default's where it was not used
pub all-is : (rows : List Row) → finished rules_in (held rows None) ≡ cond (has_row (codes "report") rows) rows (rows ++ default_row ∷ [])
all-is rows = finished-is rows ∙ go (has_row (codes "report") rows) refl
  where
    go : (b : Bool) → has_row (codes "report") rows ≡ b
        → cond b rows (default_rows (codes "report") AsWritten (codes "false" ∷ []) rows) ≡ cond b rows (rows ++ default_row ∷ [])
    go true e = refl
    go false e = at_none (codes "report") (more_values DefaultValue (codes "false" ∷ [])) (default_row ∷ []) rows e

pub find-all : (id : Text) (rows : List Row) → bytes_eq (codes "report") id ≡ false → find_id id (finished rules_in (held rows None)) ≡ find_id id rows
find-all id rows other = ap (find_id id) (all-is rows) ∙ go (has_row (codes "report") rows)
  where
    go : (b : Bool) → find_id id (cond b rows (rows ++ default_row ∷ [])) ≡ find_id id rows
    go true = refl
    go false = find-push id rows default_row other

find-file : (ps : List LinePart) (n : ℕ) → find_id (codes "file") (rows_from (suc n) ps) ≡ option_map (row_of (codes "file")) (slice_get (words_in ps) 0)
find-file [] n = refl
find-file (alone t ∷ ps) n = refl
find-file (flagged ∷ ps) n = find-file ps n
find-file (valued o v ∷ ps) n = rw (option_word o 1) (find-file ps n)

pub find-second : (ps : List LinePart) → find_id (codes "file") (rows_from 0 ps) ≡ option_map (row_of (codes "file")) (slice_get (words_in ps) 1)
find-second [] = refl
find-second (alone t ∷ ps) = find-file ps 0
find-second (flagged ∷ ps) = find-second ps
find-second (valued o v ∷ ps) = rw (option_word o 1) (find-second ps)

pub find-verb : (ps : List LinePart) → find_id (codes "verb") (rows_from 0 ps) ≡ option_map (row_of (codes "verb")) (slice_get (words_in ps) 0)
find-verb [] = refl
find-verb (alone t ∷ ps) = refl
find-verb (flagged ∷ ps) = find-verb ps
find-verb (valued o v ∷ ps) = rw (option_word o 0) (find-verb ps)

pub id-same : (q o : Opt) → bytes_eq (id_of q) (id_of o) ≡ same_option q o
id-same Number Number = refl
id-same Number Vertices = refl
id-same Number Edges = refl
id-same Number Weight = refl
id-same Vertices Number = refl
id-same Vertices Vertices = refl
id-same Vertices Edges = refl
id-same Vertices Weight = refl
id-same Edges Number = refl
id-same Edges Vertices = refl
id-same Edges Edges = refl
id-same Edges Weight = refl
id-same Weight Number = refl
id-same Weight Vertices = refl
id-same Weight Edges = refl
id-same Weight Weight = refl

same_is : (q o : Opt) → same_option q o ≡ true → q ≡ o
same_is Number Number e = refl
same_is Vertices Vertices e = refl
same_is Edges Edges e = refl
same_is Weight Weight e = refl
same_is Number Vertices e = absurd (true≢false (sym e))
same_is Number Edges e = absurd (true≢false (sym e))
same_is Number Weight e = absurd (true≢false (sym e))
same_is Vertices Number e = absurd (true≢false (sym e))
same_is Vertices Edges e = absurd (true≢false (sym e))
same_is Vertices Weight e = absurd (true≢false (sym e))
same_is Edges Number e = absurd (true≢false (sym e))
same_is Edges Vertices e = absurd (true≢false (sym e))
same_is Edges Weight e = absurd (true≢false (sym e))
same_is Weight Number e = absurd (true≢false (sym e))
same_is Weight Vertices e = absurd (true≢false (sym e))
same_is Weight Edges e = absurd (true≢false (sym e))

pub other_word : (m : ℕ) (o : Opt) → bytes_eq (word_id m) (id_of o) ≡ false
other_word zero Number = refl
other_word zero Vertices = refl
other_word zero Edges = refl
other_word zero Weight = refl
other_word (suc m) Number = refl
other_word (suc m) Vertices = refl
other_word (suc m) Edges = refl
other_word (suc m) Weight = refl

pub other_flag : (o : Opt) → bytes_eq (codes "report") (id_of o) ≡ false
other_flag Number = refl
other_flag Vertices = refl
other_flag Edges = refl
other_flag Weight = refl

pub flag_option : (o : Opt) → bytes_eq (id_of o) (codes "report") ≡ false
flag_option Number = refl
flag_option Vertices = refl
flag_option Edges = refl
flag_option Weight = refl

pub word_flag : (m : ℕ) → bytes_eq (word_id m) (codes "report") ≡ false
word_flag zero = refl
word_flag (suc m) = refl

pub find-option : (o : Opt) (ps : List LinePart) (n : ℕ) → find_id (id_of o) (rows_from n ps) ≡ option_map (row_of (id_of o)) (value_in o ps)
find-option o [] n = refl
find-option o (alone t ∷ ps) n = rw (other_word n o) (find-option o ps (suc n))
find-option o (flagged ∷ ps) n = rw (other_flag o) (find-option o ps n)
find-option o (valued q v ∷ ps) n = go (same_option o q) refl (find-option o ps n)
  where
    go : (b : Bool) → same_option o q ≡ b → find_id (id_of o) (rows_from n ps) ≡ option_map (row_of (id_of o)) (value_in o ps)
        → cond (bytes_eq (id_of q) (id_of o)) (Some (row_of (id_of q) v)) (find_id (id_of o) (rows_from n ps)) ≡ option_map (row_of (id_of o)) (cond b (Some v) (value_in o ps))
    go true e rest = rw (← same_is o q e, id-same o o, same-self o) refl
    go false e rest = rw (id-same q o, same-sym q o, e) rest

-- the flag's row
pub has-flag : (ps : List LinePart) (n : ℕ) → has_row (codes "report") (rows_from n ps) ≡ has_flag ps
has-flag [] n = refl
has-flag (alone t ∷ ps) n = rw (word_flag n) (has-flag ps (suc n))
has-flag (flagged ∷ ps) n = refl
has-flag (valued o v ∷ ps) n = rw (flag_option o) (has-flag ps n)

pub find-flag : (ps : List LinePart) (n : ℕ) → has_flag ps ≡ true → find_id (codes "report") (rows_from n ps) ≡ Some (row_of (codes "report") (codes "true"))
find-flag [] n e = absurd (true≢false (sym e))
find-flag (alone t ∷ ps) n e = rw (word_flag n) (find-flag ps (suc n) e)
find-flag (flagged ∷ ps) n e = refl
find-flag (valued o v ∷ ps) n e = rw (flag_option o) (find-flag ps n e)
