-- What `clap` makes of the words of forms, one form after another.
use Rattle.std.proofs.Common.{◌≡◌, ◌∙◌, ◌&&◌, ◌||◌, ◌==◌, ℕ, suc, zero, Bool, cond, true, false, not, refl, sym, ap, ap₂, List, [], ◌∷◌, ◌++◌, map, Option, Some, None, codes, fold, append-nil, true≢false}
use Rattle.std.specs.List.{list_all}
use Rattle.std.specs.Str.{bytes_eq}
use Rattle.gl_base.specs.declared.usage_faults.Opt.{Opt}
use Rattle.gl_base.specs.declared.usage_faults.Opt.TheVariants.{Number, Vertices, Edges, Weight}
use Rattle.clap.specs.Lexer.{long_of, short_of}
use Rattle.clap.specs.Simple.{Shape, built}
use Rattle.clap.specs.Walk.{Held, Row, Rule, Text, Waiting, Walk, at_row, finished, has_row, idle, more_values, option, settled, settled_rows, walked, with_values, without}
use Rattle.clap.specs.Faults.{check_fault, defaults_fault, settle_fault, turn_fault, walk_fault}
use Rattle.clap.specs.Kinds.{Kinds, or_else}
use Rattle.clap.specs.declared.builder.value_parser.Reading.TheVariants.{AsWritten}
use Rattle.clap.specs.declared.error.kind.ErrorKind.TheVariants.{ArgumentConflict}
use Rattle.clap.specs.declared.parser.matches.ValueSource.TheVariants.{CommandLine}
use Rattle.job_io.specs.job_words.Inner.Glab.{glab}
use Rattle.job_io.specs.job_words.WordForms.{WordForm, bare, joined, plain, report}
use Rattle.job_io.specs.job_words.Inner.Spelling.{is_text, word_of}

abbrev pub shape : Shape
shape = (built glab).top

abbrev pub rules_in : List Rule
rules_in = shape.rules

abbrev pub id_of : Opt → Text
id_of Number = codes "number"
id_of Vertices = codes "vertices"
id_of Edges = codes "edges"
id_of Weight = codes "weight"

-- what was found for an argument with one value
abbrev pub row_of : Text → Text → Row
row_of id v = record { id = id; values = v ∷ []; count = None; source = Some CommandLine; reading = AsWritten }

abbrev pub held : List Row → Option (Text × List Text) → Held
held rows pending = record { rows = rows; pending = pending; skip = 0 }

abbrev pub standing : List Row → Option (Text × List Text) → Waiting → ℕ → Walk
standing rows pending waiting position = record {
  held = held rows pending;
  waiting = waiting;
  position = position;
  is_trailing = false;
  stopped = None;
}

abbrev pub end_fault : Held → Kinds
end_fault h = or_else (settle_fault rules_in false h)
    (or_else (defaults_fault (settled rules_in h).rows rules_in) (check_fault shape (finished rules_in h) false))

abbrev pub is_nil : Kinds → Bool
is_nil [] = true
is_nil (k ∷ ks) = false

-- the rows at the end, where no fault comes
abbrev pub outcome : Walk → List Text → Option (List Row)
outcome w words =
    cond (is_nil (walk_fault shape [] w words) && is_nil (end_fault (fold (walked rules_in []) w words).held))
    (Some (finished rules_in (fold (walked rules_in []) w words).held)) None

-- ---- one word

pick : (k more end : Kinds) (o : Option (List Row))
    → cond (is_nil (or_else k more) && is_nil end) o None ≡ cond (is_nil k) (cond (is_nil more && is_nil end) o None) None
pick [] more end o = refl
pick (k ∷ ks) more end o = refl

outcome-cons : (w : Walk) (word : Text) (rest : List Text)
    → outcome w (word ∷ rest) ≡ cond (is_nil (turn_fault shape [] w word)) (outcome (walked rules_in [] w word) rest) None
unfolding walk_fault
outcome-cons w word rest = pick (turn_fault shape [] w word) (walk_fault shape [] (walked rules_in [] w word) rest)
    (end_fault (fold (walked rules_in []) (walked rules_in [] w word) rest).held)
    (Some (finished rules_in (fold (walked rules_in []) (walked rules_in [] w word) rest).held))

pub steps : (w next : Walk) (word : Text) (rest : List Text) (b : Bool) → is_nil (turn_fault shape [] w word) ≡ b → walked rules_in [] w word ≡ next
    → outcome w (word ∷ rest) ≡ cond b (outcome next rest) None
steps w next word rest b turn walk =
    outcome-cons w word rest ∙ ap₂ (λ (t : Bool) (v : Walk). cond t (outcome v rest) None) turn walk

fails : (w : Walk) (word : Text) (rest : List Text) → is_nil (turn_fault shape [] w word) ≡ false → outcome w (word ∷ rest) ≡ None
fails w word rest turn = steps w (walked rules_in [] w word) word rest false turn refl

-- ---- one word, from what is settled or not

turn_nil : (a : Kinds) (b : Bool) → is_nil (or_else (or_else a (or_else (cond (b && true) (ArgumentConflict ∷ []) []) [])) []) ≡ (is_nil a && not b)
turn_nil [] true = refl
turn_nil [] false = refl
turn_nil (k ∷ ks) b = refl

or_nil : (a : Kinds) → or_else a [] ≡ a
or_nil [] = refl
or_nil (k ∷ ks) = refl

-- a value that joins the rows
abbrev used_row : Text → Text → List Row → List Row
used_row id v rows = with_values id AsWritten CommandLine (v ∷ []) (without id rows)

module _ (rows : List Row) (p : ℕ) where
  joined-turn : (o : Opt) (v : Text) (pending : Option (Text × List Text)) → is_nil (turn_fault shape [] (standing rows pending idle p) (word_of (joined o v)))
      ≡ (is_nil (settle_fault rules_in false (held rows pending)) && not (has_row (id_of o) (settled_rows rules_in pending rows)))
  joined-turn Number v pending = turn_nil (settle_fault rules_in false (held rows pending)) (has_row (codes "number") (settled_rows rules_in pending rows))
  joined-turn Vertices v pending = turn_nil (settle_fault rules_in false (held rows pending)) (has_row (codes "vertices") (settled_rows rules_in pending rows))
  joined-turn Edges v pending = turn_nil (settle_fault rules_in false (held rows pending)) (has_row (codes "edges") (settled_rows rules_in pending rows))
  joined-turn Weight v pending = turn_nil (settle_fault rules_in false (held rows pending)) (has_row (codes "weight") (settled_rows rules_in pending rows))

  joined-walk : (o : Opt) (v : Text) (pending : Option (Text × List Text)) → walked rules_in [] (standing rows pending idle p) (word_of (joined o v))
      ≡ standing (used_row (id_of o) v (settled_rows rules_in pending rows)) None idle p
  unfolding walked
  joined-walk Number v pending = refl
  joined-walk Vertices v pending = refl
  joined-walk Edges v pending = refl
  joined-walk Weight v pending = refl

  report-turn : (pending : Option (Text × List Text)) → is_nil (turn_fault shape [] (standing rows pending idle p) (codes "--report"))
      ≡ (is_nil (settle_fault rules_in false (held rows pending)) && not (has_row (codes "report") (settled_rows rules_in pending rows)))
  report-turn pending = turn_nil (settle_fault rules_in false (held rows pending)) (has_row (codes "report") (settled_rows rules_in pending rows))

  report-walk : (pending : Option (Text × List Text)) → walked rules_in [] (standing rows pending idle p) (codes "--report")
      ≡ standing (used_row (codes "report") (codes "true") (settled_rows rules_in pending rows)) None idle p
  unfolding walked
  report-walk pending = refl

  bare-turn : (o : Opt) (pending : Option (Text × List Text)) → is_nil (turn_fault shape [] (standing rows pending idle p) (word_of (bare o)))
      ≡ is_nil (settle_fault rules_in false (held rows pending))
  bare-turn Number pending = ap is_nil (or_nil (settle_fault rules_in false (held rows pending)))
  bare-turn Vertices pending = ap is_nil (or_nil (settle_fault rules_in false (held rows pending)))
  bare-turn Edges pending = ap is_nil (or_nil (settle_fault rules_in false (held rows pending)))
  bare-turn Weight pending = ap is_nil (or_nil (settle_fault rules_in false (held rows pending)))

  bare-walk : (o : Opt) (pending : Option (Text × List Text)) → walked rules_in [] (standing rows pending idle p) (word_of (bare o))
      ≡ standing (settled_rows rules_in pending rows) (Some (id_of o, [])) (option (id_of o)) p
  unfolding walked
  bare-walk Number pending = refl
  bare-walk Vertices pending = refl
  bare-walk Edges pending = refl
  bare-walk Weight pending = refl

-- a text goes to the verb, then to the file, and then to nothing
abbrev pub place : ℕ → ℕ
place zero = 1
place (suc zero) = 2
place (suc (suc n)) = 3

abbrev pub word_id : ℕ → Text
word_id zero = codes "verb"
word_id (suc n) = codes "file"

-- fewer than two texts came before
abbrev pub is_early : ℕ → Bool
is_early zero = true
is_early (suc zero) = true
is_early (suc (suc n)) = false

and_true : (b : Bool) → (b && true) ≡ b
and_true true = refl
and_true false = refl

and_off : (b : Bool) → (b && false) ≡ false
and_off true = refl
and_off false = refl

-- a text begins with no hyphen
pub no_hyphen : (x : ℕ) (more : Bool) → (not (x == 45) && more) ≡ true → (x == 45) ≡ false
no_hyphen x more e = go (x == 45) e
  where
    go : (b : Bool) → (not b && more) ≡ true → b ≡ false
    go true h = absurd (true≢false (sym h))
    go false h = refl

off : (b : Bool) (x y : Kinds) → cond (b && false) x y ≡ y
off true x y = refl
off false x y = refl

off_held : (b : Bool) (x y : Held) → cond (b && false) x y ≡ y
off_held true x y = refl
off_held false x y = refl

module _ (x : ℕ) (xs : Text) (no_hyphen : (x == 45) ≡ false) (rows : List Row) where
  no_dashes : bytes_eq (x ∷ xs) (45 ∷ 45 ∷ []) ≡ false
  no_dashes = simp no_hyphen refl

  no_long : long_of (x ∷ xs) ≡ None
  no_long = simp no_hyphen refl

  no_short : short_of (x ∷ xs) ≡ None
  no_short = simp no_hyphen refl

  text-turn : (n : ℕ) (pending : Option (Text × List Text)) → is_nil (turn_fault shape [] (standing rows pending idle (place n)) (x ∷ xs))
      ≡ (is_nil (settle_fault rules_in false (held rows pending)) && is_early n)
  text-turn zero pending = rw (no_dashes, no_long, no_short) (simp (off, and_true))
  text-turn (suc zero) pending = rw (no_dashes, no_long, no_short) (simp (off, and_true))
  text-turn (suc (suc n)) pending = rw (no_dashes, no_long, no_short) (simp and_off)

  text-walk : (n : ℕ) (pending : Option (Text × List Text)) → is_early n ≡ true → walked rules_in [] (standing rows pending idle (place n)) (x ∷ xs)
      ≡ standing (settled_rows rules_in pending rows) (Some (word_id n, (x ∷ xs) ∷ [])) idle (place (suc n))
  unfolding walked
  text-walk zero pending early = rw (no_dashes, no_long, no_short) (simp off_held)
  text-walk (suc zero) pending early = rw (no_dashes, no_long, no_short) (simp off_held)
  text-walk (suc (suc n)) pending early = absurd (true≢false (sym early))

  -- a text after an option is its value
  value-turn : (o : Opt) (p : ℕ) → is_nil (turn_fault shape [] (standing rows (Some (id_of o, [])) (option (id_of o)) p) (x ∷ xs)) ≡ true
  value-turn Number p = rw (no_dashes, no_long, no_short) refl
  value-turn Vertices p = rw (no_dashes, no_long, no_short) refl
  value-turn Edges p = rw (no_dashes, no_long, no_short) refl
  value-turn Weight p = rw (no_dashes, no_long, no_short) refl

  value-walk : (o : Opt) (p : ℕ) → walked rules_in [] (standing rows (Some (id_of o, [])) (option (id_of o)) p) (x ∷ xs)
      ≡ standing rows (Some (id_of o, (x ∷ xs) ∷ [])) idle p
  unfolding walked
  value-walk Number p = rw (no_dashes, no_long, no_short) refl
  value-walk Vertices p = rw (no_dashes, no_long, no_short) refl
  value-walk Edges p = rw (no_dashes, no_long, no_short) refl
  value-walk Weight p = rw (no_dashes, no_long, no_short) refl

-- ---- what is pending

and_cond : (a b : Bool) (o : Option (List Row)) → cond (a && b) o None ≡ cond a (cond b o None) None
and_cond true b o = refl
and_cond false b o = refl

pick_end : (k more : Kinds) (o : Option (List Row)) → cond (is_nil (or_else k more)) o None ≡ cond (is_nil k) (cond (is_nil more) o None) None
pick_end [] more o = refl
pick_end (k ∷ ks) more o = refl

-- two states that take a word to one state, the first with one fault more
later : (w v next : Walk) (word : Text) (rest : List Text) (a b : Bool) → is_nil (turn_fault shape [] w word) ≡ (a && b) → is_nil (turn_fault shape [] v word) ≡ b
    → walked rules_in [] w word ≡ next → walked rules_in [] v word ≡ next → outcome w (word ∷ rest) ≡ cond a (outcome v (word ∷ rest)) None
later w v next word rest a b turn_w turn_v walk_w walk_v =
    steps w next word rest (a && b) turn_w walk_w ∙ and_cond a b (outcome next rest)
    ∙ ap (λ o. cond a o None) (sym (steps v next word rest b turn_v walk_v))

none_both : (w v : Walk) (word : Text) (rest : List Text) (a : Bool) → is_nil (turn_fault shape [] w word) ≡ (a && false) → is_nil (turn_fault shape [] v word) ≡ false
    → outcome w (word ∷ rest) ≡ cond a (outcome v (word ∷ rest)) None
none_both w v word rest true turn_w turn_v = fails w word rest turn_w ∙ sym (fails v word rest turn_v)
none_both w v word rest false turn_w turn_v = fails w word rest turn_w

text_settles : (x : ℕ) (xs : Text) → (x == 45) ≡ false → (rows : List Row) (pending : Option (Text × List Text)) (rest : List Text) (n : ℕ)
    → outcome (standing rows pending idle (place n)) ((x ∷ xs) ∷ rest)
    ≡ cond (is_nil (settle_fault rules_in false (held rows pending))) (outcome (standing (settled_rows rules_in pending rows) None idle (place n)) ((x ∷ xs) ∷ rest)) None
text_settles x xs h rows pending rest zero =
    later _ _ _ (x ∷ xs) rest _ true (text-turn x xs h rows zero pending) (text-turn x xs h _ zero None) (text-walk x xs h rows zero pending refl) (text-walk x xs h _ zero None refl)
text_settles x xs h rows pending rest (suc zero) =
    later _ _ _ (x ∷ xs) rest _ true (text-turn x xs h rows 1 pending) (text-turn x xs h _ 1 None) (text-walk x xs h rows 1 pending refl) (text-walk x xs h _ 1 None refl)
text_settles x xs h rows pending rest (suc (suc m)) =
    none_both _ _ (x ∷ xs) rest _ (text-turn x xs h rows (suc (suc m)) pending) (text-turn x xs h _ (suc (suc m)) None)

-- what is pending is settled before the next word, or at the end
pub settles : (ts : List WordForm) (rows : List Row) (n : ℕ) (pending : Option (Text × List Text)) → list_all is_text ts ≡ true
    → outcome (standing rows pending idle (place n)) (map word_of ts)
    ≡ cond (is_nil (settle_fault rules_in false (held rows pending))) (outcome (standing (settled_rows rules_in pending rows) None idle (place n)) (map word_of ts)) None
unfolding walk_fault
settles [] rows n pending texts = pick_end (settle_fault rules_in false (held rows pending)) _ _
settles (plain [] ∷ ts) rows n pending texts = absurd (true≢false (sym texts))
settles (plain (x ∷ xs) ∷ ts) rows n pending texts = text_settles x xs (no_hyphen x _ texts) rows pending (map word_of ts) n
settles (report ∷ ts) rows n pending texts = later _ _ _ (codes "--report") (map word_of ts) (is_nil (settle_fault rules_in false (held rows pending))) _
    (report-turn rows (place n) pending) (report-turn (settled_rows rules_in pending rows) (place n) None)
    (report-walk rows (place n) pending) (report-walk (settled_rows rules_in pending rows) (place n) None)
settles (bare o ∷ ts) rows n pending texts = later _ _ _ (word_of (bare o)) (map word_of ts) (is_nil (settle_fault rules_in false (held rows pending))) true
    (bare-turn rows (place n) o pending ∙ sym (and_true _)) (bare-turn (settled_rows rules_in pending rows) (place n) o None)
    (bare-walk rows (place n) o pending) (bare-walk (settled_rows rules_in pending rows) (place n) o None)
settles (joined o v ∷ ts) rows n pending texts = later _ _ _ (word_of (joined o v)) (map word_of ts) (is_nil (settle_fault rules_in false (held rows pending))) _
    (joined-turn rows (place n) o v pending) (joined-turn (settled_rows rules_in pending rows) (place n) o v None)
    (joined-walk rows (place n) o v pending) (joined-walk (settled_rows rules_in pending rows) (place n) o v None)

-- ---- a value joins the rows, or stands there already

pub at_none : (id : Text) (change : Row → List Row) (missing rows : List Row) → has_row id rows ≡ false → at_row id change missing rows ≡ rows ++ missing
at_none id change missing [] e = refl
at_none id change missing (r ∷ rs) e = go (bytes_eq r.id id) e (at_none id change missing rs)
  where
    go : (b : Bool) → (b || has_row id rs) ≡ false → (has_row id rs ≡ false → at_row id change missing rs ≡ rs ++ missing)
        → cond b (change r ++ rs) (r ∷ at_row id change missing rs) ≡ r ∷ (rs ++ missing)
    go true h rest = absurd (true≢false h)
    go false h rest = ap (λ xs. r ∷ xs) (rest h)

add_row : (id v : Text) (rows : List Row) → has_row id rows ≡ false → used_row id v rows ≡ rows ++ row_of id v ∷ []
add_row id v rows e =
    let same : without id rows ≡ rows = at_none id (λ _. []) [] rows e ∙ append-nil rows in
    rw same (at_none id (more_values CommandLine (v ∷ [])) (row_of id v ∷ []) rows e)

joins : (id v : Text) (rows : List Row) (next : List Row → Option (List Row))
    → cond (not (has_row id rows)) (next (used_row id v rows)) None ≡ cond (has_row id rows) None (next (rows ++ row_of id v ∷ []))
joins id v rows next = go (has_row id rows) refl
  where
    go : (b : Bool) → has_row id rows ≡ b → cond (not b) (next (used_row id v rows)) None ≡ cond b None (next (rows ++ row_of id v ∷ []))
    go true e = refl
    go false e = ap next (add_row id v rows e)

use_nil : (b : Bool) → is_nil (or_else (cond (b && true) (ArgumentConflict ∷ []) []) []) ≡ not b
use_nil true = refl
use_nil false = refl

-- before a word, with nothing pending
abbrev pub state : List Row → ℕ → Walk
state rows n = standing rows None idle (place n)

module _ (rows : List Row) (n : ℕ) where
  pub joined-step : (o : Opt) (v : Text) (rest : List Text) → outcome (state rows n) (word_of (joined o v) ∷ rest)
      ≡ cond (has_row (id_of o) rows) None (outcome (state (rows ++ row_of (id_of o) v ∷ []) n) rest)
  joined-step o v rest =
      steps (state rows n) _ (word_of (joined o v)) rest _ (joined-turn rows (place n) o v None) (joined-walk rows (place n) o v None)
      ∙ joins (id_of o) v rows (λ rs. outcome (state rs n) rest)

  pub report-step : (rest : List Text) → outcome (state rows n) (codes "--report" ∷ rest)
      ≡ cond (has_row (codes "report") rows) None (outcome (state (rows ++ row_of (codes "report") (codes "true") ∷ []) n) rest)
  report-step rest =
      steps (state rows n) _ (codes "--report") rest _ (report-turn rows (place n) None) (report-walk rows (place n) None)
      ∙ joins (codes "report") (codes "true") rows (λ rs. outcome (state rs n) rest)

  option-pending : (o : Opt) (v : Text) → is_nil (settle_fault rules_in false (held rows (Some (id_of o, v ∷ [])))) ≡ not (has_row (id_of o) rows)
  option-pending Number v = use_nil (has_row (codes "number") rows)
  option-pending Vertices v = use_nil (has_row (codes "vertices") rows)
  option-pending Edges v = use_nil (has_row (codes "edges") rows)
  option-pending Weight v = use_nil (has_row (codes "weight") rows)

  option-settled : (o : Opt) (v : Text) → settled_rows rules_in (Some (id_of o, v ∷ [])) rows ≡ used_row (id_of o) v rows
  option-settled Number v = refl
  option-settled Vertices v = refl
  option-settled Edges v = refl
  option-settled Weight v = refl

  pub bare-step : (o : Opt) (x : ℕ) (xs : Text) (ts : List WordForm) → (x == 45) ≡ false → list_all is_text ts ≡ true
      → outcome (state rows n) (word_of (bare o) ∷ (x ∷ xs) ∷ map word_of ts)
      ≡ cond (has_row (id_of o) rows) None (outcome (state (rows ++ row_of (id_of o) (x ∷ xs) ∷ []) n) (map word_of ts))
  bare-step o x xs ts h texts =
      steps (state rows n) _ (word_of (bare o)) ((x ∷ xs) ∷ map word_of ts) true (bare-turn rows (place n) o None) (bare-walk rows (place n) o None)
      ∙ steps _ _ (x ∷ xs) (map word_of ts) true (value-turn x xs h rows o (place n)) (value-walk x xs h rows o (place n))
      ∙ settles ts rows n (Some (id_of o, (x ∷ xs) ∷ [])) texts
      ∙ ap₂ (λ (b : Bool) (rs : List Row). cond b (outcome (state rs n) (map word_of ts)) None) (option-pending o (x ∷ xs)) (option-settled o (x ∷ xs))
      ∙ joins (id_of o) (x ∷ xs) rows (λ rs. outcome (state rs n) (map word_of ts))

-- an option with no value
waiting_end : (o : Opt) (rows : List Row) (p : ℕ) → outcome (standing rows (Some (id_of o, [])) (option (id_of o)) p) [] ≡ None
unfolding walk_fault
waiting_end Number rows p = refl
waiting_end Vertices rows p = refl
waiting_end Edges rows p = refl
waiting_end Weight rows p = refl

waiting_bare : (o q : Opt) (rows : List Row) (p : ℕ) → is_nil (turn_fault shape [] (standing rows (Some (id_of o, [])) (option (id_of o)) p) (word_of (bare q))) ≡ false
waiting_bare Number Number rows p = refl
waiting_bare Number Vertices rows p = refl
waiting_bare Number Edges rows p = refl
waiting_bare Number Weight rows p = refl
waiting_bare Vertices Number rows p = refl
waiting_bare Vertices Vertices rows p = refl
waiting_bare Vertices Edges rows p = refl
waiting_bare Vertices Weight rows p = refl
waiting_bare Edges Number rows p = refl
waiting_bare Edges Vertices rows p = refl
waiting_bare Edges Edges rows p = refl
waiting_bare Edges Weight rows p = refl
waiting_bare Weight Number rows p = refl
waiting_bare Weight Vertices rows p = refl
waiting_bare Weight Edges rows p = refl
waiting_bare Weight Weight rows p = refl

waiting_joined : (o q : Opt) (v : Text) (rows : List Row) (p : ℕ) → is_nil (turn_fault shape [] (standing rows (Some (id_of o, [])) (option (id_of o)) p) (word_of (joined q v))) ≡ false
waiting_joined Number Number v rows p = refl
waiting_joined Number Vertices v rows p = refl
waiting_joined Number Edges v rows p = refl
waiting_joined Number Weight v rows p = refl
waiting_joined Vertices Number v rows p = refl
waiting_joined Vertices Vertices v rows p = refl
waiting_joined Vertices Edges v rows p = refl
waiting_joined Vertices Weight v rows p = refl
waiting_joined Edges Number v rows p = refl
waiting_joined Edges Vertices v rows p = refl
waiting_joined Edges Edges v rows p = refl
waiting_joined Edges Weight v rows p = refl
waiting_joined Weight Number v rows p = refl
waiting_joined Weight Vertices v rows p = refl
waiting_joined Weight Edges v rows p = refl
waiting_joined Weight Weight v rows p = refl

waiting_report : (o : Opt) (rows : List Row) (p : ℕ) → is_nil (turn_fault shape [] (standing rows (Some (id_of o, [])) (option (id_of o)) p) (codes "--report")) ≡ false
waiting_report Number rows p = refl
waiting_report Vertices rows p = refl
waiting_report Edges rows p = refl
waiting_report Weight rows p = refl

-- the next word is no text
abbrev pub lacks_value : List WordForm → Bool
lacks_value (plain t ∷ ts) = false
lacks_value _ = true

pub bare-lacks : (rows : List Row) (n : ℕ) (o : Opt) (ts : List WordForm) → lacks_value ts ≡ true → outcome (state rows n) (word_of (bare o) ∷ map word_of ts) ≡ None
bare-lacks rows n o ts lacks =
    steps (state rows n) _ (word_of (bare o)) (map word_of ts) true (bare-turn rows (place n) o None) (bare-walk rows (place n) o None) ∙ go ts lacks
  where
    go : (rest : List WordForm) → lacks_value rest ≡ true → outcome (standing rows (Some (id_of o, [])) (option (id_of o)) (place n)) (map word_of rest) ≡ None
    go [] e = waiting_end o rows (place n)
    go (plain t ∷ rest) e = absurd (true≢false (sym e))
    go (report ∷ rest) e = fails (standing rows (Some (id_of o, [])) (option (id_of o)) (place n)) (codes "--report") (map word_of rest) (waiting_report o rows (place n))
    go (bare q ∷ rest) e = fails (standing rows (Some (id_of o, [])) (option (id_of o)) (place n)) (word_of (bare q)) (map word_of rest) (waiting_bare o q rows (place n))
    go (joined q v ∷ rest) e = fails (standing rows (Some (id_of o, [])) (option (id_of o)) (place n)) (word_of (joined q v)) (map word_of rest) (waiting_joined o q v rows (place n))

-- a text that stands alone
word-pending : (m : ℕ) (v : Text) (rows : List Row) → is_nil (settle_fault rules_in false (held rows (Some (word_id m, v ∷ [])))) ≡ not (has_row (word_id m) rows)
word-pending zero v rows = use_nil (has_row (codes "verb") rows)
word-pending (suc m) v rows = use_nil (has_row (codes "file") rows)

word-settled : (m : ℕ) (v : Text) (rows : List Row) → settled_rows rules_in (Some (word_id m, v ∷ [])) rows ≡ used_row (word_id m) v rows
word-settled zero v rows = refl
word-settled (suc m) v rows = refl

pub text-late : (rows : List Row) (n x : ℕ) (xs : Text) (rest : List Text) → (x == 45) ≡ false → is_early n ≡ false → outcome (state rows n) ((x ∷ xs) ∷ rest) ≡ None
text-late rows n x xs rest h late = fails (state rows n) (x ∷ xs) rest (text-turn x xs h rows n None ∙ late)

pub text-step : (rows : List Row) (n x : ℕ) (xs : Text) (ts : List WordForm) → (x == 45) ≡ false → list_all is_text ts ≡ true → is_early n ≡ true → has_row (word_id n) rows ≡ false
    → outcome (state rows n) ((x ∷ xs) ∷ map word_of ts) ≡ outcome (state (rows ++ row_of (word_id n) (x ∷ xs) ∷ []) (suc n)) (map word_of ts)
text-step rows n x xs ts h texts early fresh =
    steps (state rows n) _ (x ∷ xs) (map word_of ts) true (text-turn x xs h rows n None ∙ early) (text-walk x xs h rows n None early)
    ∙ settles ts rows (suc n) (Some (word_id n, (x ∷ xs) ∷ [])) texts
    ∙ ap₂ (λ (b : Bool) (rs : List Row). cond b (outcome (state rs (suc n)) (map word_of ts)) None) (word-pending n (x ∷ xs) rows) (word-settled n (x ∷ xs) rows)
    ∙ joins (word_id n) (x ∷ xs) rows (λ rs. outcome (state rs (suc n)) (map word_of ts))
    ∙ ap (λ b. cond b None (outcome (state (rows ++ row_of (word_id n) (x ∷ xs) ∷ []) (suc n)) (map word_of ts))) fresh
