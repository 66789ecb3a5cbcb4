-- Words and their forms.
use Rattle.std.proofs.Common.{◌≡◌, ◌==◌, ◌≤◌, ◌++◌, append-nil, arith, codes, drop, eqb-true, ltb-false, subst, take, true≢false, ◌||◌, ap, ap₂, sym, ◌∙◌, Bool, List, [], ◌∷◌, ℕ, Option, Some, None, is_some, length, map, refl, true, false, cond, nat_lt, not, suc, ◌+◌, ◌⊎◌, inl, inr}
use Rattle.std.specs.List.{position, position_or_len}
use Rattle.gl_base.specs.declared.usage_faults.Opt.TheVariants.{Number, Vertices, Edges, Weight}
use Rattle.std.specs.List.{cons_option}
use Rattle.std.specs.Prelude.{option_and_then}
use Rattle.std.specs.Option.{unwrap_or}
use Rattle.std.specs.Str.{bytes_eq}
use Rattle.std.proofs.lemmas.Slice.Eq.{bytes_eq-Decides}
use Rattle.std.proofs.lemmas.List.{take-append-drop}
use Rattle.gl_base.specs.declared.usage_faults.Opt.{Opt}
use Rattle.gl_base.specs.Texts.{Text}
use Rattle.job_io.specs.job_words.WordForms.{WordForm, bare, dashed_form, is_formed, joined, option_name, option_at, option_form, or_else, plain, report, any_option, word_form, word_forms, first_unformed}
use Rattle.job_io.specs.job_words.Inner.Spelling.{Spells, is_text, word_of}

is_some-or_else : (a b : Option WordForm) → is_some (or_else a b) ≡ (is_some a || is_some b)
is_some-or_else None b = refl
is_some-or_else (Some t) b = refl

-- one of the options, by tests
pub is_option : (word : Text) → is_some (any_option word)
    ≡ (is_some (option_at Number word) || (is_some (option_at Vertices word)
    || (is_some (option_at Edges word) || is_some (option_at Weight word))))
is_option word = rw (is_some-or_else, is_some-or_else, is_some-or_else) refl

-- what `a || b` comes to where its branches join
pub joined_or : (a b v : Bool) → ((a ≡ true) × (v ≡ true)) ⊎ ((a ≡ false) × (v ≡ b)) → v ≡ (a || b)
joined_or a b v (inl h) = rw (h.0, h.1) refl
joined_or a b v (inr h) = rw (h.0, h.1) refl

pub four_or : (a b c d : Bool) → (a || b || c || d) ≡ (a || (b || (c || d)))
four_or true b c d = refl
four_or false true c d = refl
four_or false false c d = refl

position_or_len-map : {X Y : Type 0} (p : Y → Bool) (f : X → Y) (xs : List X) → position_or_len p (map f xs) ≡ position_or_len (λ x. p (f x)) xs
position_or_len-map p f [] = refl
position_or_len-map p f (x ∷ xs) = ap (λ n. cond (not (p (f x))) (1 + n) 0) (position_or_len-map p f xs)

length-map : {X Y : Type 0} (f : X → Y) (xs : List X) → length (map f xs) ≡ length xs
length-map f [] = refl
length-map f (x ∷ xs) = ap suc (length-map f xs)

-- a place among the images
pub position-map : {X Y : Type 0} (p : Y → Bool) (f : X → Y) (xs : List X) → position p (map f xs) ≡ position (λ x. p (f x)) xs
position-map p f xs =
    ap₂ (λ (i n : ℕ). cond (nat_lt i n) (Some i) None) (position_or_len-map p f xs) (length-map f xs)

-- ---- formed words are the words of their forms

eq-bytes : (xs ys : Text) → bytes_eq xs ys ≡ true → xs ≡ ys
eq-bytes xs ys e = (bytes_eq-Decides xs ys).0 e

-- what `Spells` says of one word
abbrev IsWordOf : Text → WordForm → Type 0
IsWordOf word t = (is_text t ≡ true) × (word_of t ≡ word)

none≢some : {X : Type 0} (x : X) → None ≡ Some x → ⊥
none≢some x e = true≢false (ap is_some (sym e))

some_same : {X : Type 0} (x y : X) → Some x ≡ Some y → x ≡ y
some_same x y e = ap (λ o. unwrap_or o x) e

rest-word : (o : Opt) (word rest : Text) (t : WordForm) → word ≡ option_name o ++ rest → option_form o rest ≡ Some t → IsWordOf word t
rest-word o word [] t is e = subst (IsWordOf word) (some_same (bare o) t e) (refl, sym (is ∙ append-nil (option_name o)))
rest-word o word (c ∷ []) t is e = absurd (none≢some t e)
rest-word o word (c ∷ x ∷ xs) t is e = go (c == 61) refl e
  where
    go : (b : Bool) → (c == 61) ≡ b → cond b (Some (joined o (x ∷ xs))) None ≡ Some t → IsWordOf word t
    go true same h = subst (IsWordOf word) (some_same (joined o (x ∷ xs)) t h)
        (refl, ap (λ d. option_name o ++ d ∷ x ∷ xs) (sym (eqb-true c 61 same)) ∙ sym is)
    go false same h = absurd (none≢some t h)

option-word : (o : Opt) (word : Text) (t : WordForm) → option_at o word ≡ Some t → IsWordOf word t
option-word o word t e = go (bytes_eq (take (length (option_name o)) word) (option_name o)) refl e
  where
    go : (b : Bool) → bytes_eq (take (length (option_name o)) word) (option_name o) ≡ b
        → option_and_then (option_form o) (cond b (Some (drop (length (option_name o)) word)) None) ≡ Some t → IsWordOf word t
    go true same h = rest-word o word (drop (length (option_name o)) word) t
        (sym (take-append-drop (length (option_name o)) word) ∙ ap (λ front. front ++ drop (length (option_name o)) word) (eq-bytes _ _ same)) h
    go false same h = absurd (none≢some t h)

or_else-cases : (a b : Option WordForm) (t : WordForm) → or_else a b ≡ Some t → (a ≡ Some t) ⊎ (b ≡ Some t)
or_else-cases None b t e = inr e
or_else-cases (Some s) b t e = inl e

any_option-word : (word : Text) (t : WordForm) → any_option word ≡ Some t → IsWordOf word t
any_option-word word t e = elim (or_else-cases (option_at Number word) _ t e) [
  | inl h ↦ option-word Number word t h
  | inr rest ↦ elim (or_else-cases (option_at Vertices word) _ t rest) [
    | inl h ↦ option-word Vertices word t h
    | inr more ↦ elim (or_else-cases (option_at Edges word) _ t more) [
      | inl h ↦ option-word Edges word t h
      | inr h ↦ option-word Weight word t h
    ]
  ]
]

dashed-word : (word : Text) (t : WordForm) → dashed_form word ≡ Some t → IsWordOf word t
dashed-word word t e = go (bytes_eq word (codes "--report")) refl e
  where
    go : (b : Bool) → bytes_eq word (codes "--report") ≡ b → cond b (Some report) (any_option word) ≡ Some t → IsWordOf word t
    go true same h = subst (IsWordOf word) (some_same report t h) (refl, sym (eq-bytes word (codes "--report") same))
    go false same h = any_option-word word t h

token-word : (word : Text) (t : WordForm) → word_form word ≡ Some t → IsWordOf word t
token-word [] t e = absurd (none≢some t e)
token-word (x ∷ xs) t e = go (x == 45) refl e
  where
    go : (b : Bool) → (x == 45) ≡ b → cond b (dashed_form (x ∷ xs)) (Some (plain (x ∷ xs))) ≡ Some t → IsWordOf (x ∷ xs) t
    go true same h = dashed-word (x ∷ xs) t h
    go false same h = subst (IsWordOf (x ∷ xs)) (some_same (plain (x ∷ xs)) t h) (ap not same, refl)

spells_all : (words : List Text) → length words ≤ position_or_len (λ word. not (is_formed word)) words → Spells (word_forms words) words
spells_all [] h = record { formed = refl; spelled = refl }
spells_all (w ∷ ws) h = go (word_form w) refl h (spells_all ws)
  where
    go : (o : Option WordForm) → word_form w ≡ o → suc (length ws) ≤ cond (not (not (is_some o))) (1 + position_or_len (λ word. not (is_formed word)) ws) 0
        → (length ws ≤ position_or_len (λ word. not (is_formed word)) ws → Spells (word_forms ws) ws) → Spells (cons_option o (word_forms ws)) (w ∷ ws)
    go None e k rest = absurd (omega arith)
    go (Some t) e k rest =
        let here = token-word w t e in
        let tail = rest (omega arith) in
        record { formed = rw here.0 tail.formed; spelled = ap₂ (λ (a : Text) (b : List Text). a ∷ b) here.1 tail.spelled }

-- where each word is formed, the forms spell the words
pub spells : (words : List Text) → first_unformed words ≡ None → Spells (word_forms words) words
spells words e = spells_all words (go (nat_lt (position_or_len (λ word. not (is_formed word)) words) (length words)) refl e)
  where
    go : (b : Bool) → nat_lt (position_or_len (λ word. not (is_formed word)) words) (length words) ≡ b
        → cond b (Some (position_or_len (λ word. not (is_formed word)) words)) None ≡ None → length words ≤ position_or_len (λ word. not (is_formed word)) words
    go true t h = absurd (none≢some _ (sym h))
    go false t h = ltb-false _ _ t
