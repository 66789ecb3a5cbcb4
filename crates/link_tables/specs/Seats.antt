-- What a seat at a table of links knows, and how it stands.
use Rattle.std.specs.Prelude.{◌≡◌, ℕ, ◌+◌, ◌*◌, List, [], ◌∷◌, ◌++◌, Option, Some, None}
use Rattle.atomic_table.specs.Table.{Me}
use Rattle.link_tables.specs.declared.views.Sight.{Sight}
use Rattle.link_tables.specs.declared.views.View.{View}
use Rattle.link_tables.specs.declared.words.LinkWord.{LinkWord}
use Rattle.link_tables.specs.declared.words.LinkWord.TheVariants.{Bare, Laden, Out}

-- the number that stands in a link's word
abbrev pub number_in : LinkWord → ℕ
number_in Bare = 0
number_in Laden = 2
number_in Out = 1

-- where the word of a link stands; the word of tickets is that of the number many, and the word of the halt that of the number many + 1
abbrev pub word_at : ℕ → ℕ
word_at i = i * 8

abbrev pub sight : {Q : Type 0} → ℕ → ℕ → Option (ℕ × Q) → Sight Q
sight word number given = record { word = word; number = number; given = given }

abbrev pub view : {P Q : Type 0} → List P → Option (ℕ × Q) → ℕ → List (Sight Q) → View P Q
view parts link raised seen = record { parts = parts; link = link; raised = raised; seen = seen }

-- a seat: its view, and the link that it has with what is in it now
abbrev pub Sat : Type 0 → Type 0 → Type 0
Sat P Q = Me Q (View P Q)

-- the seat has these parts, and no link
pub record Rests {P Q : Type 0} (me : Sat P Q) (p : P) (others : List P) : Type 0 where
  pub parts : me.0.parts ≡ p ∷ others
  pub link : me.0.link ≡ None
  pub slots : me.1 ≡ []

-- the seat has these parts and the link i, which had q on it as it was taken and has r now
pub record HoldsLink {P Q : Type 0} (me : Sat P Q) (p : P) (others : List P) (i : ℕ) (q r : Q) : Type 0 where
  pub parts : me.0.parts ≡ p ∷ others
  pub link : me.0.link ≡ Some (i, q)
  pub slots : me.1 ≡ (i, r) ∷ []

-- the first of the parts is another
abbrev pub with_first : {P : Type 0} → P → List P → List P
with_first p [] = p ∷ []
with_first p (x ∷ xs) = p ∷ xs

-- the seat has read a word
abbrev pub saw : {P Q : Type 0} → View P Q → ℕ → ℕ → View P Q
saw v word number = view v.parts v.link v.raised (sight word number None ∷ v.seen)

-- ---- seats that are cut in two, and become one

abbrev pub without_second : {A : Type 0} → List A → List A
without_second [] = []
without_second (x ∷ []) = x ∷ []
without_second (x ∷ (y ∷ ys)) = x ∷ ys

abbrev pub only_second : {A : Type 0} → List A → List A
only_second [] = []
only_second (x ∷ []) = []
only_second (x ∷ (y ∷ ys)) = y ∷ []

-- the seat without its second part
abbrev pub first_alone : {P Q : Type 0} → View P Q → View P Q
first_alone v = view (without_second v.parts) v.link v.raised v.seen

-- a new seat with that part
abbrev pub second_alone : {P Q : Type 0} → View P Q → View P Q
second_alone v = view (only_second v.parts) None 0 []

abbrev pub together : {P Q : Type 0} → View P Q → View P Q → View P Q
together v w = view (v.parts ++ w.parts) v.link (v.raised + w.raised) v.seen

-- a seat that has gone into another
abbrev pub gone : {P Q : Type 0} → View P Q
gone = view [] None 0 []
