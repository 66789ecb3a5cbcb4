-- What a seat of a board has found on links, from one of its states to a later one.
pub use Rattle.link_tables.specs.Sights.{HasSeen, Sees}
pub use Rattle.wire_board.specs.Seats.{LinkView, Sat, Seated, word_at}
use Rattle.std.specs.Prelude.{None, Some, ℕ, ◌⊎◌}
use Rattle.link_tables.specs.Seats.{number_in, sight}
use Rattle.link_tables.specs.declared.words.LinkWord.{LinkWord}
use Rattle.link_tables.specs.declared.words.LinkWord.TheVariants.{Bare, Out}
use Rattle.wire_board.specs.Led.{IsBare}

-- it has read the word of the link i, which said this
abbrev pub FoundWord : {M : Type 0} → Sat (Seated M) LinkView → Sat (Seated M) LinkView → ℕ → LinkWord → Type 0
FoundWord old new i word = HasSeen old new (sight (word_at i) (number_in word) None)

-- it has had the link i, which had this queue on it as it was taken
abbrev pub HadQueue : {M : Type 0} → Sat (Seated M) LinkView → Sat (Seated M) LinkView → ℕ → LinkView → Type 0
HadQueue old new i queue = (number : ℕ) × HasSeen old new (sight (word_at i) number (Some (i, queue)))

-- nothing was on the link i: the word said so, or it has had the link
abbrev pub FoundBare : {M : Type 0} → Sat (Seated M) LinkView → Sat (Seated M) LinkView → ℕ → Type 0
FoundBare old new i = FoundWord old new i Bare ⊎ ((queue : LinkView) × IsBare queue × HadQueue old new i queue)

-- it has heard nothing on the link i: nothing was there, or another seat had the link
abbrev pub FoundNothing : {M : Type 0} → Sat (Seated M) LinkView → Sat (Seated M) LinkView → ℕ → Type 0
FoundNothing old new i = FoundBare old new i ⊎ FoundWord old new i Out

-- it has read the word of the link i
abbrev pub HasLooked : {M : Type 0} → Sat (Seated M) LinkView → Sat (Seated M) LinkView → ℕ → Type 0
HasLooked old new i = (number : ℕ) × HasSeen old new (sight (word_at i) number None)
