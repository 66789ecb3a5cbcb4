-- The body of a record: a snapshot's number, the entries that the snapshots before it have not, and its sections.
use Rattle.std.specs.Prelude.{◌≡◌, ℕ, ◌+◌, ◌*◌, List, [], length, Option, None}
use Rattle.std.specs.Option.{option_or}
use Rattle.store.specs.declared.store_format.header.Header.{Header}
use Rattle.store.specs.store_format.Fields.{field, bad_outside}
use Rattle.store.specs.store_format.Entries.{entries_fault}
use Rattle.store.specs.store_format.Sections.{sections_fault}

-- how many bytes a body with so many entries has
abbrev pub body_size : Header → ℕ → ℕ
body_size header entries = 8 + 16 * entries + 8 * header.machines + 12 * header.n + 12 * header.m

-- how many entries a body has
abbrev pub entry_count : List ℕ → ℕ
entry_count body = field body 4 4

-- where its sections begin
abbrev pub sections_place : List ℕ → ℕ
sections_place body = 8 + 16 * entry_count body

-- the number of a body is this one, and below 4294967295
abbrev pub number_fault : ℕ → List ℕ → Option ℕ
number_fault number body =
    option_or (bad_outside number (number + 1) (field body 0 4) 0) (bad_outside 0 4294967295 number 0)

-- the place of the first bad field of the body of snapshot `number`
abbrev pub body_fault : Header → ℕ → List ℕ → Option ℕ
body_fault header number body =
    option_or (number_fault number body)
    (option_or (entries_fault header number 0 (entry_count body) body 8)
    (sections_fault header header.machines [] [] body (sections_place body)))

-- these bytes are the body of snapshot `number`
pub record IsBody (header : Header) (number : ℕ) (body : List ℕ) : Type 0 where
  pub size : length body ≡ body_size header (entry_count body)
  pub fields : body_fault header number body ≡ None

-- the sections of a body are right, and fill it
pub record HasSections (header : Header) (body : List ℕ) : Type 0 where
  pub size : length body ≡ body_size header (entry_count body)
  pub rows : sections_fault header header.machines [] [] body (sections_place body) ≡ None
