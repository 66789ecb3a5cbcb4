-- The sections of a record: what each machine saved. A section is two rows, one of vertices and one of edges. A row is a count
-- and so many keys, each with its number.
use Rattle.std.specs.Prelude.{ℕ, zero, suc, ◌+◌, ◌-◌, ◌*◌, ◌==◌, if◌then◌else◌, nat_eq, List, ◌∷◌, length, Option, Some, None}
use Rattle.std.specs.List.{list_any}
use Rattle.std.specs.Option.{option_or}
use Rattle.store.specs.declared.store_format.header.Header.{Header}
use Rattle.store.specs.store_format.Fields.{field, bad_outside}

-- a key is above the one before it in its row, below the limit, and stands in no earlier row of its kind
abbrev pub key_fault : ℕ → List ℕ → ℕ → ℕ → ℕ → Option ℕ
key_fault limit taken least key at =
    option_or (bad_outside least limit key at) (if list_any (nat_eq key) taken then Some at else None)

-- the first bad one of so many keys, where these stand before them
abbrev pub keys_fault : ℕ → List ℕ → ℕ → ℕ → List ℕ → ℕ → Option ℕ
keys_fault limit taken least zero body at = None
keys_fault limit taken least (suc count) body at =
    option_or (key_fault limit taken least (field body at 4) at)
    (keys_fault limit (field body at 4 ∷ taken) (field body at 4 + 1) count body (at + 12))

-- so many keys, and those that stand before them
abbrev pub keys_taken : ℕ → List ℕ → ℕ → List ℕ → List ℕ
keys_taken zero body at taken = taken
keys_taken (suc count) body at taken = keys_taken count body (at + 12) (field body at 4 ∷ taken)

-- where a row ends
abbrev pub row_end : List ℕ → ℕ → ℕ
row_end body at = at + (4 + 12 * field body at 4)

-- the keys of a row, and those that stand before them
abbrev pub row_taken : List ℕ → ℕ → List ℕ → List ℕ
row_taken body at taken = keys_taken (field body at 4) body (at + 4) taken

-- The first bad field of a row, behind which `more` sections stand. It has no more keys than are left, and that of the last
-- section has all of these.
abbrev pub row_fault : ℕ → List ℕ → ℕ → List ℕ → ℕ → Option ℕ
row_fault limit taken more body at =
    option_or (bad_outside (if more == 0 then limit - length taken else 0) (limit - length taken + 1) (field body at 4) at)
    (keys_fault limit taken 0 (field body at 4) body (at + 4))

-- The first bad field of so many sections, where these vertices and edges stand before them. So each vertex and each edge
-- stands exactly once in a body without a fault.
abbrev pub sections_fault : Header → ℕ → List ℕ → List ℕ → List ℕ → ℕ → Option ℕ
sections_fault header zero vertices edges body at = None
sections_fault header (suc more) vertices edges body at =
    option_or (row_fault header.n vertices more body at)
    (option_or (row_fault header.m edges more body (row_end body at))
    (sections_fault header more (row_taken body at vertices) (row_taken body (row_end body at) edges) body (row_end body (row_end body at))))
