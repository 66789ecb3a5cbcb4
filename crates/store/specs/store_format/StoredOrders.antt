-- The orders of the snapshots of a store.
use Rattle.std.specs.Prelude.{ℕ, zero, suc, ◌+◌, ◌*◌, ◌==◌, if◌then◌else◌, nat_lt, List, [], ◌∷◌}
use Rattle.gl_base.specs.declared.entries.Entry.{Entry}
use Rattle.gl_base.specs.declared.entries.Entry.TheVariants.{Go, Restart}
use Rattle.store.specs.store_format.Fields.{field}
use Rattle.store.specs.store_format.Entries.{kind_at}
use Rattle.store.specs.store_format.Bodies.{entry_count}

-- the entry at this place of a body
abbrev pub entry_at : List ℕ → ℕ → Entry
entry_at body at =
    if kind_at body at == 1
    then Go (record { 0 = field body (at + 2) 2 }) (record { 0 = field body (at + 4) 4 }) (field body (at + 8) 8)
    else Restart (field body (at + 8) 8)

-- so many entries, one behind the other
abbrev pub entries_from : ℕ → List ℕ → ℕ → List Entry
entries_from zero body at = []
entries_from (suc count) body at = entry_at body at ∷ entries_from count body (at + 16)

-- the entries of a body
abbrev pub body_entries : List ℕ → List Entry
body_entries body = entries_from (entry_count body) body 8

-- entries stand by their tickets, and at one ticket a Restart stands before a Go
abbrev pub entry_rank : Entry → ℕ
entry_rank (Go machine vertex ticket) = 2 * ticket + 1
entry_rank (Restart ticket) = 2 * ticket

-- the order with this entry, which stands before all that come after it and behind all others
abbrev pub put_in_order : Entry → List Entry → List Entry
put_in_order entry [] = entry ∷ []
put_in_order entry (first ∷ order) =
    if nat_lt (entry_rank entry) (entry_rank first) then entry ∷ first ∷ order else first ∷ put_in_order entry order

-- the order with these entries, one after another
abbrev pub with_entries : List Entry → List Entry → List Entry
with_entries order [] = order
with_entries order (entry ∷ entries) = with_entries (put_in_order entry order) entries

-- the order of the snapshot behind these records, where this is the order before them
abbrev pub order_behind : List Entry → List (List ℕ) → List Entry
order_behind order [] = order
order_behind order (body ∷ bodies) = order_behind (with_entries order (body_entries body)) bodies

-- the order of the snapshot that these records end with
abbrev pub stored_order : List (List ℕ) → List Entry
stored_order bodies = order_behind [] bodies
