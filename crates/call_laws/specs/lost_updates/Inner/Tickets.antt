-- The tickets of updates.
use Rattle.std.specs.List.{flat_map, list_any}
use Rattle.std.specs.Prelude.{List, [], get_or, if◌then◌else◌, length, ℕ, ◌<◌, ◌==◌, ◌∷◌, ◌≤◌}
use Rattle.gl_base.specs.declared.entries.Entry.{Entry}
use Rattle.call_laws.specs.lost_updates.Lacking.{ticket_of}
use Rattle.gl_base.specs.declared.entries.Entry.TheVariants.{Go, Restart}

-- none is below one before it
abbrev pub Rise : List ℕ → Type 0
Rise tickets = (i j : ℕ) → i ≤ j → j < length tickets → get_or tickets i 0 ≤ get_or tickets j 0

-- the ticket of an update
abbrev pub update_ticket : Entry → List ℕ
update_ticket (Go machine vertex ticket) = ticket ∷ []
update_ticket (Restart ticket) = []

-- those of an order's updates
abbrev pub tickets_of : List Entry → List ℕ
tickets_of order = flat_map update_ticket order

-- the entry, where its ticket is not among these
abbrev pub kept_lacking : List ℕ → Entry → List Entry
kept_lacking tickets entry = if list_any (λ ticket. ticket == ticket_of entry) tickets then [] else entry ∷ []
