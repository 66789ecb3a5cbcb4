-- The order as a text.
use Rattle.std.specs.Prelude.{ℕ, ◌<◌, List, [], ◌∷◌, ◌++◌, codes, decimal, slice_index}
use Rattle.std.specs.List.{flat_map}
use Rattle.gl_base.specs.declared.entries.Entry.{Entry}
use Rattle.gl_base.specs.declared.entries.Entry.TheVariants.{Go, Restart}
use Rattle.graph_core.specs.DataGraph.{DataGraph, size}

-- an update is of a vertex of the graph
abbrev pub IsEntryOf : DataGraph → Entry → Type 0
IsEntryOf g (Go machine vertex ticket) = vertex.0 < size g
IsEntryOf g (Restart ticket) = Unit {0}

-- ticket, machine and identifier, one blank between, LF
abbrev pub update_line : ℕ → ℕ → ℕ → List ℕ
update_line ticket machine id = decimal ticket ++ 32 ∷ decimal machine ++ 32 ∷ decimal id ++ 10 ∷ []

-- the ticket, one blank, the word `restart`, LF
abbrev pub restart_line : ℕ → List ℕ
restart_line ticket = decimal ticket ++ 32 ∷ codes "restart" ++ 10 ∷ []

-- the line of an entry, where vertex v has the v-th identifier
abbrev pub entry_line : List ℕ → Entry → List ℕ
entry_line ids (Go machine vertex ticket) = update_line ticket machine.0 (slice_index ids vertex.0)
entry_line ids (Restart ticket) = restart_line ticket

-- the lines of the entries, in turn
abbrev pub order_text : List ℕ → List Entry → List ℕ
order_text ids order = flat_map (entry_line ids) order
