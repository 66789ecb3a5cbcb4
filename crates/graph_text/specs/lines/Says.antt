-- What a row says in a vertex text, and in an edge text.
use Rattle.std.specs.Prelude.{ℕ, ◌&&◌, Bool, true, false, if◌then◌else◌, nat_le, Option, None, Some, Result, Ok, Err}
use Rattle.gl_base.specs.declared.limits.TheConstants.{MAX_ID}
use Rattle.gl_base.specs.declared.text_faults.TextKind.{TextKind}
use Rattle.gl_base.specs.declared.text_faults.TextKind.TheVariants.{Fields, Number, TooLarge, NoWeight}
use Rattle.graph_core.specs.declared.graph_lists.EdgeIn.{EdgeIn}
use Rattle.graph_text.specs.declared.lines.said.Row.{Row}
use Rattle.graph_text.specs.declared.lines.said.Row.TheVariants.{Nothing, One, Two, Three}
use Rattle.graph_text.specs.declared.lines.said.Said.{Said}
use Rattle.graph_text.specs.declared.lines.said.Said.TheVariants.{Passed, Wrong, Late, Item}

-- an identifier
abbrev pub id_said : Option ℕ → Said ℕ
id_said None = Wrong Number
id_said (Some id) = if nat_le id MAX_ID then Item id else Wrong TooLarge

-- a line of one identifier
abbrev pub vertex_said : Row → Said ℕ
vertex_said Nothing = Passed
vertex_said (One id) = id_said id
vertex_said (Two from to) = Wrong Fields
vertex_said (Three from to weight) = Wrong Fields

-- the weight in the third field, where there is one: 1 where edges have none
abbrev pub row_weight : Bool → Option (Option ℕ) → Result ℕ TextKind
row_weight false third = Ok 1
row_weight true None = Err NoWeight
row_weight true (Some None) = Err Number
row_weight true (Some (Some weight)) = if nat_le weight 4294967295 then Ok weight else Err TooLarge

-- the edge, or a fault of its weight, which counts where nothing is wrong with the ends
abbrev pub weighed : ℕ → ℕ → Result ℕ TextKind → Said EdgeIn
weighed from to (Ok weight) = Item (record { from = from; to = to; weight = weight })
weighed from to (Err kind) = Late (record { from = from; to = to; weight = 0 }) kind

-- two ends: numbers, and then within the limit
abbrev pub row_ends : Option ℕ → Option ℕ → Result ℕ TextKind → Said EdgeIn
row_ends None to weight = Wrong Number
row_ends (Some from) None weight = Wrong Number
row_ends (Some from) (Some to) weight = if nat_le from MAX_ID && nat_le to MAX_ID then weighed from to weight else Wrong TooLarge

-- a line of two ends, and a weight where edges have one; what follows is passed over
abbrev pub edge_said : Bool → Row → Said EdgeIn
edge_said weighted Nothing = Passed
edge_said weighted (One id) = Wrong Fields
edge_said weighted (Two from to) = row_ends from to (row_weight weighted None)
edge_said weighted (Three from to weight) = row_ends from to (row_weight weighted (Some weight))
