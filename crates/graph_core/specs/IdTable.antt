-- Where an identifier stands in a list of identifiers that ascends.
use Rattle.std.specs.Prelude.{◌≡◌, ℕ, ◌+◌, ◌-◌, ◌/◌, ◌^◌, ◌<◌, ◌≤◌, List, length, slice_index, slice_get, Option, Some, MatchOption, Contains}
use Rattle.gl_base.specs.declared.numbers.Vertex.{Vertex}
use Rattle.gl_base.specs.Lists.{Ascends}
use Rattle.graph_core.specs.declared.id_table.IdTable.{IdTable}
use Rattle.graph_core.specs.declared.id_table.Form.{Form}
use Rattle.graph_core.specs.declared.id_table.Form.TheVariants.{Consecutive, Ranged}

-- the vertex that has the identifier, and None where none has it
abbrev pub IsVertexWith : List ℕ → ℕ → Option Vertex → Type 0
IsVertexWith ids id found = MatchOption found (¬ Contains ids id) (λ v. slice_get ids v.0 ≡ Some id)

-- the range of an identifier: its high bits, counted from the least identifier
abbrev pub range_of : ℕ → ℕ → ℕ → ℕ
range_of least shift id = (id - least) / 2 ^ shift

-- each identifier stands between the start of its range and the next one
pub record AreRanges (ids : List ℕ) (least shift : ℕ) (starts : List ℕ) : Type 0 where
  pub bits : shift < 64
  pub some : 0 < length starts
  pub low : (k : ℕ) → k < length ids → least ≤ slice_index ids k
  pub ascending : (r : ℕ) → r + 1 < length starts → slice_index starts r ≤ slice_index starts (r + 1)
  pub within : (r : ℕ) → r < length starts → slice_index starts r ≤ length ids
  pub found : (k : ℕ) → k < length ids → range_of least shift (slice_index ids k) + 1 < length starts
  pub begins : (k : ℕ) → k < length ids → slice_index starts (range_of least shift (slice_index ids k)) ≤ k
  pub ends : (k : ℕ) → k < length ids → k < slice_index starts (range_of least shift (slice_index ids k) + 1)

-- the form tells the place of each identifier
abbrev pub IsFormOf : List ℕ → Form → Type 0
IsFormOf ids (Consecutive least) = (k : ℕ) → k < length ids → slice_index ids k ≡ least + k
IsFormOf ids (Ranged ranges) = AreRanges ids ranges.least ranges.shift ranges.starts.items

-- the identifiers ascend, and the table is theirs
pub record IsTableOf (ids : List ℕ) (table : IdTable) : Type 0 where
  pub few : length ids < 2 ^ 32
  pub ascending : Ascends ids
  pub form : IsFormOf ids table.form
