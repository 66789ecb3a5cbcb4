-- What the reader of vertices makes of what it found.
use Rattle.std.specs.Prelude.{◌≡◌, ℕ, ◌≤◌, List, Option, None, Result, Ok, Err}
use Rattle.std.specs.List.Sorted.{IsPermutation}
use Rattle.gl_base.specs.declared.limits.TheConstants.{MAX_ID, MAX_VERTICES}
use Rattle.gl_base.specs.declared.text_faults.TextFault.{TextFault}
use Rattle.graph_text.specs.declared.lines.said.Ending.{Ending}
use Rattle.graph_text.specs.lines.Found.{Found}
use Rattle.graph_text.specs.declared.lists.VertexList.{VertexList}
use Rattle.graph_text.specs.declared.lists.Reading.{Reading}
use Rattle.graph_text.specs.declared.lists.Reading.TheVariants.{Text, ReadFault, NoMemory}
use Rattle.graph_text.specs.Vertices.{vertex_rules}
use Rattle.graph_text.specs.Inner.Settled.{AreInLimits, ended, settled}

-- identifiers that were found are within the limits
abbrev pub AreFound : Found ℕ → Type 0
AreFound found = AreInLimits (λ id. id ≤ MAX_ID) MAX_VERTICES found

-- the list of what was found
abbrev pub Lists : Found ℕ → Result VertexList Reading → Type 0
Lists found (Ok list) = (ids : List ℕ) × (settled vertex_rules found ≡ Ok ids) × IsPermutation ids list.ids.items
Lists found (Err (Text fault)) = settled vertex_rules found ≡ Err fault
Lists found (Err ReadFault) = ⊥
Lists found (Err NoMemory) = Unit {0}

-- the text ended well, or with this fault
abbrev pub Ends : List ℕ → Option (Ending ℕ) → Result (Unit {0}) TextFault → Type 0
Ends ids ending (Ok well) = ending ≡ None
Ends ids ending (Err fault) = ended vertex_rules ids ending ≡ Err fault
