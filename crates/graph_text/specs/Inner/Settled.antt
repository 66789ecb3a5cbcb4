-- What is found in a text, once its items are looked at.
use Rattle.std.specs.Prelude.{◌≡◌, ℕ, ◌<◌, ◌≤◌, List, [], ◌∷◌, ◌++◌, length, slice_index, All, Option, None, Some, Result, Ok, Err, IfSome}
use Rattle.gl_base.specs.declared.text_faults.TextFault.{TextFault}
use Rattle.gl_base.specs.declared.text_faults.TextFile.{TextFile}
use Rattle.gl_base.specs.declared.text_faults.TextKind.{TextKind}
use Rattle.gl_base.specs.declared.text_faults.TextKind.TheVariants.{Unknown, SelfLoop as SelfLoopKind, Double, TooMany}
use Rattle.graph_core.specs.declared.graph_lists.GraphFault.{GraphFault}
use Rattle.graph_core.specs.declared.graph_lists.GraphFault.TheVariants.{DoubleVertex, UnknownVertex, SelfLoop, DoubleEdge, NoMemory as NoMemoryForGraph}
use Rattle.graph_text.specs.declared.lines.said.Ending.{Ending}
use Rattle.graph_text.specs.declared.lines.said.Ending.TheVariants.{Fault, Late as LateAt, Full}
use Rattle.graph_text.specs.lines.Found.{Found}
use Rattle.graph_text.specs.declared.lists.Reading.{Reading}
use Rattle.graph_text.specs.declared.lists.Reading.TheVariants.{Text, NoMemory}
use Rattle.graph_text.specs.Firsts.{Rules, text_fault, or_kind}

-- no more items than there may be, each of them such a one, and each with its line
pub record AreInLimits {X : Type 0} (is : X → Type 0) (most : ℕ) (found : Found X) : Type 0 where
  pub all : All is found.items
  pub few : length found.items ≤ most
  pub long : length found.places ≡ length found.items

-- the fault of the item at this place, and else that of a later one
abbrev pub bad_or : ℕ → Option TextKind → Option (ℕ × TextKind) → Option (ℕ × TextKind)
bad_or place None later = later
bad_or place (Some kind) later = Some (place, kind)

-- the first item with which something is wrong behind those before it, by its place
abbrev pub first_bad : {X : Type 0} → (List X → X → Option TextKind) → List X → List X → Option (ℕ × TextKind)
first_bad behind before [] = None
first_bad behind before (x ∷ xs) = bad_or (length before) (behind before x) (first_bad behind (before ++ x ∷ []) xs)

-- where nothing is wrong with the items, why no more was read
abbrev pub ended : {X : Type 0} → Rules X → List X → Option (Ending X) → Result (List X) TextFault
ended r items None = Ok items
ended r items (Some (Fault line kind)) = Err (text_fault r line kind)
ended r items (Some (LateAt line x kind)) = Err (text_fault r line (or_kind (r.fault_alone x) kind))
ended r items (Some (Full line x)) = Err (text_fault r line (or_kind (r.fault_after items x) TooMany))

abbrev pub settled_by : {X : Type 0} → Rules X → Found X → Option (ℕ × TextKind) → Result (List X) TextFault
settled_by r found (Some bad) = Err (text_fault r (slice_index found.places bad.0) bad.1)
settled_by r found None = ended r found.items found.ending

-- the items, or the first fault, of what was found
abbrev pub settled : {X : Type 0} → Rules X → Found X → Result (List X) TextFault
settled r found = settled_by r found (first_bad r.fault_after [] found.items)

-- the place and the kind of what is wrong with lists that make no graph
abbrev pub place_of : GraphFault → Option (ℕ × TextKind)
place_of (DoubleVertex place) = Some (place, Double)
place_of (UnknownVertex place) = Some (place, Unknown)
place_of (SelfLoop place) = Some (place, SelfLoopKind)
place_of (DoubleEdge place) = Some (place, Double)
place_of NoMemoryForGraph = None

-- it is one of so many places
abbrev pub IsPlacedIn : ℕ → GraphFault → Type 0
IsPlacedIn many fault = IfSome (place_of fault) (λ at. at.0 < many)

-- why a text is not read, where this is wrong with its items, which stand in these lines
abbrev pub refused_at : TextFile → List ℕ → Option (ℕ × TextKind) → Reading
refused_at file places None = NoMemory
refused_at file places (Some at) = Text (record { file = file; line = slice_index places at.0; kind = at.1 })
