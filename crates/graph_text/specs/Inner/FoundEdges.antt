-- What the reader of edges makes of what it found.
use Rattle.std.specs.Prelude.{◌≡◌, ℕ, Bool, List, Option, None, Result, Ok, Err}
use Rattle.gl_base.specs.declared.limits.TheConstants.{MAX_EDGES}
use Rattle.gl_base.specs.declared.text_faults.TextFault.{TextFault}
use Rattle.graph_core.specs.declared.graph_lists.EdgeIn.{EdgeIn}
use Rattle.graph_core.specs.DataGraph.{DataGraph}
use Rattle.graph_core.specs.GraphLists.{IsGraphOf}
use Rattle.graph_text.specs.declared.lines.said.Ending.{Ending}
use Rattle.graph_text.specs.lines.Found.{Found}
use Rattle.graph_text.specs.declared.lists.Reading.{Reading}
use Rattle.graph_text.specs.declared.lists.Reading.TheVariants.{Text, ReadFault, NoMemory}
use Rattle.graph_text.specs.Edges.{edge_rules}
use Rattle.graph_text.specs.Inner.Settled.{AreInLimits, ended, settled}

-- edges that were found are within the limit
abbrev pub AreFoundEdges : Found EdgeIn → Type 0
AreFoundEdges found = AreInLimits (λ e. Unit {0}) MAX_EDGES found

-- the graph of what was found
abbrev pub Builds : List ℕ → Bool → Found EdgeIn → Result DataGraph Reading → Type 0
Builds ids directed found (Ok g) =
    ((weighted : Bool) → settled (edge_rules ids directed weighted) found ≡ Ok found.items) × IsGraphOf ids found.items directed g
Builds ids directed found (Err (Text fault)) = (weighted : Bool) → settled (edge_rules ids directed weighted) found ≡ Err fault
Builds ids directed found (Err ReadFault) = ⊥
Builds ids directed found (Err NoMemory) = Unit {0}

-- the text ended well, or with this fault
abbrev pub EndsEdges : List ℕ → Bool → List EdgeIn → Option (Ending EdgeIn) → Result (Unit {0}) TextFault → Type 0
EndsEdges ids directed edges ending (Ok well) = ending ≡ None
EndsEdges ids directed edges ending (Err fault) = (weighted : Bool) → ended (edge_rules ids directed weighted) edges ending ≡ Err fault
