-- Edge texts over the identifiers of vertices.
use Rattle.std.specs.Prelude.{ℕ, Bool, List, Option, Result}
use Rattle.gl_base.specs.declared.limits.TheConstants.{MAX_EDGES}
use Rattle.gl_base.specs.declared.text_faults.TextFault.{TextFault}
use Rattle.gl_base.specs.declared.text_faults.TextFile.TheVariants.{Edges}
use Rattle.gl_base.specs.declared.text_faults.TextKind.{TextKind}
use Rattle.gl_base.specs.declared.text_faults.TextKind.TheVariants.{Double, Unknown, SelfLoop}
use Rattle.graph_core.specs.declared.graph_lists.EdgeIn.{EdgeIn}
use Rattle.graph_core.specs.GraphLists.{EdgeFaults, fault_of_ends, fault_of_edge}
use Rattle.graph_text.specs.lines.Says.{edge_said}
use Rattle.graph_text.specs.Firsts.{Rules, items_of}

-- in a text faults are called by their kind
abbrev pub edge_kinds : EdgeFaults TextKind
edge_kinds = record { unknown = Unknown; self_loop = SelfLoop; double = Double }

abbrev pub edge_fault_alone : List ℕ → EdgeIn → Option TextKind
edge_fault_alone ids e = fault_of_ends edge_kinds ids e

abbrev pub edge_fault_after : List ℕ → Bool → List EdgeIn → EdgeIn → Option TextKind
edge_fault_after ids directed before e = fault_of_edge edge_kinds ids directed before e

abbrev pub edge_rules : List ℕ → Bool → Bool → Rules EdgeIn
edge_rules ids directed weighted =
    record { file = Edges; says = edge_said weighted; fault_alone = edge_fault_alone ids; fault_after = edge_fault_after ids directed; most = MAX_EDGES }

-- the edges of an edge text in the order of its lines, or its first fault
abbrev pub edges_of : List ℕ → Bool → Bool → List ℕ → Result (List EdgeIn) TextFault
edges_of ids directed weighted bytes = items_of (edge_rules ids directed weighted) bytes
