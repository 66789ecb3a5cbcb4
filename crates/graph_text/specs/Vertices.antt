-- Vertex texts.
use Rattle.std.specs.Prelude.{ℕ, ◌==◌, if◌then◌else◌, List, Option, None, Some, Result}
use Rattle.std.specs.List.{list_any}
use Rattle.gl_base.specs.declared.limits.TheConstants.{MAX_VERTICES}
use Rattle.gl_base.specs.declared.text_faults.TextFault.{TextFault}
use Rattle.gl_base.specs.declared.text_faults.TextFile.TheVariants.{Vertices}
use Rattle.gl_base.specs.declared.text_faults.TextKind.{TextKind}
use Rattle.gl_base.specs.declared.text_faults.TextKind.TheVariants.{Double}
use Rattle.graph_text.specs.lines.Says.{vertex_said}
use Rattle.graph_text.specs.Firsts.{Rules, items_of}

-- an identifier stands once
abbrev pub vertex_fault_after : List ℕ → ℕ → Option TextKind
vertex_fault_after ids id = if list_any (λ other. other == id) ids then Some Double else None

abbrev pub vertex_rules : Rules ℕ
vertex_rules = record { file = Vertices; says = vertex_said; fault_alone = λ id. None; fault_after = vertex_fault_after; most = MAX_VERTICES }

-- the identifiers of a vertex text in the order of its lines, or its first fault
abbrev pub vertices_of : List ℕ → Result (List ℕ) TextFault
vertices_of bytes = items_of vertex_rules bytes
